-- When no thread could go on.
use Rattle.std.proofs.Common.{◌≡◌, ℕ, ◌+◌, ◌-◌, ◌<◌, ◌≤◌, Bool, true, false, cond, ◌&&◌, List, [], ◌∷◌, length, map, take, slice_get}
use Rattle.std.proofs.Common.{Option, Some, None, refl, sym, ap, subst, ◌∙◌, arith, inl, inr}
use Rattle.std.specs.Prelude.{◌↔◌, IsTrue, All}
use Rattle.std.specs.Option.{option_map_or, option_and_then}
use Rattle.std.proofs.lemmas.Option.{same_Some, none-some, slice_get_within}
use Rattle.std.proofs.lemmas.List.{length-map, length-take-le}
use Rattle.std.proofs.lemmas.Bool.{cases_lt}
use Rattle.cml_board.specs.{Call, Fits, answer}
use Rattle.cml_board.specs.declared.entry.Who.TheVariants.{Seat}
use Rattle.cml_grammar.specs.{Step, SourceLine, Lines, names_of, seat_of_step, source_of, ReadsStep}
use mir.Val.{bool_byte}
use Rattle.cml_report.specs.{Route, one_if, how_many, History, declared_count, is_apart, is_by_ring, is_called, next_position, performed}
use Rattle.cml_report.specs.{positions_where, route_of_line, step_call, Tallied, is_laid, HasSeats, route_at, WaitsOrIsDone, is_before}
use Rattle.cml_report.specs.{is_passed, IsAllMoved, NobodyGoesOn, Progress, next_call}
use Rattle.cml_report.specs.declared.route.Route.TheVariants as route
use Rattle.cml_report.specs.Left.{is_by_lane}
use Rattle.cml_report.proofs.ListLemmas.{how_many-append, mapped_at, taken_more}
use Rattle.cml_report.proofs.QueueLemmas.{position_is, positions_pushed}
use Rattle.cml_report.proofs.LineLemmas.{all_at, byte_more, called_seated, stands}

pub one_more : (P : ℕ → Type 0) (n : ℕ) → ((k : ℕ) → k < n → P k) → P n → (k : ℕ) → k < n + 1 → P k
one_more P n each last k lt =
    elim (cases_lt k n) [ inl before ↦ each k before | inr ge ↦ let same : n ≡ k = omega (arith, lt, ge) in subst P same last ]

-- the tests that are made at a board's end
pub stuck_iff : (script told : Lines) (limit : ℕ) (history kept : History) (tally : Tallied) (t : Bool) → told ≡ script → kept ≡ history
    → declared_count told ≤ length kept → length history < limit
    → IsAllMoved told kept tally → IsTrue t ↔ ((seat : ℕ) → WaitsOrIsDone told kept seat)
    → IsTrue t ↔ NobodyGoesOn script limit history tally
stuck_iff script told limit history kept tally t one same made room moved test =
    let here = subst (λ (h : History). IsTrue t ↔ ((seat : ℕ) → WaitsOrIsDone script h seat)) same
    (subst (λ (s : Lines). IsTrue t ↔ ((seat : ℕ) → WaitsOrIsDone s kept seat)) one test) in
    let begun =
    subst (λ (h : History). declared_count script ≤ length h) same (subst (λ (s : Lines). declared_count s ≤ length kept) one made) in
    let apart = subst (λ (h : History). IsAllMoved script h tally) same (subst (λ (s : Lines). IsAllMoved s kept tally) one moved) in
    (λ yes. record { made = begun; room = room; waits = here.0 yes; apart = apart }, λ stuck. here.1 stuck.waits)

-- one more step
pub passed_more : (test : SourceLine → Bool) (passed : ℕ → Bool) (lines : List SourceLine) (i : ℕ) (line : SourceLine)
    → slice_get lines i ≡ Some line
    → how_many passed (positions_where test 0 (take (i + 1) lines))
    ≡ how_many passed (positions_where test 0 (take i lines)) + one_if (test line && passed i)
passed_more test passed lines i line found =
    ap (λ l. how_many passed (positions_where test 0 l)) (taken_more lines i line found)
    ∙ ap (how_many passed) (positions_pushed test 0 (take i lines) line)
    ∙ how_many-append passed (positions_where test 0 (take i lines)) (cond (test line) ((0 + length (take i lines)) ∷ []) [])
    ∙ ap (λ n. how_many passed (positions_where test 0 (take i lines)) + n) (by_test (test line) (0 + length (take i lines)) here)
  where
    here : 0 + length (take i lines) ≡ i
    here = omega (arith, length-take-le i lines (omega (arith, slice_get_within lines i line found)))

    by_test : (t : Bool) (n : ℕ) → n ≡ i → how_many passed (cond t (n ∷ []) []) ≡ one_if (t && passed i)
    by_test true n same = let one : how_many passed (n ∷ []) ≡ one_if (passed n) = omega arith in one ∙ ap (λ m. one_if (passed m)) same
    by_test false n same = refl

-- how the step at a place goes
pub apart_at : (script : Lines) (i : ℕ) (line : SourceLine) → slice_get script.steps i ≡ Some line
    → is_by_ring (route_at script i) ≡ is_apart script line
apart_at script i line found = ap (λ o. is_by_ring (option_map_or (route_of_line script) o route.Seat)) found

pub laid_at : (script : Lines) (i : ℕ) (line : SourceLine) → slice_get script.steps i ≡ Some line
    → is_by_lane (route_at script i) ≡ is_laid script line
laid_at script i line found = ap (λ o. is_by_lane (option_map_or (route_of_line script) o route.Seat)) found

-- this many of the first steps that pass a test are passed
pub record ArePassed (test : SourceLine → Bool) (script : Lines) (history : History) (i n : ℕ) : Type 0 where
  pub count : n ≡ how_many (is_passed script history) (positions_where test 0 (take i script.steps))
  pub few : n ≤ i

pub passed_on : (test : SourceLine → Bool) (goes : Route → Bool) (script : Lines) (history : History) (i n byte : ℕ) (t : Bool)
    → ((line : SourceLine) → slice_get script.steps i ≡ Some line → goes (route_at script i) ≡ test line) → i < length script.steps
    → ArePassed test script history i n → byte ≡ bool_byte t → t ≡ (goes (route_at script i) && is_passed script history i)
    → ArePassed test script history (i + 1) (n + byte)
passed_on test goes script history i n byte t same within so_far one told =
    let passed = is_passed script history in
    let there = stands script.steps i within in
    let count = how_many passed (positions_where test 0 (take (i + 1) script.steps)) in
    let all : count ≡ n + one_if (test there.0 && passed i) =
    omega (arith, passed_more test passed script.steps i there.0 there.1, so_far.count) in
    let is = told ∙ ap (λ u. u && passed i) (same there.0 there.1) in
    let on = byte_more n count byte i t (test there.0 && passed i) all one is so_far.few in
    record { count = on.0; few = on.1 }

-- whether a step is passed, by the next one of its thread
pub passed_is : (script : Lines) (history : History) (items : List Step) (i : ℕ) (s : Step) (next : Option ℕ)
    → map (λ x. source_of x.line) items ≡ script.steps → All (ReadsStep (names_of script)) items → slice_get items i ≡ Some s
    → next ≡ next_position script history (Seat s.seat) → is_passed script history i ≡ is_before i next
passed_is script history items i s next lines reads found is =
    ap (λ o. option_map_or (λ (line : SourceLine). option_map_or (λ seat. is_before i (next_position script history (Seat seat)))
    (seat_of_step (names_of script) line.words) false) o false) (mapped_at (λ x. source_of x.line) items script.steps i s lines found)
    ∙ ap (λ o. option_map_or (λ seat. is_before i (next_position script history (Seat seat))) o false)
    (all_at (ReadsStep (names_of script)) items i s reads found).seat
    ∙ ap (is_before i) (sym is)

-- a step that is kept is one of the script's
pub kept_within : (p q : Progress) (items : List Step) (i : ℕ) → p ≡ q → map (λ x. source_of x.line) items ≡ p.script.steps
    → i < length items → i < length q.script.steps
kept_within p q items i e lines within =
    omega (
      arith,
      within,
      ap (λ (x : Progress). length x.script.steps) e,
      ap length lines,
      length-map items (λ (x : Step). source_of x.line),
    )

module _ (script : Lines) (history : History) where
  pub done_waits : (seat : ℕ) → next_position script history (Seat seat) ≡ None → WaitsOrIsDone script history seat
  done_waits seat none step next = absurd (none-some step (sym none ∙ next))

  at_step : (seat step : ℕ) → next_position script history (Seat seat) ≡ Some step
      → next_call script history (Seat seat) ≡ step_call script history step
  at_step seat step next = ap (option_and_then (step_call script history)) next

  -- the test of the call of a thread's next step tells whether it waits there
  pub waits_iff : (seat step : ℕ) (asked : Call (List ℕ)) (kept : History) (t : Bool) → next_position script history (Seat seat) ≡ Some step
      → next_call script history (Seat seat) ≡ Some asked → kept ≡ history
      → IsTrue t ↔ (Fits kept asked × (answer kept asked ≡ None)) → IsTrue t ↔ WaitsOrIsDone script history seat
  waits_iff seat step asked kept t next calls same test =
      let told = subst (λ (h : History). IsTrue t ↔ (Fits h asked × (answer h asked ≡ None))) same test in
      let here : step_call script history step ≡ Some asked = sym (at_step seat step next) ∙ calls in (
        λ yes other at. record { step = step; asked = asked; next = next; calls = here; fits = (told.0 yes).0; waits = (told.0 yes).1 },
        λ waits.
            let w = waits step next in
            let there = same_Some w.step step (sym w.next ∙ next) in
            let one = same_Some w.asked asked (sym w.calls ∙ ap (step_call script history) there ∙ here) in
            told.1
            (subst (λ (a : Call (List ℕ)). Fits history a) one w.fits, subst (λ (a : Call (List ℕ)). answer history a ≡ None) one w.waits),
      )

  -- one that makes no call doesn't wait
  pub no_call_waits : (seat step : ℕ) → next_position script history (Seat seat) ≡ Some step → next_call script history (Seat seat) ≡ None
      → WaitsOrIsDone script history seat → ⊥
  no_call_waits seat step next none waits =
      let w = waits step next in
      let there = same_Some w.step step (sym w.next ∙ next) in
      none-some w.asked (sym none ∙ at_step seat step next ∙ ap (step_call script history) (sym there) ∙ w.calls)

  -- threads have the seats from 1 to 64
  pub all_threads : HasSeats script → ((k : ℕ) → k < 64 → WaitsOrIsDone script history (k + 1)) → (seat : ℕ)
      → WaitsOrIsDone script history seat
  all_threads seats each seat step next =
      let there = position_is (is_called script seat) 0 script.steps (performed history seat) step next in
      let bounds = seats there.place there.line seat there.found (called_seated script seat there.line there.seated) in
      let same : seat - 1 + 1 ≡ seat = omega (arith, bounds.0) in
      subst (λ s. WaitsOrIsDone script history s) same (each (seat - 1) (omega (arith, bounds.0, bounds.1))) step next
