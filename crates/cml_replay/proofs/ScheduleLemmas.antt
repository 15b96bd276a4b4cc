-- A script has one schedule: each entry is determined by those before it, and where one history ends no other goes on.
use Rattle.std.proofs.Common.{◌≡◌, ℕ, ◌+◌, ◌-◌, ◌<◌, ◌≤◌, Bool, true, false, ◌||◌, eqb, ltb, List, [], ◌∷◌, length, slice_get}
use Rattle.std.proofs.Common.{Option, Some, None, MatchBool, refl, ◌⊎◌, sym, ap, subst, ◌∙◌, arith, inl, inr}
use Rattle.std.specs.List.{IsDistinct, AllByRecursion, list_any}
use Rattle.std.specs.Option.{option_map_or}
use Rattle.std.proofs.lemmas.Option.{same_Some, slice_get_within}
use Rattle.std.proofs.lemmas.Bool.{or_right, cases_lt, cases_eq, cases_order, eqb-true, eq-eqb, ne_eqb, false≢true, lt-ltb, le-ltb}
use Rattle.std.proofs.lemmas.Map.Keys.{IsDistinct-cons}
use Rattle.std.proofs.lemmas.Map.Steps.{length-le_from_distinct_below}
use Rattle.cml_board.specs.{Call, Who, Reply, Entry, Lawful, answer}
use Rattle.cml_board.specs.declared.entry.Who.TheVariants.{Seat}
use Rattle.cml_grammar.specs.{SourceLine, Lines, names_of, seat_of_step}
use Rattle.cml_report.specs.{Stop, one_if, History, IsStep, IsDeclaration, Follows, Ends, is_seated, is_called, is_seat, earlier}
use Rattle.cml_report.specs.{performed, declared_count, next_position, step_call, left}
use Rattle.cml_replay.specs.{SchedulesAreOne}
use Rattle.cml_report.specs.declared.stop.Stop.TheVariants.{Done, Stalled, Full, Held}
use Rattle.cml_report.proofs.LineLemmas.{called_seated}
use Rattle.cml_report.proofs.GivingLemmas.{next_is}

entry_equal : (e f : Entry (List ℕ)) → e.who ≡ f.who → e.call ≡ f.call → e.reply ≡ f.reply → e ≡ f
entry_equal e f who asked replied =
    ap (λ (w : Who). let made : Entry (List ℕ) = record { who = w; call = e.call; reply = e.reply } in made) who
    ∙ ap (λ (c : Call (List ℕ)). let made : Entry (List ℕ) = record { who = f.who; call = c; reply = e.reply } in made) asked
    ∙ ap (λ (r : Reply (List ℕ)). let made : Entry (List ℕ) = record { who = f.who; call = f.call; reply = r } in made) replied

all_other : (xs : List ℕ) (j : ℕ) → ((q : ℕ) → list_any (eqb q) xs ≡ true → eqb j q ≡ false) → AllByRecursion (λ y. eqb j y ≡ false) xs
all_other [] j other = tt
all_other (x ∷ xs) j other = (
  other x (ap (λ t. t || list_any (eqb x) xs) (eq-eqb x x refl)),
  all_other xs j (λ q there. other q (or_right (eqb q x) (list_any (eqb q) xs) there)),
)

with_step : Bool → Option ℕ → List ℕ → List ℕ
with_step true next rest = rest
with_step false None rest = rest
with_step false (Some i) rest = i ∷ rest

module _ (script : Lines) where
  pub declares : (before : History) (entry : Entry (List ℕ)) → Follows script (entry ∷ before) → length before < declared_count script
      → IsDeclaration script before entry
  declares before entry follows lt = subst (λ t. MatchBool t (IsDeclaration script before entry) (IsStep script before entry))
      (lt-ltb (length before) (declared_count script) lt) follows.0

  pub steps : (before : History) (entry : Entry (List ℕ)) → Follows script (entry ∷ before)
      → declared_count script ≤ length before → IsStep script before entry
  steps before entry follows ge = subst (λ t. MatchBool t (IsDeclaration script before entry) (IsStep script before entry))
      (le-ltb (length before) (declared_count script) ge) follows.0

  -- a line is one thread's
  one_seat : (line other : SourceLine) (s t : ℕ) → line ≡ other → is_seated script s line ≡ true → is_seated script t other ≡ true → s ≡ t
  one_seat line other s t same first second =
      by_seat (seat_of_step (names_of script) line.words) first (ap (is_seated script t) same ∙ second)
    where
      by_seat : (o : Option ℕ) → option_map_or (λ n. eqb n s) o false ≡ true → option_map_or (λ n. eqb n t) o false ≡ true → s ≡ t
      by_seat None a b = absurd (false≢true a)
      by_seat (Some n) a b = sym (eqb-true n s a) ∙ eqb-true n t b

  -- The steps that a history performed.

  abbrev steps_of : History → List ℕ
  steps_of [] = []
  steps_of (entry ∷ before) =
      with_step (ltb (length before) (declared_count script)) (next_position script before entry.who) (steps_of before)

  declared_steps : (before : History) (entry : Entry (List ℕ)) → length before < declared_count script
      → steps_of (entry ∷ before) ≡ steps_of before
  unfolding with_step
  declared_steps before entry lt =
      ap (λ t. with_step t (next_position script before entry.who) (steps_of before)) (lt-ltb (length before) (declared_count script) lt)

  more_steps : (before : History) (entry : Entry (List ℕ)) → declared_count script ≤ length before → (s : IsStep script before entry)
      → steps_of (entry ∷ before) ≡ s.step ∷ steps_of before
  unfolding with_step
  more_steps before entry ge s =
      let next : next_position script before entry.who ≡ Some s.step = ap (next_position script before) s.by
      ∙ next_is script before s.seat s.step entry.call s.ready in
      ap (λ t. with_step t (next_position script before entry.who) (steps_of before)) (le-ltb (length before) (declared_count script) ge)
      ∙ ap (λ o. with_step false o (steps_of before)) next

  -- the step was performed: its thread is past it
  record IsPast (history : History) (i : ℕ) : Type 0 where
    seat : ℕ
    line : SourceLine
    found : slice_get script.steps i ≡ Some line
    seated : is_called script seat line ≡ true
    behind : earlier script seat i < performed history seat

  later : (before : History) (entry : Entry (List ℕ)) (i : ℕ) → IsPast before i → IsPast (entry ∷ before) i
  later before entry i past = record {
    seat = past.seat;
    line = past.line;
    found = past.found;
    seated = past.seated;
    behind = omega (arith, past.behind);
  }

  performed_one : (before : History) (entry : Entry (List ℕ)) (seat : ℕ) → entry.who ≡ Seat seat
      → performed (entry ∷ before) seat ≡ performed before seat + 1
  performed_one before entry seat by = ap (λ w. one_if (is_seat seat w) + performed before seat) by
      ∙ ap (λ t. one_if t + performed before seat) (eq-eqb seat seat refl) ∙ omega arith

  this_past : (before : History) (entry : Entry (List ℕ)) (s : IsStep script before entry) → IsPast (entry ∷ before) s.step
  this_past before entry s = record {
    seat = s.seat;
    line = s.ready.line;
    found = s.ready.found;
    seated = s.ready.seated;
    behind = omega (arith, s.ready.next, performed_one before entry s.seat s.by);
  }

  are_past : (history : History) → Follows script history → (q : ℕ) → list_any (eqb q) (steps_of history) ≡ true → IsPast history q
  are_past [] follows q there = absurd (false≢true there)
  are_past (entry ∷ before) follows q there = elim (cases_lt (length before) (declared_count script)) [
    | inl lt ↦ later before entry q (are_past before follows.1 q (ap (list_any (eqb q)) (sym (declared_steps before entry lt)) ∙ there))
    | inr ge ↦
        let s = steps before entry follows ge in
        by_first before entry q s (are_past before follows.1 q) (eqb q s.step) refl
        (ap (list_any (eqb q)) (sym (more_steps before entry ge s)) ∙ there)
  ]
    where
      by_first : (before : History) (entry : Entry (List ℕ)) (q : ℕ) (s : IsStep script before entry)
          → (list_any (eqb q) (steps_of before) ≡ true → IsPast before q) → (t : Bool) → eqb q s.step ≡ t
          → (t || list_any (eqb q) (steps_of before)) ≡ true → IsPast (entry ∷ before) q
      by_first before entry q s earlier_ones true e there =
          subst (IsPast (entry ∷ before)) (sym (eqb-true q s.step e)) (this_past before entry s)
      by_first before entry q s earlier_ones false e there = later before entry q (earlier_ones there)

  -- no step is performed twice
  distinct : (history : History) → Follows script history → IsDistinct eqb (steps_of history)
  unfolding IsDistinct
  distinct [] follows = tt
  distinct (entry ∷ before) follows = elim (cases_lt (length before) (declared_count script)) [
    | inl lt ↦ subst (IsDistinct eqb) (sym (declared_steps before entry lt)) (distinct before follows.1)
    | inr ge ↦
        let s = steps before entry follows ge in
        subst (IsDistinct eqb) (sym (more_steps before entry ge s)) (IsDistinct-cons eqb s.step (steps_of before) (all_other
        (steps_of before) s.step (λ q there. ne_eqb s.step q (λ same. new_step before entry s q (are_past before follows.1 q there) same)))
        (distinct before follows.1))
  ]
    where
      new_step : (before : History) (entry : Entry (List ℕ)) (s : IsStep script before entry) (q : ℕ) → IsPast before q → s.step ≡ q → ⊥
      new_step before entry s q past same =
          let line : s.ready.line ≡ past.line = same_Some _ _ (sym s.ready.found ∙ ap (slice_get script.steps) same ∙ past.found) in
          let seat : s.seat ≡ past.seat = one_seat s.ready.line past.line s.seat past.seat line
          (called_seated script s.seat s.ready.line s.ready.seated) (called_seated script past.seat past.line past.seated) in
          let before_it : earlier script s.seat s.step ≡ earlier script past.seat q = ap (λ n. earlier script n s.step) seat
          ∙ ap (earlier script past.seat) same in
          absurd (omega (arith, before_it, s.ready.next, past.behind, ap (performed before) seat))

  count : (history : History) → Follows script history → length (steps_of history) ≡ length history - declared_count script
  count [] follows = omega arith
  count (entry ∷ before) follows = elim (cases_lt (length before) (declared_count script)) [
    | inl lt ↦ omega (arith, lt, ap length (declared_steps before entry lt), count before follows.1)
    | inr ge ↦ omega (arith, ge, ap length (more_steps before entry ge (steps before entry follows ge)), count before follows.1)
  ]

  -- so as many are performed as there are, at most
  pub at_most : (history : History) → Follows script history → length history - declared_count script ≤ length script.steps
  at_most history follows =
      omega (
        arith,
        count history follows,
        length-le_from_distinct_below (steps_of history) (length script.steps) (distinct history follows) (λ q there.
            let past = are_past history follows q there in slice_get_within script.steps q past.line past.found),
      )

  -- where a history ends no entry comes next
  ended : (limit : ℕ) (history : History) (stop : Stop) (entry : Entry (List ℕ)) → Ends script limit history stop
      → Follows script (entry ∷ history) → length history < limit → ⊥
  ended limit history Full entry (full, rest) follows room = absurd (omega (arith, full, room))
  ended limit history Held entry ends follows room = absurd ends
  ended limit history Stalled entry (room, declared, rest, none) follows within =
      let s = steps history entry follows declared in none s.step s.seat entry.call s.ready
  ended limit history Done entry (declared, none) follows room =
      absurd (omega (arith, declared, none, at_most (entry ∷ history) follows))

  -- One entry at most comes next.

  one_entry : (before : History) (e f : Entry (List ℕ)) → Follows script (e ∷ before) → Follows script (f ∷ before)
      → answer before e.call ≡ Some e.reply → answer before f.call ≡ Some f.reply → e ≡ f
  one_entry before e f first second answered told = elim (cases_lt (length before) (declared_count script)) [
    | inl lt ↦
        let a = declares before e first lt in
        let b = declares before f second lt in
        with_calls (a.by ∙ sym b.by) (same_Some _ _ (sym a.makes ∙ b.makes))
    | inr ge ↦
        let a = steps before e first ge in
        let b = steps before f second ge in
        let same : a.step ≡ b.step = omega (arith, a.least b.step b.seat f.call b.ready, b.least a.step a.seat e.call a.ready) in
        let line : a.ready.line ≡ b.ready.line = same_Some _ _ (sym a.ready.found ∙ ap (slice_get script.steps) same ∙ b.ready.found) in
        let seat : a.seat ≡ b.seat = one_seat a.ready.line b.ready.line a.seat b.seat line
        (called_seated script a.seat a.ready.line a.ready.seated) (called_seated script b.seat b.ready.line b.ready.seated) in
        with_calls (a.by ∙ ap Seat seat ∙ sym b.by) (same_Some _ _ (sym a.ready.calls ∙ ap (step_call script before) same ∙ b.ready.calls))
  ]
    where
      with_calls : e.who ≡ f.who → e.call ≡ f.call → e ≡ f
      with_calls who asked = entry_equal e f who asked (same_Some _ _ (sym answered ∙ ap (answer before) asked ∙ told))

  shared : (one other : History) → Follows script one → Lawful one → Follows script other → Lawful other
      → length one ≡ length other → one ≡ other
  shared [] [] f l g m same = refl
  shared [] (e ∷ rest) f l g m same = absurd (omega (arith, same))
  shared (e ∷ before) [] f l g m same = absurd (omega (arith, same))
  shared (e ∷ before) (d ∷ rest) f l g m same =
      let tails : before ≡ rest = shared before rest f.1 l.2 g.1 m.2 (omega (arith, same)) in
      ap (λ entry. entry ∷ before) (one_entry before e d f (subst (λ h. Follows script (d ∷ h)) (sym tails) g) l.1
      (subst (λ h. answer h d.call ≡ Some d.reply) (sym tails) m.1)) ∙ ap (λ h. d ∷ h) tails

  no_longer : (limit : ℕ) (one other : History) (stop : Stop) → Follows script one → Lawful one → Ends script limit one stop
      → Follows script other → Lawful other → length other ≤ limit → length one < length other → ⊥
  no_longer limit one [] stop f l ends g m room lt = absurd (omega (arith, lt))
  no_longer limit one (e ∷ rest) stop f l ends g m room lt = elim (cases_eq (length one) (length rest)) [
    | inl same ↦
        let here : one ≡ rest = shared one rest f l g.1 m.2 same in
        ended limit one stop e ends (subst (λ h. Follows script (e ∷ h)) (sym here) g) (omega (arith, room, same))
    | inr differs ↦ no_longer limit one rest stop f l ends g.1 m.2 (omega (arith, room)) (omega (arith, lt, differs))
  ]

  -- something is left, or nothing is
  left_over : (history : History) → ((0 < left script history) ⊎ (length history < declared_count script))
      → (declared_count script ≤ length history) × (left script history ≡ 0) → ⊥
  left_over history (inl more) (all, none) = absurd (omega (arith, more, none))
  left_over history (inr few) (all, none) = absurd (omega (arith, few, all))

  one_stop : (limit : ℕ) (history : History) (first second : Stop) → Ends script limit history first
      → Ends script limit history second → first ≡ second
  one_stop limit history Held second a b = absurd a
  one_stop limit history first Held a b = absurd b
  one_stop limit history Full Full a b = refl
  one_stop limit history Stalled Stalled a b = refl
  one_stop limit history Done Done a b = refl
  one_stop limit history Full Stalled a b = absurd (omega (arith, a.0, b.0))
  one_stop limit history Stalled Full a b = absurd (omega (arith, a.0, b.0))
  one_stop limit history Full Done a b = absurd (left_over history a.1 b)
  one_stop limit history Done Full a b = absurd (left_over history b.1 a)
  one_stop limit history Stalled Done a b = absurd (omega (arith, a.2, b.1))
  one_stop limit history Done Stalled a b = absurd (omega (arith, a.1, b.2))

pub one_schedule : SchedulesAreOne
one_schedule script limit one other first second a b = elim (cases_order (length one) (length other)) [
  | inl same ↦
      let equal : one ≡ other = shared script one other a.follows a.lawful b.follows b.lawful same in
      (equal, one_stop script limit one first second a.ends (subst (λ h. Ends script limit h second) (sym equal) b.ends))
  | inr (inl lt) ↦ absurd (no_longer script limit one other first a.follows a.lawful a.ends b.follows b.lawful b.room lt)
  | inr (inr gt) ↦ absurd (no_longer script limit other one second b.follows b.lawful b.ends a.follows a.lawful a.room gt)
]
