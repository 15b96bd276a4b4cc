-- What lanes moved, beside what threads sent by them.
use Rattle.std.proofs.Common.{◌≡◌, ℕ, zero, suc, ◌+◌, ◌<◌, ◌≤◌, Bool, true, false, ◌&&◌, ◌||◌, eqb, cond, List, [], ◌∷◌}
use Rattle.std.proofs.Common.{◌++◌, length, map, take, drop, reverse, get_or, slice_get, Option, Some, refl, sym, ap}
use Rattle.std.proofs.Common.{subst, ◌∙◌, append_assoc, inl, inr, arith}
use Rattle.std.specs.Prelude.{◌≢◌, ◌↔◌, All, IsTrue, MatchOption}
use Rattle.std.specs.Bool.{then_some}
use Rattle.std.specs.Option.{option_map, option_map_or, option_and_then}
use Rattle.std.specs.List.{list_any}
use Rattle.std.proofs.lemmas.List.{length-map, append-nil, append_cancel_left, reverse-append, take-append-drop, take_all, at_drop_more}
use Rattle.std.proofs.lemmas.Option.{same_Some, none-some, slice_get_within, get_or_from_slice_get}
use Rattle.std.proofs.lemmas.Bool.{cases_Bool, or_right, false≢true}
use Rattle.cml_board.specs.{Call, Entry, before}
use Rattle.cml_grammar.specs.{Step, Lane, SourceLine, Lines, names_of, source_of, ReadsStep, ReadsLane, used_by, Laid, lane_of}
use Rattle.cml_report.specs.{History, number_of, route_of, call_on, is_laid, is_of_name, is_laid_to, call_to, sends_to, is_moved_to}
use Rattle.cml_report.specs.{is_moved_on, moved_to, IsInOrder, IsInOrderAt, IsOnLine, AreOnLines, IsNextLaid, IsSent, IsNotSent, IsBehind}
use Rattle.cml_report.specs.Left.{is_by_lane}
use Rattle.cml_report.proofs.LineLemmas.{stands, step_seated, step_route}
use Rattle.cml_report.proofs.JournalLemmas.{before_more}
use Rattle.cml_report.proofs.ListLemmas.{taken_more}
use Rattle.cml_report.proofs.ObjectLemmas.{any_pushed, lane_read}

pub any_at : {X : Type 0} (p : X → Bool) (xs : List X) (i : ℕ) (x : X) → slice_get xs i ≡ Some x → p x ≡ true → list_any p xs ≡ true
any_at p [] i x found passes = absurd (none-some x found)
any_at p (y ∷ ys) zero x found passes = ap (λ t. t || list_any p ys) (ap p (same_Some y x found) ∙ passes)
any_at p (y ∷ ys) (suc i) x found passes = or_right (p y) (list_any p ys) (any_at p ys i x found passes)

pub same_head : {X : Type 0} (x y : X) (xs ys : List X) → x ∷ xs ≡ y ∷ ys → x ≡ y
same_head x y xs ys e = same_Some x y (ap (λ l. slice_get l 0) e)

-- What a thread sends.

drop_here : {X : Type 0} (xs : List X) (i : ℕ) (x : X) → slice_get xs i ≡ Some x → drop i xs ≡ x ∷ drop (i + 1) xs
drop_here xs i x found =
    at_drop_more (λ l. l) xs i x (slice_get_within xs i x found) ∙ ap (λ y. y ∷ drop (i + 1) xs) (get_or_from_slice_get xs i x x found)

module _ (script : Lines) (seat at : ℕ) where
  -- a step that is sent so, and one that isn't
  pub sends_here : (i : ℕ) (line : SourceLine) → slice_get script.steps i ≡ Some line → is_laid_to script seat at line ≡ true
      → sends_to script seat at (drop i script.steps) ≡ call_to script at line ∷ sends_to script seat at (drop (i + 1) script.steps)
  sends_here i line found laid =
      let rest = sends_to script seat at (drop (i + 1) script.steps) in
      ap (sends_to script seat at) (drop_here script.steps i line found) ∙ ap (λ t. cond t (call_to script at line ∷ rest) rest) laid

  pub sends_past : (i : ℕ) (line : SourceLine) → slice_get script.steps i ≡ Some line → is_laid_to script seat at line ≡ false
      → sends_to script seat at (drop i script.steps) ≡ sends_to script seat at (drop (i + 1) script.steps)
  sends_past i line found other =
      let rest = sends_to script seat at (drop (i + 1) script.steps) in
      ap (sends_to script seat at) (drop_here script.steps i line found) ∙ ap (λ t. cond t (call_to script at line ∷ rest) rest) other

  -- what a test of the step at a place tells of its line
  pub line_laid : (shown : Lines) (items : List Step) (i : ℕ) (r t : Bool) → shown ≡ script
      → map (λ x. source_of x.line) items ≡ shown.steps
      → i < length items → r ≡ option_map_or (is_laid_to script seat at) (slice_get script.steps i) false → r ≡ t
      → (line : SourceLine) × (slice_get script.steps i ≡ Some line) × (is_laid_to script seat at line ≡ t)
  line_laid shown items i r t same lines within tested is =
      let long = ap length lines ∙ ap (λ (s : Lines). length s.steps) same in
      let there = stands script.steps i (omega (arith, within, long, length-map items (λ (x : Step). source_of x.line))) in
      let laid = sym (ap (λ o. option_map_or (is_laid_to script seat at) o false) there.1) ∙ sym tested ∙ is in
      (there.0, there.1, laid)

  pub laid_to_is : (s : Step) → ReadsStep (names_of script) s
      → is_laid_to script seat at (source_of s.line)
      ≡ (eqb s.seat seat && (is_by_lane (route_of script (Some s.seat) s.action) && eqb (used_by s.action) at))
  laid_to_is s reads =
      let line = source_of s.line in
      let named : is_of_name script at line ≡ eqb (used_by s.action) at =
      ap (λ o. option_map_or (λ a. eqb (used_by a) at) o false) reads.action in
      ap (λ t. t && (is_laid script line && is_of_name script at line)) (step_seated script s seat reads)
      ∙ ap (λ r. eqb s.seat seat && (is_by_lane r && is_of_name script at line)) (step_route script s reads)
      ∙ ap (λ t. eqb s.seat seat && (is_by_lane (route_of script (Some s.seat) s.action) && t)) named

  -- the next step from there on has this call, or another
  module _ (from i : ℕ) (asked : Call (List ℕ)) (laid : IsNextLaid script seat at from i) where
    pub sent_next : option_and_then (call_to script at) (slice_get script.steps i) ≡ Some asked → IsSent script seat at from asked (i + 1)
    sent_next has =
        let call : call_to script at laid.line ≡ Some asked = sym (ap (option_and_then (call_to script at)) laid.found) ∙ has in
        record {
          within = omega (arith, slice_get_within script.steps i laid.line laid.found);
          more = laid.more ∙ ap (λ c. c ∷ sends_to script seat at (drop (i + 1) script.steps)) call;
        }

    pub sent_other : (option_and_then (call_to script at) (slice_get script.steps i) ≡ Some asked → ⊥) → IsNotSent script seat at from asked
    sent_other other rest e =
        other (ap (option_and_then (call_to script at)) laid.found
        ∙ same_head (call_to script at laid.line) (Some asked) _ _ (sym laid.more ∙ e))

    pub sent_if : (t : Bool) (r : Option ℕ) → r ≡ then_some t (i + 1)
        → IsTrue t ↔ (option_and_then (call_to script at) (slice_get script.steps i) ≡ Some asked)
        → MatchOption r (IsNotSent script seat at from asked) (IsSent script seat at from asked)
    sent_if true r is has = subst (λ o. MatchOption o (IsNotSent script seat at from asked) (IsSent script seat at from asked)) (sym is)
        (sent_next (has.0 refl))
    sent_if false r is has = subst (λ o. MatchOption o (IsNotSent script seat at from asked) (IsSent script seat at from asked)) (sym is)
        (sent_other (λ e. absurd (false≢true (has.1 e))))

  pub none_sent : (from : ℕ) (asked : Call (List ℕ)) → sends_to script seat at (drop from script.steps) ≡ []
      → IsNotSent script seat at from asked
  none_sent from asked none rest e = absurd (none-some (Some asked) (ap (λ l. slice_get l 0) (sym none ∙ e)))

  pub call_is : (s : Step) → ReadsStep (names_of script) s
      → call_to script at (source_of s.line) ≡ Some (call_on s.action (record { 0 = number_of script at }))
  call_is s reads = ap (option_map (λ a. call_on a (record { 0 = number_of script at }))) reads.action

-- What lanes move.

module _ (lanes : List ℕ) (seat object : ℕ) where
  pub moved_one : (entry : Entry (List ℕ)) (past : History) → is_moved_to lanes seat object entry ≡ true
      → moved_to lanes seat object (entry ∷ past) ≡ moved_to lanes seat object past ++ Some entry.call ∷ []
  moved_one entry past moved =
      ap (λ t. cond t (moved_to lanes seat object past ++ Some entry.call ∷ []) (moved_to lanes seat object past)) moved

  pub moved_none : (entry : Entry (List ℕ)) (past : History) → is_moved_to lanes seat object entry ≡ false
      → moved_to lanes seat object (entry ∷ past) ≡ moved_to lanes seat object past
  moved_none entry past other =
      ap (λ t. cond t (moved_to lanes seat object past ++ Some entry.call ∷ []) (moved_to lanes seat object past)) other

  moved_behind : (later past : History)
      → moved_to lanes seat object (later ++ past) ≡ moved_to lanes seat object past ++ moved_to lanes seat object later
  moved_behind [] past = sym (append-nil (moved_to lanes seat object past))
  moved_behind (entry ∷ later) past =
      let ih = moved_behind later past in
      let by_past = moved_to lanes seat object past in
      let by_later = moved_to lanes seat object later in
      let by_both = moved_to lanes seat object (later ++ past) in
      let one : List (Option (Call (List ℕ))) = Some entry.call ∷ [] in
      elim (is_moved_to lanes seat object entry) as (λ t. cond t (by_both ++ one) by_both ≡ by_past ++ cond t (by_later ++ one) by_later) [
        | true ↦ ap (λ l. l ++ one) ih ∙ append_assoc by_past by_later one
        | false ↦ ih
      ]

whole_journal : (journal : List (Entry (List ℕ))) (k : ℕ) → reverse journal ≡ reverse (drop k journal) ++ before journal k
whole_journal journal k = ap reverse (sym (take-append-drop k journal)) ∙ reverse-append (take k journal) (drop k journal)

module _ (script : Lines) (lanes : List ℕ) (seat at : ℕ) (journal : List (Entry (List ℕ))) where
  -- so far lanes moved what the thread sent before this step
  abbrev pub IsSoFar : ℕ → ℕ → Type 0
  IsSoFar k from = moved_to lanes seat (number_of script at) (before journal k) ++ sends_to script seat at (drop from script.steps)
      ≡ sends_to script seat at script.steps

  pub so_far_all : (k from : ℕ) → length journal ≤ k → IsSoFar k from → IsInOrder script lanes (reverse journal) seat at
  so_far_all k from all so_far =
      let rest = sends_to script seat at (drop from script.steps) in
      (rest, ap (λ l. moved_to lanes seat (number_of script at) (reverse l) ++ rest) (sym (take_all k journal all)) ∙ so_far)

  module _ (k from : ℕ) (entry : Entry (List ℕ)) (found : slice_get journal k ≡ Some entry) (so_far : IsSoFar k from) where
    -- a message that the thread sends next
    pub moved_next : (next : ℕ) → is_moved_to lanes seat (number_of script at) entry ≡ true
        → sends_to script seat at (drop from script.steps) ≡ Some entry.call ∷ sends_to script seat at (drop next script.steps)
        → IsSoFar (k + 1) next
    moved_next next moved more =
        let past = moved_to lanes seat (number_of script at) (before journal k) in
        let rest = sends_to script seat at (drop next script.steps) in
        let one : List (Option (Call (List ℕ))) = Some entry.call ∷ [] in
        ap (λ l. l ++ rest) (ap (moved_to lanes seat (number_of script at)) (before_more journal k entry found)
        ∙ moved_one lanes seat (number_of script at) entry (before journal k) moved)
        ∙ append_assoc past one rest ∙ ap (λ l. past ++ l) (sym more) ∙ so_far

    -- an entry that is none of those
    pub moved_other : is_moved_to lanes seat (number_of script at) entry ≡ false → IsSoFar (k + 1) from
    moved_other other =
        ap (λ l. l ++ sends_to script seat at (drop from script.steps)) (ap (moved_to lanes seat (number_of script at))
        (before_more journal k entry found) ∙ moved_none lanes seat (number_of script at) entry (before journal k) other) ∙ so_far

    -- what comes after an entry that may come
    pub so_far_more : (next : ℕ) → IsBehind script lanes seat at from entry next → IsSoFar (k + 1) next
    so_far_more next behind = elim (cases_Bool (is_moved_to lanes seat (number_of script at) entry)) [
      | inl moved ↦ moved_next next moved (behind.moves moved).more
      | inr other ↦ subst (IsSoFar (k + 1)) (sym (behind.stays other)) (moved_other other)
    ]

    -- a message that the thread doesn't send next
    pub moved_astray : is_moved_to lanes seat (number_of script at) entry ≡ true
        → ((rest : List (Option (Call (List ℕ)))) → sends_to script seat at (drop from script.steps) ≢ Some entry.call ∷ rest)
        → IsInOrder script lanes (reverse journal) seat at → ⊥
    moved_astray moved other order =
        let object = number_of script at in
        let past = moved_to lanes seat object (before journal k) in
        let one : List (Option (Call (List ℕ))) = Some entry.call ∷ [] in
        let later = reverse (drop (k + 1) journal) in
        let more = moved_to lanes seat object later in
        let whole : moved_to lanes seat object (reverse journal) ≡ (past ++ one) ++ more =
        ap (moved_to lanes seat object) (whole_journal journal (k + 1) ∙ ap (λ b. later ++ b) (before_more journal k entry found))
        ∙ moved_behind lanes seat object later (entry ∷ before journal k)
        ∙ ap (λ l. l ++ more) (moved_one lanes seat object entry (before journal k) moved) in
        let same : past ++ sends_to script seat at (drop from script.steps) ≡ past ++ (Some entry.call ∷ (more ++ order.0)) =
        so_far ∙ sym order.1 ∙ ap (λ l. l ++ order.0) whole ∙ append_assoc (past ++ one) more order.0
        ∙ append_assoc past one (more ++ order.0) in
        other (more ++ order.0) (append_cancel_left past _ _ same)

-- the thread and the object of a lane line
pub moved_on_is : (script : Lines) (lanes : List ℕ) (entry : Entry (List ℕ)) (lane : Lane) → ReadsLane (names_of script) lane
    → is_moved_on script lanes entry (source_of lane.line) ≡ is_moved_to lanes lane.seat (number_of script lane.target) entry
moved_on_is script lanes entry lane reads =
    ap (λ o. option_map_or (λ (laid : (ℕ × ℕ) × ℕ). is_moved_to lanes laid.0.0 (number_of script laid.0.1) entry) o false) reads.says

-- a lane that a loop over a plan's lanes is at: the test of its thread and its object tells so of its line
pub lane_moved : (script shown : Lines) (items : List Lane) (i : ℕ) (lane : Lane) → shown ≡ script
    → map (λ l. source_of l.line) items ≡ shown.lanes
    → All (ReadsLane (names_of shown)) items → i < length items → lane ≡ get_or items i lane
    → (lanes : List ℕ) (entry : Entry (List ℕ)) (object : ℕ) (r t : Bool) → object ≡ number_of script lane.target
    → r ≡ is_moved_to lanes lane.seat object entry → r ≡ t
    → (slice_get script.lanes i ≡ Some (source_of lane.line)) × (is_moved_on script lanes entry (source_of lane.line) ≡ t)
lane_moved script shown items i lane same lines said within is lanes entry object r t number tested told =
    let read = lane_read script shown items i lane same lines said within is in (
      read.0,
      moved_on_is script lanes entry lane read.1 ∙ ap (λ n. is_moved_to lanes lane.seat n entry) (sym number) ∙ sym tested ∙ told,
    )

pub none_more : (p : SourceLine → Bool) (xs : List SourceLine) (i : ℕ) (x : SourceLine) → slice_get xs i ≡ Some x
    → list_any p (take i xs) ≡ false → p x ≡ false → list_any p (take (i + 1) xs) ≡ false
none_more p xs i x found none fails =
    ap (list_any p) (taken_more xs i x found) ∙ any_pushed p (take i xs) x ∙ ap (λ t. t || p x) none ∙ fails

-- the entries on lane lines before the last ones are so too
on_lines_before : (script : Lines) (lanes : List ℕ) (later past : History)
    → AreOnLines script lanes (later ++ past) → AreOnLines script lanes past
on_lines_before script lanes [] past all = all
on_lines_before script lanes (entry ∷ later) past all = on_lines_before script lanes later past all.1

pub on_line_at : (script : Lines) (lanes : List ℕ) (journal : List (Entry (List ℕ))) (k : ℕ) (entry : Entry (List ℕ))
    → slice_get journal k ≡ Some entry → AreOnLines script lanes (reverse journal) → IsOnLine script lanes entry
on_line_at script lanes journal k entry found all =
    let whole = whole_journal journal (k + 1) ∙ ap (λ b. reverse (drop (k + 1) journal) ++ b) (before_more journal k entry found) in
    (on_lines_before script lanes (reverse (drop (k + 1) journal)) (entry ∷ before journal k) (subst (AreOnLines script lanes) whole all)).0

-- the order on a lane line is that of its thread and its object
module _ (script : Lines) (lanes : List ℕ) (history : History) (k : ℕ) (lane : Lane)
    (found : slice_get script.lanes k ≡ Some (source_of lane.line)) (reads : ReadsLane (names_of script) lane) where
  pub order_at : IsInOrder script lanes history lane.seat lane.target → IsInOrderAt script lanes history k
  order_at order line laid there says =
      let e : laid ≡ ((lane.seat, lane.target), lane.capacity) = same_Some _ _
      (sym says ∙ ap (λ (l : SourceLine). lane_of (names_of script) l.words) (same_Some _ _ (sym there ∙ found)) ∙ reads.says) in
      subst (λ (x : Laid). IsInOrder script lanes history x.0.0 x.0.1) (sym e) order

  pub order_of : IsInOrderAt script lanes history k → IsInOrder script lanes history lane.seat lane.target
  order_of all = all (source_of lane.line) ((lane.seat, lane.target), lane.capacity) found reads.says
