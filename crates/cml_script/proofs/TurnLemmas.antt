-- A thread's turns, one after the other.
use Rattle.std.proofs.Common.{◌≡◌, ℕ, zero, suc, ◌+◌, ◌<◌, ◌≤◌, Bool, true, false, List, [], ◌∷◌, length, take, slice_get}
use Rattle.std.proofs.Common.{Option, Some, None, inl, inr, refl, sym, ap, ◌∙◌, arith}
use Rattle.std.proofs.lemmas.List.{take_all}
use Rattle.std.proofs.lemmas.Bool.{and_parts, false≢true, cases_lt}
use Rattle.cml_grammar.specs.{SourceLine, Lines}
use Rattle.cml_script.specs.declared.worker.Course.{Course}
use Rattle.cml_report.specs.{one_if, how_many, is_seated, is_called, is_apart, positions_where}
use Rattle.cml_script.specs.{goes_apart, Made, IsTurn, IsUnderWay, HasTaken}
use Rattle.cml_report.proofs.ListLemmas.{how_many-le, count_taken, taken_all, taken_count}
use Rattle.cml_report.proofs.LineLemmas.{none_within, called_seated}
use Rattle.cml_report.proofs.QueueLemmas.{positions_count, position_is}
use Rattle.cml_script.proofs.WorkLemmas.{turn_within}

-- of the items between two places, no more pass the narrower test
narrower : {X : Type 0} (p q : X → Bool) (xs : List X) (a b : ℕ) → ((x : X) → q x ≡ true → p x ≡ true) → a ≤ b
    → how_many q (take b xs) + how_many p (take a xs) ≤ how_many p (take b xs) + how_many q (take a xs)
narrower p q [] zero zero implied le = omega arith
narrower p q [] zero (suc b) implied le = omega arith
narrower p q [] (suc a) zero implied le = omega arith
narrower p q [] (suc a) (suc b) implied le = omega arith
narrower p q (x ∷ xs) zero zero implied le = omega arith
narrower p q (x ∷ xs) zero (suc b) implied le = let ih = narrower p q xs zero b implied (omega arith) in
    let here = fewer (p x) (q x) (implied x) in omega (arith, ih, here)
  where
    fewer : (s t : Bool) → (t ≡ true → s ≡ true) → one_if t ≤ one_if s
    fewer true true implied = omega arith
    fewer true false implied = omega arith
    fewer false true implied = absurd (false≢true (implied refl))
    fewer false false implied = omega arith
narrower p q (x ∷ xs) (suc a) zero implied le = absurd (omega arith)
narrower p q (x ∷ xs) (suc a) (suc b) implied le = let ih = narrower p q xs a b implied (omega arith) in omega (arith, ih)

apart_seated : (script : Lines) (seat : ℕ) (line : SourceLine) → goes_apart script seat line ≡ true → is_seated script seat line ≡ true
apart_seated script seat line goes = (and_parts (is_seated script seat line) (is_apart script line) goes).0

-- between two places with no turn between them there is nothing of the thread
none_between : (script : Lines) (seat : ℕ) (q : SourceLine → Bool) (a b : ℕ)
    → ((line : SourceLine) → q line ≡ true → is_seated script seat line ≡ true)
    → how_many (is_seated script seat) (take a script.steps) ≡ how_many (is_seated script seat) (take b script.steps)
    → how_many q (take a script.steps) ≡ how_many q (take b script.steps)
none_between script seat q a b implied same = elim (cases_lt a b) [
  | inl lt ↦ up a b (omega (arith, lt)) same
  | inr ge ↦ sym (up b a ge (sym same))
]
  where
    up : (a b : ℕ) → a ≤ b → how_many (is_seated script seat) (take a script.steps) ≡ how_many (is_seated script seat) (take b script.steps)
        → how_many q (take a script.steps) ≡ how_many q (take b script.steps)
    up a b le same =
        let fewer = narrower (is_seated script seat) q script.steps a b implied le in
        let more = taken_count q script.steps a b le in
        omega (arith, same, fewer, more)

module _ (script : Lines) (seat taken : ℕ) {course : Course} {made : Option Made} (so : HasTaken script seat taken course made) where
  -- it is under way at any such place
  pub under_way_at : (i : ℕ) → how_many (is_seated script seat) (take i script.steps) ≡ taken → IsUnderWay script seat i course made
  under_way_at i here = let under = so.way in record {
    entries = under.entries;
    apart = under.apart;
    told = under.told;
    by = under.by;
    count = under.count;
    called = under.called ∙ none_between script seat (is_called script seat) so.place i (called_seated script seat) (so.behind ∙ sym here);
    gone = under.gone ∙ none_between script seat (goes_apart script seat) so.place i (apart_seated script seat) (so.behind ∙ sym here);
    suiting = under.suiting;
    steps = under.steps;
    does = under.does;
    bound = under.bound;
  }

  -- as where the text ends, when all were taken
  past_there : how_many (is_seated script seat) script.steps ≤ taken → IsUnderWay script seat (length script.steps) course made
  past_there all =
      let few = taken_all (is_seated script seat) script.steps so.place in
      let whole = ap (how_many (is_seated script seat)) (take_all (length script.steps) script.steps (omega arith)) in
      under_way_at (length script.steps) (omega (arith, all, few, whole, so.behind))

  -- since there is no more turn
  pub past_turns : slice_get (positions_where (is_seated script seat) 0 script.steps) taken ≡ None
      → IsUnderWay script seat (length script.steps) course made
  past_turns none =
      past_there (omega (
        arith,
        none_within (positions_where (is_seated script seat) 0 script.steps) taken none,
        positions_count (is_seated script seat) 0 script.steps,
      ))

  -- or as many were taken as the script has steps
  pub past_steps : length script.steps ≤ taken → IsUnderWay script seat (length script.steps) course made
  past_steps all = past_there (omega (arith, all, how_many-le (is_seated script seat) script.steps))

-- there is no turn then
pub none_past : (script : Lines) (seat i : ℕ) → IsTurn script seat i → i < length script.steps
none_past script seat i turn = turn_within script seat i turn

module _ (script : Lines) (seat taken i : ℕ)
    (next : slice_get (positions_where (is_seated script seat) 0 script.steps) taken ≡ Some i) where
  -- the next turn
  pub turn_at : IsTurn script seat i
  turn_at =
      let there = position_is (is_seated script seat) 0 script.steps taken i next in
      let same : i ≡ there.place = omega (arith, there.at) in
      record { line = there.line; found = ap (slice_get script.steps) same ∙ there.found; seated = there.seated }

  pub turns_before : how_many (is_seated script seat) (take i script.steps) ≡ taken
  turns_before =
      let there = position_is (is_seated script seat) 0 script.steps taken i next in
      let same : i ≡ there.place = omega (arith, there.at) in
      ap (λ n. how_many (is_seated script seat) (take n script.steps)) same ∙ there.behind

  -- after it
  pub one_taken : {course : Course} {made : Option Made} → IsUnderWay script seat (i + 1) course made
      → HasTaken script seat (taken + 1) course made
  one_taken under = record {
    place = i + 1;
    behind = count_taken (is_seated script seat) script.steps i turn_at.line turn_at.found
        ∙ omega (arith, turns_before, ap one_if turn_at.seated);
    way = under;
  }
