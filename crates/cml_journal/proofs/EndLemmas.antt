-- How a text ends.
use Rattle.std.proofs.Common.{◌≡◌, ◌≢◌, ℕ, Bool, true, false, ◌==◌, if◌then◌else◌, List, length, Option, Some, None, refl, sym, ap}
use Rattle.std.proofs.Common.{subst, ◌∙◌, eq-eqb}
use Rattle.std.specs.Prelude.{◌↔◌}
use Rattle.std.proofs.lemmas.Bool.{ne_eqb, false≢true}
use Rattle.std.proofs.lemmas.List.{length-reverse}
use Rattle.std.proofs.lemmas.Option.{none-some}
use Rattle.cml_board.specs.{Entry, count_of}
use Rattle.cml_journal.specs.{Stage, State, Unended, end_by, first_unended, unended, unended_at, unended_behind}
use Rattle.cml_journal.specs.{Progress, IsSoFar, IsLawfulJournal}
use Rattle.cml_journal.specs.declared.fault.Unended.TheVariants.{Torn}
use Rattle.cml_journal.specs.declared.reader.Stage.TheVariants.{Waiting, Headed, Inside}
use Rattle.cml_journal.proofs.PositionLemmas.{ends_behind_last}
use Rattle.cml_journal.proofs.WordLemmas.{ok_is}

some_is_none : {X : Type 0} (x : X) → Some x ≡ None → ⊥
some_is_none x is = none-some x (sym is)

behind_is_whole : (before : Option ℕ) (lines left : ℕ) → unended_behind before lines left ≡ None
    → (end : ℕ) × ((if left == 0 then before else None) ≡ Some end)
behind_is_whole None lines left is = absurd (some_is_none (Torn lines) is)
behind_is_whole (Some end) lines left is = (end, by (left == 0) is)
  where
    by : (t : Bool) → (if t then None else Some (Torn lines)) ≡ None → (if t then Some end else None) ≡ Some end
    by true is = refl
    by false is = absurd (some_is_none (Torn lines) is)

-- a text is whole exactly if it has a line, and its last piece has its end
whole_is_ended : (version : ℕ) (stage : Stage) (lines : ℕ) (line : List ℕ) → unended_at version stage lines line ≡ None
    → (end : ℕ) × (end_by stage (length line) ≡ Some end) × (lines ≢ 0)
whole_is_ended version (Waiting before link) lines line is = by (lines == 0) refl is
  where
    first : Unended
    first = first_unended version link line

    by : (t : Bool) → (lines == 0) ≡ t → (if t then Some first else unended_behind before lines (length line)) ≡ None
        → (end : ℕ) × (end_by (Waiting before link) (length line) ≡ Some end) × (lines ≢ 0)
    by true none is = absurd (some_is_none first is)
    by false some is =
        let found = behind_is_whole before lines (length line) is in
        (found.0, found.1, λ none. false≢true (sym some ∙ eq-eqb lines 0 none))
whole_is_ended version (Headed before form) lines line is = absurd (some_is_none _ is)
whole_is_ended version (Inside position form) lines line is = absurd (some_is_none _ is)

ended_is_whole : (version : ℕ) (stage : Stage) (lines : ℕ) (line : List ℕ) (end : ℕ) → end_by stage (length line) ≡ Some end → lines ≢ 0
    → unended_at version stage lines line ≡ None
ended_is_whole version (Waiting before link) lines line end ended some =
    ap (λ t. if t then Some (first_unended version link line) else unended_behind before lines (length line)) (ne_eqb lines 0 some)
    ∙ by (length line == 0) before refl ended
  where
    by : (t : Bool) (found : Option ℕ) → (length line == 0) ≡ t → (if t then found else None) ≡ Some end
        → unended_behind found lines (length line) ≡ None
    by true None is e = absurd (none-some end e)
    by true (Some other) is e = ap (λ t. if t then None else Some (Torn lines)) is
    by false found is e = absurd (none-some end e)
ended_is_whole version (Headed before form) lines line end ended some = absurd (none-some end ended)
ended_is_whole version (Inside position form) lines line end ended some = absurd (none-some end ended)

module _ {M : Type 0} (version : ℕ) (meaning : List ℕ → Option M) where
  pub whole_journal : (progress : Progress M) (bytes : List ℕ) (told : Option Unended) → told ≡ unended version progress.state
      → IsSoFar version meaning bytes progress → (told ≡ None) ↔ IsLawfulJournal version meaning bytes (count_of progress.checker)
  whole_journal progress bytes told says so = (λ is. to (sym says ∙ is), λ is. says ∙ from is)
    where
      to : unended version progress.state ≡ None → IsLawfulJournal version meaning bytes (count_of progress.checker)
      to is =
          let ended = whole_is_ended version progress.state.stage progress.state.lines progress.state.line is in
          let at = ends_behind_last version meaning bytes progress.state so.entries ended.0 so.read ended.1 in
          let count : count_of progress.checker ≡ ended.0 = ap count_of so.checked ∙ length-reverse so.entries ∙ sym at in record {
            state = progress.state;
            entries = so.entries;
            read = so.read;
            whole = ended.2;
            ended = ended.1 ∙ ap (λ (n : ℕ). Some n) (sym count);
            counted = count ∙ at;
            lawful = so.lawful;
          }

      from : IsLawfulJournal version meaning bytes (count_of progress.checker) → unended version progress.state ≡ None
      from is =
          let same : is.state ≡ progress.state = ap (λ (told : State × List (Entry M)). told.0) (ok_is (is.state, is.entries)
          (progress.state, so.entries) (sym is.read ∙ so.read)) in
          subst (λ (s : State). unended version s ≡ None) same
          (ended_is_whole version is.state.stage is.state.lines is.state.line (count_of progress.checker) is.ended is.whole)
