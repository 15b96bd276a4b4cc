-- What lawful means, position by position in the journal.
use Rattle.std.specs.Prelude.{ℕ, ◌≡◌, List, reverse, take, slice_get, Some}
use Rattle.cml_board.specs.declared.entry.Entry.{Entry}
use Rattle.cml_board.specs.History.{Fits, answer}

module _ {M : Type 0} where
  -- the entries before position k of a journal, newest first
  abbrev pub before : List (Entry M) → ℕ → List (Entry M)
  before journal k = reverse (take k journal)

  -- the call at k fits the entries before it, and its reply is the answer there, and so not a wait
  pub record IsLawfulAt (journal : List (Entry M)) (k : ℕ) (entry : Entry M) : Type 0 where
    pub fits : Fits (before journal k) entry.call
    pub answered : answer (before journal k) entry.call ≡ Some entry.reply

  abbrev pub IsLawfulEverywhere : List (Entry M) → Type 0
  IsLawfulEverywhere journal = (k : ℕ) (entry : Entry M) → slice_get journal k ≡ Some entry → IsLawfulAt journal k entry
