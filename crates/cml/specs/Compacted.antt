-- The text of a short journal that leaves what a journal leaves.
use Rattle.std.specs.Prelude.{◌≡◌, ℕ, ◌-◌, Bool, true, false, None, List, reverse, ⊤}
use Rattle.cml_board.specs.{Entry, RestoredShown}
use Rattle.cml_board.specs.Shown.{Shown}
use Rattle.cml_board.specs.declared.entry.Who.TheVariants.{Seat}
use Rattle.cml_compact.specs.{AllBy, Compacts}
use Rattle.cml_journal.specs.{AreShort, IsTooLong, piece_lines, sealed_piece_lines, text_of}
use Rattle.cml.specs.declared.check.ending.Ending.{Ending}
use Rattle.cml.specs.declared.check.ending.Ending.TheVariants.{NoMemory, TooLong}

module _ {M : Type 0} where
  -- a board that leaves the same, all of whose entries one seat made: the last before the seats that are made next
  pub record IsShortened (restored : RestoredShown M) (new : Shown M) : Type 0 where
    pub compacts : Compacts restored.board new
    pub by : AllBy (Seat (restored.makers.seats - 1)) new.history

  -- a piece of these entries from position 0 on, which has a sum or none
  abbrev pub whole_piece : ℕ → (M → List ℕ) → Bool → List (Entry M) → List ℕ
  whole_piece version text true entries = text_of (sealed_piece_lines version text None 0 entries)
  whole_piece version text false entries = text_of (piece_lines version text 0 entries)

  -- the text is such a piece, and a reader takes each line
  abbrev pub IsTextOf : ℕ → (M → List ℕ) → Bool → List (Entry M) → List ℕ → Type 0
  IsTextOf version text sealed entries written = (written ≡ whole_piece version text sealed entries) × AreShort text entries

  -- the text has just the entries of such a board, and is sealed if the long journal is
  pub record IsCompactOf (version : ℕ) (text : M → List ℕ) (sealed : Bool) (restored : RestoredShown M) (written : List ℕ) : Type 0 where
    pub new : Shown M
    pub is : IsShortened restored new
    pub told : IsTextOf version text sealed (reverse new.history) written

  -- these entries were not written: a line is too long for a reader, or there was no memory
  abbrev pub IsUnwritten : (M → List ℕ) → List (Entry M) → Ending → Type 0
  IsUnwritten text entries (TooLong place) = IsTooLong text entries place
  IsUnwritten text entries NoMemory = ⊤
  IsUnwritten text entries ending = ⊥

  -- there is no such text: a line of such a board is too long for a reader, or there was no memory
  abbrev pub IsNoneOf : (M → List ℕ) → RestoredShown M → Ending → Type 0
  IsNoneOf text restored (TooLong place) = (new : Shown M) × IsShortened restored new × IsTooLong text (reverse new.history) place
  IsNoneOf text restored NoMemory = ⊤
  IsNoneOf text restored ending = ⊥
