-- What a look at a journal from elsewhere finds.
use Rattle.std.specs.Prelude.{ℕ, ◌≡◌, ◌≢◌, ◌+◌, List, ◌++◌, reverse, slice_get, Option, Some, None, Result, Ok, Err, ⊤}
use Rattle.cml_board.specs.declared.entry.Entry.{Entry}
use Rattle.cml_board.specs.declared.outcome.Refusal.TheVariants.{NoSuch, WrongKind}
use Rattle.cml_board.specs.declared.expected.Expected.{Expected}
use Rattle.cml_board.specs.declared.expected.Expected.TheVariants.{Reply, WouldWait, Refused}
use Rattle.cml_board.specs.declared.expected.Unlawful.{Unlawful}
use Rattle.cml_board.specs.declared.restored.Makers.{Makers}
use Rattle.cml_board.specs.Answered.{Answered}
use Rattle.cml_board.specs.History.{IsMade, IsTaken, Fits, Lawful, answer, no_entries, entries_in, with_entry}
use Rattle.cml_board.specs.Makers.{AreMakers, RestoredShown}
use Rattle.cml_board.specs.Positions.{before, IsLawfulAt}
use Rattle.cml_board.specs.Shown.{Shown}

-- what a checker shows: the history that it found lawful, or the first entry that isn't
abbrev pub Found : Type 0 → Type 0
Found M = Result (List (Entry M)) (Unlawful M)

module _ {M : Type 0} where
  -- the entry may follow this history: its call fits, and its reply is the answer
  abbrev pub IsLawfulNext : List (Entry M) → Entry M → Type 0
  IsLawfulNext history entry = Fits history entry.call × (answer history entry.call ≡ Some entry.reply)

  -- the first position at which the journal is unlawful: all before it is lawful
  pub record IsFirstUnlawful (journal : List (Entry M)) (k : ℕ) : Type 0 where
    pub entry : Entry M
    pub stands : slice_get journal k ≡ Some entry
    pub lawful : Lawful (before journal k)
    pub unlawful : IsLawfulAt journal k entry → ⊥

  -- the whole journal is lawful, or this is the first position at which it isn't
  abbrev pub Checks : List (Entry M) → Result ⊤ ℕ → Type 0
  Checks journal (Ok done) = Lawful (reverse journal)
  Checks journal (Err k) = IsFirstUnlawful journal k

  -- a history with the first k entries of the journal's next piece after it
  abbrev pub followed_by : List (Entry M) → List (Entry M) → ℕ → List (Entry M)
  followed_by history piece k = before piece k ++ history

  -- the journal's first position that is unlawful is in this piece, and the history is what stood before the piece
  pub record StopsAt (history piece : List (Entry M)) (at : ℕ) : Type 0 where
    pub k : ℕ
    pub entry : Entry M
    pub stands : slice_get piece k ≡ Some entry
    pub position : at ≡ entries_in history + k
    pub lawful : Lawful (followed_by history piece k)
    pub unlawful : IsLawfulNext (followed_by history piece k) entry → ⊥

  -- what becomes of an entry's call after a history that the entry may not follow
  abbrev pub Expects : List (Entry M) → Entry M → Expected M → Type 0
  Expects history entry (Reply reply) = Fits history entry.call × (answer history entry.call ≡ Some reply) × (reply ≢ entry.reply)
  Expects history entry WouldWait = Fits history entry.call × (answer history entry.call ≡ None)
  Expects history entry (Refused NoSuch) = ¬ (IsMade history entry.call)
  Expects history entry (Refused WrongKind) = IsMade history entry.call × ¬ (IsTaken history entry.call)
  Expects history entry (Refused refusal) = ⊥

  -- this becomes of the call of the piece's entry at this position, after the entries before it
  pub record IsExpected (history piece : List (Entry M)) (at : ℕ) (expected : Expected M) : Type 0 where
    pub k : ℕ
    pub entry : Entry M
    pub stands : slice_get piece k ≡ Some entry
    pub position : at ≡ entries_in history + k
    pub expects : Expects (followed_by history piece k) entry expected

  abbrev pub checked : Option (Unlawful M) → List (Entry M) → Found M
  checked None history = Ok history
  checked (Some unlawful) history = Err unlawful

  -- how many entries it found lawful
  abbrev pub count_of : Found M → ℕ
  count_of (Ok history) = entries_in history
  count_of (Err unlawful) = unlawful.at

  -- whether all that it was fed is lawful, or the first position that isn't
  abbrev pub verdict_of : Found M → Result ⊤ ℕ
  verdict_of (Ok history) = Ok tt
  verdict_of (Err unlawful) = Err unlawful.at

  -- what becomes of the first call whose entry is unlawful
  abbrev pub expected_of : Found M → Option (Expected M)
  expected_of (Ok history) = None
  expected_of (Err unlawful) = Some unlawful.expected

  -- a board that made each of these calls, and cut its journal then
  pub record HasMade (calls : List (Entry M)) (most : ℕ) (board : Shown M) : Type 0 where
    pub history : board.history ≡ calls
    pub past : board.past ≡ calls
    pub limit : board.limit ≡ most

  -- what becomes of a checker from which a board is made: such a board, or the checker where an entry is unlawful
  abbrev pub Restores : Found M → ℕ → Result (Shown M) (Found M) → Type 0
  Restores (Ok history) limit (Ok board) = HasMade history limit board
  Restores (Ok history) limit (Err back) = ⊥
  Restores (Err unlawful) limit (Ok board) = ⊥
  Restores (Err unlawful) limit (Err back) = back ≡ Err unlawful

  -- the same of such a board with the makers of this history, and of the checker that it was taken from, which is then as a
  -- new one
  abbrev pub RestoresWith : Found M → ℕ → Found M → Option (RestoredShown M) → Type 0
  RestoresWith (Ok history) limit new (Some restored) =
      HasMade history limit restored.board × AreMakers history restored.makers × (new ≡ Ok no_entries)
  RestoresWith (Ok history) limit new None = ⊥
  RestoresWith (Err unlawful) limit new (Some restored) = ⊥
  RestoresWith (Err unlawful) limit new None = new ≡ Err unlawful

  -- a checker shows that its first entry which is unlawful is this one of the piece, and what becomes of its call
  abbrev pub Shows : List (Entry M) → List (Entry M) → Found M → ℕ → Type 0
  Shows history piece new at =
      (expected : Expected M) × (new ≡ Err (record { at = at; expected = expected })) × IsExpected history piece at expected

  -- what becomes of a checker that is fed a piece: the journal is lawful with it, or this is its first position that isn't;
  -- once there is one it stays so
  abbrev pub Feeds : Found M → List (Entry M) → Found M → Result ⊤ ℕ → Type 0
  Feeds (Ok history) piece new (Ok done) = (new ≡ Ok (reverse piece ++ history)) × Lawful (reverse piece ++ history)
  Feeds (Ok history) piece new (Err at) = Shows history piece new at × StopsAt history piece at
  Feeds (Err first) piece new (Ok done) = ⊥
  Feeds (Err first) piece new (Err at) = (new ≡ Err first) × (at ≡ first.at)

  -- where memory was refused it has seen some of the piece, which is lawful
  abbrev pub Pauses : Found M → List (Entry M) → Found M → Type 0
  Pauses (Ok history) piece new = (k : ℕ) × (new ≡ Ok (followed_by history piece k)) × Lawful (followed_by history piece k)
  Pauses (Err first) piece new = ⊥

  -- inside a checker: a board whose entries are all cut away, with room for one, and their makers
  pub record IsClean (board : Shown M) (makers : Makers) : Type 0 where
    pub past : board.past ≡ board.history
    pub limit : board.limit ≡ 1
    pub lawful : Lawful board.history
    pub numbered : AreMakers board.history makers

  -- such a board was led along a piece, or stopped at its first entry that is unlawful
  abbrev pub Follows : Shown M → Shown M → Makers → List (Entry M) → Result ⊤ (Unlawful M) → Type 0
  Follows old new makers piece (Ok done) = IsClean new makers × (new.history ≡ reverse piece ++ old.history)
  Follows old new makers piece (Err unlawful) =
      IsExpected old.history piece unlawful.at unlawful.expected × StopsAt old.history piece unlawful.at

  -- it was led along some of it
  abbrev pub FollowsSome : List (Entry M) → List (Entry M) → List (Entry M) → Type 0
  FollowsSome history piece now = (k : ℕ) × (now ≡ followed_by history piece k)

  -- such a board was led along one entry, or stopped at it
  abbrev pub FollowsOne : Shown M → Shown M → Makers → Entry M → Option (Expected M) → Type 0
  FollowsOne old new makers entry None =
      IsLawfulNext old.history entry × (new.history ≡ with_entry old.history entry) × IsClean new makers
  FollowsOne old new makers entry (Some expected) =
      (IsLawfulNext old.history entry → ⊥) × Expects old.history entry expected

  -- the journal has an answer's call and reply at its position
  pub record IsNoted (journal : List (Entry M)) (answered : Answered M) : Type 0 where
    pub entry : Entry M
    pub stands : slice_get journal answered.at ≡ Some entry
    pub call : entry.call ≡ answered.call
    pub reply : entry.reply ≡ answered.reply
