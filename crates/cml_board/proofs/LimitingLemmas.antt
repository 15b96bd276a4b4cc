-- A board whose journal was cut keeps all that it keeps under another limit.
use Rattle.std.proofs.Common.{◌≡◌, ℕ, ◌+◌, ◌≤◌, ◌^◌, ap, arith}
use Rattle.std.proofs.Math.Nat.{min-le_right, le-min}
use Rattle.cml_board.specs.{entries_in}
use Rattle.cml_board.specs.Shown.{Shown}
use Rattle.cml_board.specs.Keeps.{Keeps}

module _ {M : Type 0} where
  abbrev pub with_limit : Shown M → ℕ → Shown M
  with_limit board limit =
      record { history = board.history; past = board.past; limit = limit; objects = board.objects; reserved = board.reserved }

  pub keeps_limit : (chunk limit : ℕ) (board : Shown M) → Keeps chunk board → board.past ≡ board.history → limit ≤ 2 ^ 32
      → Keeps chunk (with_limit board limit)
  keeps_limit chunk limit board keeps cut most =
      let one : entries_in board.history ≤ entries_in board.past + limit = omega (arith, ap entries_in cut) in
      let two : entries_in board.history ≤ 18446744073709551615 =
      omega (arith, keeps.room, min-le_right (entries_in board.past + board.limit) 18446744073709551615) in
      record {
        lawful = keeps.lawful;
        shows = keeps.shows;
        room = le-min one two;
        bounded = most;
        holds_one = keeps.holds_one;
        small = keeps.small;
      }
