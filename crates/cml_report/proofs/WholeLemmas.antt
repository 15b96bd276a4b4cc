-- A board whose journal was never cut.
use Rattle.std.proofs.Common.{◌≡◌, ◌+◌, ◌<◌, ◌≤◌, List, [], ◌++◌, reverse, sym, ap, ◌∙◌, arith}
use Rattle.std.proofs.Math.Nat.{min-le_left}
use Rattle.std.proofs.lemmas.List.{append-nil, reverse-reverse}
use Rattle.cml_board.specs.{Entry, entries_in, full_at, HasRoom}
use Rattle.cml_board.specs.Shown.{Shown}

module _ {M : Type 0} where
  -- its journal has all entries
  pub whole_journal : (board : Shown M) (journal : List (Entry M)) → board.past ≡ []
      → reverse journal ++ board.past ≡ board.history → journal ≡ reverse board.history
  whole_journal board journal whole entries =
      let all : reverse journal ≡ board.history = sym (append-nil (reverse journal))
      ∙ ap (λ past. reverse journal ++ past) (sym whole) ∙ entries in
      sym (reverse-reverse journal) ∙ ap reverse all

  -- its limit is that of all entries
  pub whole_room : (board : Shown M) → board.past ≡ [] → entries_in board.history ≤ full_at board → entries_in board.history ≤ board.limit
  whole_room board whole room =
      omega (arith, room, ap entries_in whole, min-le_left (entries_in board.past + board.limit) 18446744073709551615)

  pub whole_below : (board : Shown M) → board.past ≡ [] → HasRoom board → entries_in board.history < board.limit
  whole_below board whole room =
      omega (arith, room, ap entries_in whole, min-le_left (entries_in board.past + board.limit) 18446744073709551615)
