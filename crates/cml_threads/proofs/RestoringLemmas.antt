-- How many entries of a history are of lanes and feeds.
use Rattle.std.proofs.Common.{◌≡◌, ◌≤◌, List, [], ◌∷◌, arith}
use Rattle.cml_board.specs.{Who, Entry, ring_by, entries_in, rings_in, behind_seat, seats_of}
use Rattle.cml_board.specs.declared.entry.Who.TheVariants.{Seat, Lane, Feed}

one_at_most : (who : Who) → ring_by who ≤ 1
one_at_most (Seat number) = omega arith
one_at_most (Lane number) = omega arith
one_at_most (Feed number) = omega arith

one_of_no_seat : (who : Who) → behind_seat who ≡ 0 → ring_by who ≡ 1
one_of_no_seat (Seat number) none = absurd (omega (arith, none))
one_of_no_seat (Lane number) none = omega arith
one_of_no_seat (Feed number) none = omega arith

module _ {M : Type 0} where
  pub rings_within : (history : List (Entry M)) → rings_in history ≤ entries_in history
  rings_within [] = omega arith
  rings_within (entry ∷ before) = omega (arith, rings_within before, one_at_most entry.who)

  -- if no seat made an entry, all are of lanes and feeds
  pub all_rings : (history : List (Entry M)) → seats_of history ≡ 0 → rings_in history ≡ entries_in history
  all_rings [] none = omega arith
  all_rings (entry ∷ before) none =
      omega (arith, all_rings before (omega (arith, none)), one_of_no_seat entry.who (omega (arith, none)))
