-- The makers of a history with one entry more.
use Rattle.std.proofs.Common.{◌≡◌, ◌≤◌, ◌+◌, ℕ, List, [], ◌∷◌, length, arith, ap, ◌∙◌}
use Rattle.std.specs.Prelude.{max}
use Rattle.cml_board.specs.{Entry, Who, ring_by, rings_in, AreMakers, capped, behind_seat, behind_lane, behind_feed, seats_of, lanes_of}
use Rattle.cml_board.specs.{feeds_of}
use Rattle.cml_board.specs.declared.restored.Makers.{Makers}
use Rattle.cml_board.specs.declared.entry.Who.TheVariants.{Seat, Lane, Feed}

capped_max : (one two : ℕ) → max (capped one) (capped two) ≡ capped (max one two)
capped_max one two = omega arith

ring_is_one : (who : Who) → ring_by who ≤ 1
ring_is_one (Seat number) = omega arith
ring_is_one (Lane number) = omega arith
ring_is_one (Feed number) = omega arith

module _ {M : Type 0} where
  -- no more entries are of lanes and feeds than there are
  pub rings_within : (history : List (Entry M)) → rings_in history ≤ length history
  rings_within [] = omega arith
  rings_within (entry ∷ before) = omega (arith, rings_within before, ring_is_one entry.who)

  pub makers_with : (history : List (Entry M)) (entry : Entry M) (old new : Makers) → AreMakers history old
      → new.seats ≡ max old.seats (capped (behind_seat entry.who))
      → new.lanes ≡ max old.lanes (capped (behind_lane entry.who))
      → new.feeds ≡ max old.feeds (capped (behind_feed entry.who))
      → new.rings ≡ old.rings + ring_by entry.who
      → AreMakers (entry ∷ history) new
  makers_with history entry old new are seats lanes feeds rings = record {
    seats = seats ∙ ap (λ n. max n (capped (behind_seat entry.who))) are.seats ∙ capped_max (seats_of history) (behind_seat entry.who);
    lanes = lanes ∙ ap (λ n. max n (capped (behind_lane entry.who))) are.lanes ∙ capped_max (lanes_of history) (behind_lane entry.who);
    feeds = feeds ∙ ap (λ n. max n (capped (behind_feed entry.who))) are.feeds ∙ capped_max (feeds_of history) (behind_feed entry.who);
    rings = rings ∙ ap (λ n. n + ring_by entry.who) are.rings;
  }
