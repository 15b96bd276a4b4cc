-- Each ring stays, whatever a call does to one lane or one feed.
use Rattle.std.proofs.Common.{◌≡◌, ℕ, List, Option, Some, refl, subst}
use Rattle.cml_lanes.specs.{LaneSide, FeedSide, FloorShown, KeepsRings, OnPlace}
use Rattle.cml_board.specs.Shown.{Shown}
use Rattle.cml_lanes.proofs.SlotsLemmas.{same_places}
use Rattle.cml_lanes.proofs.OneSlotLemmas.{told_before}

module _ {M : Type 0} where
  -- no lane or feed is another, and each open one was open
  pub same_rings : (old new : FloorShown M) → new.lanes ≡ old.lanes → new.feeds ≡ old.feeds → KeepsRings old new
  same_rings old new lanes feeds = (
    same_places (λ (side : LaneSide M). side.ring) old.lanes new.lanes lanes,
    same_places (λ (side : FeedSide M). side.ring) old.feeds new.feeds feeds,
  )

module _ {M : Type 0} {board : Shown M} {lanes : List (Option (LaneSide M))} {feeds : List (Option (FeedSide M))}
    {old : FloorShown M} {number : ℕ} where
  pub lane_rings : {news : List (Option (LaneSide M))} {left : LaneSide M → Option (LaneSide M)} {Does : LaneSide M → LaneSide M → Type 0}
      → ((from to side : LaneSide M) → Does from to → left to ≡ Some side → side.ring ≡ from.ring)
      → record { board = board; lanes = lanes; feeds = feeds } ≡ old → OnPlace left number lanes news Does
      → KeepsRings old (record { board = board; lanes = news; feeds = feeds })
  lane_rings {news} same view on = subst (λ f. KeepsRings f (record { board = board; lanes = news; feeds = feeds })) view
      (told_before (λ (side : LaneSide M). side.ring) same on, same_places (λ (side : FeedSide M). side.ring) feeds feeds refl)

  pub feed_rings : {news : List (Option (FeedSide M))} {left : FeedSide M → Option (FeedSide M)} {Does : FeedSide M → FeedSide M → Type 0}
      → ((from to side : FeedSide M) → Does from to → left to ≡ Some side → side.ring ≡ from.ring)
      → record { board = board; lanes = lanes; feeds = feeds } ≡ old → OnPlace left number feeds news Does
      → KeepsRings old (record { board = board; lanes = lanes; feeds = news })
  feed_rings {news} same view on = subst (λ f. KeepsRings f (record { board = board; lanes = lanes; feeds = news })) view
      (same_places (λ (side : LaneSide M). side.ring) lanes lanes refl, told_before (λ (side : FeedSide M). side.ring) same on)
