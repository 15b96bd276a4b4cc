-- What is done to the slots of feeds, as what is done to the floor.
use Rattle.std.proofs.Common.{◌≡◌, ℕ, Bool, true, false, List, slice_get, slice_set, Option, Some, None, IfSome, subst, refl, sym, ap, ◌∙◌}
use Rattle.std.proofs.lemmas.Option.{same_Some, none-some}
use Rattle.cml_board.specs.{Refusal, Entry}
use Rattle.cml_board.specs.Shown.{Shown}
use Rattle.cml_lanes.specs.{Ended, LaneSide, FeedSide, fed, with_feed, PumpsIn, FloorShown, is_taken, is_open_feed, KeepsLanes, KeepsFeeds}
use Rattle.cml_lanes.specs.{KeepsRings, stays, goes, OnPlace, is_feeds_port, PumpsUntil, EndsFeed}
use Rattle.cml_lanes.proofs.FeedEntriesLemmas.{laned_fed, keeps_lane_fed}
use Rattle.cml_lanes.proofs.SlotsLemmas.{taken_slot}
use Rattle.cml_lanes.proofs.PumpsLemmas.{until_pumps}
use Rattle.cml_lanes.proofs.EachRingLemmas.{feed_rings}
use Rattle.cml_lanes.proofs.KeptFeedsLemmas.{ended_keeps_feeds, own_port, pumped_keeps_feeds}

module _ {M : Type 0} where
  -- no lane has more
  fed_keeps_lanes : (number count : ℕ) (old new : Shown M) (lanes : List (Option (LaneSide M))) (from to : FeedSide M)
      → PumpsIn number count old new from to
      → KeepsLanes old.history lanes → KeepsLanes new.history lanes
  fed_keeps_lanes number count old new lanes from to p keeps =
      let now : KeepsLanes (with_feed number from.port p.pumped old.history) lanes = record {
        lane = λ k side found. keeps_lane_fed number from.port p.pumped old.history k side (keeps.lane k side found);
        no_lane = λ k past. laned_fed number from.port p.pumped old.history k ∙ keeps.no_lane k past;
      } in
      subst (λ h. KeepsLanes h lanes) (sym p.history) now

  -- what the floor keeps of its lanes and of its feeds
  pub floor_pumped : (chunk : ℕ) (sure : Bool) (number count : ℕ) (stopped : Option Refusal) (board after : Shown M)
      (lanes : List (Option (LaneSide M))) (feeds news : List (Option (FeedSide M)))
      → OnPlace stays number feeds news (PumpsUntil chunk sure number count stopped board after)
      → KeepsLanes board.history lanes × KeepsFeeds board.history feeds → KeepsLanes after.history lanes × KeepsFeeds after.history news
  floor_pumped chunk sure number count stopped board after lanes feeds news on keeps =
      let pumps = until_pumps chunk sure number count stopped board after on.from on.to on.does in (
        fed_keeps_lanes number count board after lanes pumps.looked on.to pumps.pumps keeps.0,
        subst (λ fs. KeepsFeeds after.history fs) (sym on.places)
            (pumped_keeps_feeds number count board after feeds on.from pumps.looked on.to on.opened pumps.looks pumps.pumps keeps.1),
      )

  -- the feed keeps its ring
  pub pumped_ring : (chunk : ℕ) (sure : Bool) (number count : ℕ) (stopped : Option Refusal) (old new : Shown M)
      (from to side : FeedSide M) → PumpsUntil chunk sure number count stopped old new from to → Some to ≡ Some side → side.ring ≡ from.ring
  pumped_ring chunk sure number count stopped old new from to side until is =
      let p = until_pumps chunk sure number count stopped old new from to until in
      ap (λ (s : FeedSide M). s.ring) (sym (same_Some _ _ is) ∙ p.pumps.side) ∙ ap (λ (s : FeedSide M). s.ring) p.looks.side

  -- an open feed's slot
  pub open_feed_slot : {lanes : List (Option (LaneSide M))} (number : ℕ) (board : Shown M)
      (feeds : List (Option (FeedSide M))) (floor : FloorShown M)
      → record { board = board; lanes = lanes; feeds = feeds } ≡ floor → is_open_feed floor number ≡ true
      → is_taken (slice_get feeds number) ≡ true
  open_feed_slot number board feeds floor view opened = ap (λ (f : FloorShown M). is_taken (slice_get f.feeds number)) view ∙ opened

  -- no other open feed has its port
  pub its_own_port : (number : ℕ) (history : List (Entry M)) (feeds : List (Option (FeedSide M))) → KeepsFeeds history feeds
      → (side : FeedSide M) → slice_get feeds number ≡ Some (Some side) → is_feeds_port (slice_set feeds number None) side.port.0 ≡ false
  its_own_port number history feeds keeps side opened = own_port number history feeds side opened keeps

  -- a feed is ended
  given_end : (number : ℕ) (history : List (Entry M)) (side : FeedSide M) (end : Option (Ended M)) → fed history number ≡ side.pushed
      → IfSome end (λ whole. whole ≡ record { ring = side.ring; number = number; sent = side.pushed })
      → IfSome end (λ whole. whole ≡ record { ring = side.ring; number = number; sent = fed history number })
  given_end number history side None same given = tt
  given_end number history side (Some end) same given = given
      ∙ ap (λ sent. record { ring = side.ring; number = number; sent = sent }) (sym same)

  pub ends_feed : {lanes : List (Option (LaneSide M))} (number : ℕ) (board : Shown M) (feeds news : List (Option (FeedSide M)))
      (old : FloorShown M) (end : Option (Ended M))
      → record { board = board; lanes = lanes; feeds = feeds } ≡ old
      → is_taken (slice_get feeds number) ≡ true → KeepsFeeds board.history feeds
      → news ≡ slice_set feeds number None
      → ((side : FeedSide M) → slice_get feeds number ≡ Some (Some side)
      → IfSome end (λ whole. whole ≡ record { ring = side.ring; number = number; sent = side.pushed }))
      → EndsFeed number old (record { board = board; lanes = lanes; feeds = news }) end
  ends_feed {lanes} number board feeds news old end view taken keeps written given =
      let slot = taken_slot feeds number taken in
      let now = given_end number board.history slot.0 end (keeps.feed number slot.0 slot.1).fed (given slot.0 slot.1) in
      let all : EndsFeed number (record { board = board; lanes = lanes; feeds = feeds })
      (record { board = board; lanes = lanes; feeds = news }) end = record {
        from = slot.0;
        opened = slot.1;
        floor = ap (λ (fs : List (Option (FeedSide M))). record { board = board; lanes = lanes; feeds = fs }) written;
        given = now;
      } in
      subst (λ (f : FloorShown M). EndsFeed number f (record { board = board; lanes = lanes; feeds = news }) end) view all

  pub end_keeps : (number : ℕ) (board : Shown M) (lanes : List (Option (LaneSide M))) (feeds news : List (Option (FeedSide M)))
      → is_taken (slice_get feeds number) ≡ true
      → news ≡ slice_set feeds number None → KeepsLanes board.history lanes × KeepsFeeds board.history feeds
      → KeepsLanes board.history lanes × KeepsFeeds board.history news
  end_keeps number board lanes feeds news taken written keeps =
      let slot = taken_slot feeds number taken in (
        keeps.0,
        subst (λ fs. KeepsFeeds board.history fs) (sym written) (ended_keeps_feeds number board.history feeds slot.0 slot.1 keeps.1),
      )

  pub end_rings : {lanes : List (Option (LaneSide M))} (number : ℕ) (board : Shown M)
      (feeds news : List (Option (FeedSide M))) (old : FloorShown M)
      → record { board = board; lanes = lanes; feeds = feeds } ≡ old → is_taken (slice_get feeds number) ≡ true
      → news ≡ slice_set feeds number None
      → KeepsRings old (record { board = board; lanes = lanes; feeds = news })
  end_rings {lanes} number board feeds news old view taken written =
      let slot = taken_slot feeds number taken in
      let gone : OnPlace goes number feeds news (λ from to. to ≡ from) =
      record { from = slot.0; to = slot.0; opened = slot.1; places = written; does = refl } in
      feed_rings (λ from to side same is. absurd (none-some side is)) view gone
