-- What is done to the slots of lanes, as what is done to the floor.
use Rattle.std.proofs.Common.{◌≡◌, ℕ, Bool, true, false, List, ◌++◌, slice_get, slice_set, Option, Some, None, is_some, subst, refl, sym}
use Rattle.std.proofs.Common.{ap, ◌∙◌}
use Rattle.std.proofs.lemmas.Option.{same_Some, none-some}
use Rattle.std.proofs.lemmas.Bool.{true≢false}
use Rattle.std.proofs.lemmas.List.{append-nil}
use Rattle.cml_board.specs.{Refusal}
use Rattle.cml_board.specs.Shown.{Shown}
use Rattle.cml_lanes.specs.{Ended, LaneSide, FeedSide, laned, Empties, FloorShown, is_taken, KeepsLanes, KeepsFeeds, KeepsRings, GivesAll}
use Rattle.cml_lanes.specs.{stays, goes, OnPlace, OnLane, DrainsUntil, LeavesAll, EmptiesLane}
use Rattle.cml_lanes.proofs.MovesLemmas.{until_drains}
use Rattle.cml_lanes.proofs.SlotsLemmas.{taken_slot, set_again}
use Rattle.cml_lanes.proofs.OneSlotLemmas.{stays_there}
use Rattle.cml_lanes.proofs.EachRingLemmas.{lane_rings}
use Rattle.cml_lanes.proofs.KeptLanesLemmas.{drain_keeps}
use Rattle.cml_lanes.proofs.KeptFeedsLemmas.{drained_keeps_feeds}

module _ {M : Type 0} where
  -- what the floor keeps of its lanes and of its feeds
  pub floor_drained : (chunk : ℕ) (sure : Bool) (number count : ℕ) (stopped : Option Refusal) (board after : Shown M)
      (lanes news : List (Option (LaneSide M))) (feeds : List (Option (FeedSide M)))
      → OnPlace stays number lanes news (DrainsUntil chunk sure number count stopped board after)
      → KeepsLanes board.history lanes × KeepsFeeds board.history feeds → KeepsLanes after.history news × KeepsFeeds after.history feeds
  floor_drained chunk sure number count stopped board after lanes news feeds on keeps =
      let drains = until_drains chunk sure number count stopped board after on.from on.to on.does in (
        subst (λ ls. KeepsLanes after.history ls) (sym on.places)
            (drain_keeps number count board after lanes on.from on.to on.opened drains keeps.0),
        drained_keeps_feeds number count board after feeds on.from on.to drains keeps.1,
      )

  -- what is done to the place is done to the lane
  pub on_lane : {board after : Shown M} {lanes news : List (Option (LaneSide M))} {feeds : List (Option (FeedSide M))} {old : FloorShown M}
      {left : LaneSide M → Option (LaneSide M)} {number : ℕ} (Does : Shown M → LaneSide M → LaneSide M → Type 0)
      → record { board = board; lanes = lanes; feeds = feeds } ≡ old → OnPlace left number lanes news (Does board)
      → OnLane left number old (record { board = after; lanes = news; feeds = feeds }) (Does old.board)
  on_lane {after = after} {news = news} {feeds = feeds} {left = left} {number = number} Does view on =
      subst (λ f. OnLane left number f (record { board = after; lanes = news; feeds = feeds }) (Does f.board)) view
      (record { place = on; feeds = refl })

  -- and it keeps its ring
  pub drained_ring : (chunk : ℕ) (sure : Bool) (number count : ℕ) (stopped : Option Refusal) (old new : Shown M)
      (from to side : LaneSide M) → DrainsUntil chunk sure number count stopped old new from to
      → Some to ≡ Some side → side.ring ≡ from.ring
  drained_ring chunk sure number count stopped old new from to side until is =
      let d = until_drains chunk sure number count stopped old new from to until in
      ap (λ (s : LaneSide M). s.ring) (sym (same_Some _ _ is) ∙ d.moves.side) ∙ ap (λ (s : LaneSide M). s.ring) d.looks.side

  pub gone_rings : {feeds : List (Option (FeedSide M))} (number : ℕ) (board : Shown M)
      (lanes news : List (Option (LaneSide M))) (old : FloorShown M)
      → record { board = board; lanes = lanes; feeds = feeds } ≡ old → is_taken (slice_get lanes number) ≡ true
      → news ≡ slice_set lanes number None
      → KeepsRings old (record { board = board; lanes = news; feeds = feeds })
  gone_rings number board lanes news old view taken written =
      let slot = taken_slot lanes number taken in
      let gone : OnPlace goes number lanes news (λ from to. to ≡ from) =
      record { from = slot.0; to = slot.0; opened = slot.1; places = written; does = refl } in
      lane_rings (λ from to side same is. absurd (none-some side is)) view gone

  -- what the journal has and what is left
  pub gives_all : (number : ℕ) (after : Shown M) (news : List (Option (LaneSide M))) (feeds : List (Option (FeedSide M))) (end : Ended M)
      → KeepsLanes after.history news
      → ((side : LaneSide M) → slice_get news number ≡ Some (Some side) → LeavesAll end side)
      → GivesAll number (record { board = after; lanes = news; feeds = feeds }) end
  gives_all number after news feeds end keeps all =
      λ side found. ap (λ ms. ms ++ side.seen) (keeps.lane number side found).laned ∙ all side found

  -- where none was refused
  until_none : (chunk : ℕ) (sure : Bool) (number count : ℕ) (old new : FloorShown M) (stopped : Option Refusal) → is_some stopped ≡ false
      → OnLane stays number old new (DrainsUntil chunk sure number count stopped old.board new.board)
      → EmptiesLane stays number count old new
  until_none chunk sure number count old new None is on = on
  until_none chunk sure number count old new (Some refusal) is on = absurd (true≢false is)

  -- all that was seen went, and then the lane was let go
  module _ (chunk : ℕ) (sure : Bool) (number lane count : ℕ) (old mid new : FloorShown M) (stopped : Option Refusal)
      (same : number ≡ lane) (none : is_some stopped ≡ false)
      (until : OnLane stays number old mid (DrainsUntil chunk sure number count stopped old.board mid.board))
      (gone : new ≡ record mid { lanes = slice_set mid.lanes number None }) where
    on : EmptiesLane stays number count old mid
    on = until_none chunk sure number count old mid stopped none until

    pub empties_off : EmptiesLane goes lane count old new
    empties_off = subst (λ n. EmptiesLane goes n count old new) same (record {
      place = record {
        from = on.place.from;
        to = on.place.to;
        opened = on.place.opened;
        places = ap (λ (f : FloorShown M). f.lanes) gone ∙ ap (λ ls. slice_set ls number None) on.place.places
            ∙ set_again old.lanes number (Some on.place.to) None;
        does = subst (λ (b : Shown M). Empties number count old.board b on.place.from on.place.to)
            (sym (ap (λ (f : FloorShown M). f.board) gone)) on.place.does;
      };
      feeds = ap (λ (f : FloorShown M). f.feeds) gone ∙ on.feeds;
    })

    pub all_stands : (end : Ended M) → GivesAll number mid end → laned new.board.history lane ≡ end.sent
    all_stands end gives =
        ap (laned new.board.history) (sym same) ∙ ap (λ (f : FloorShown M). laned f.board.history number) gone
        ∙ sym (append-nil (laned mid.board.history number))
        ∙ ap (λ ms. laned mid.board.history number ++ ms) (sym on.place.does.none) ∙ gives on.place.to (stays_there on.place)
