-- Each call on lanes or feeds has done one of the deeds to a floor.
use Rattle.std.proofs.Common.{◌≡◌, ◌⊎◌, ℕ, inl, inr, Bool, true, false, Option, Some, None, Result, Ok, Err, subst, sym, ap}
use Rattle.std.specs.Prelude.{⊤}
use Rattle.cml_board.specs.{Name, Refusal, IsAsBefore}
use Rattle.cml_board.specs.declared.outcome.Refusal.TheVariants.{Unseen}
use Rattle.cml_lanes.specs.{LaneShown, FeedShown, Ended, LaneSide, DrainsRing, FloorShown, FindsNoLane, FindsNoFeed, GivesAll, stays, goes}
use Rattle.cml_lanes.specs.{OpensALane, EmptiesLane, HoldsUp, HoldsUpSome, DropsLane, Drains, Drops, Abandons, Closes, CountRefused}
use Rattle.cml_lanes.specs.{ClosesCounted, OpensAFeed, FillsFeed, Starves, Pumps, Reserves, PumpsRing, Deed, as_it_was, lane_drained}
use Rattle.cml_lanes.specs.{lane_gone, lane_opened, feed_pumped, feed_gone, feed_opened}
use Rattle.cml_lanes.specs.Feeds.{Ends}
use Rattle.cml_lanes.proofs.MovesLemmas.{until_drains, unchanged}
use Rattle.cml_lanes.proofs.PumpsLemmas.{until_pumps}
use Rattle.cml_lanes.proofs.OneSlotLemmas.{does_so}
use Rattle.cml_lanes.proofs.OutcomesLemmas.{or_no_such}

module _ {M : Type 0} where
  pub still : (old new : FloorShown M) → new ≡ old → Deed old new
  still old new same =
      as_it_was (subst (λ (f : FloorShown M). IsAsBefore old.board f.board) (sym same) (unchanged old.board))
      (ap (λ (f : FloorShown M). f.lanes) same) (ap (λ (f : FloorShown M). f.feeds) same)

  emptied_lane : (left : LaneSide M → Option (LaneSide M)) (number count : ℕ) (old new : FloorShown M)
      → EmptiesLane left number count old new → Deed old new
  emptied_lane left number count old new on =
      lane_drained left number count (record {
        place = does_so (DrainsRing number count old.board new.board) (λ from to empties. empties.drains) on.place;
        feeds = on.feeds;
      })

  held_lane : (chunk : ℕ) (sure : Bool) (number count : ℕ) (old new : FloorShown M) (refusal : Refusal)
      → HoldsUp chunk sure number count old new refusal → Deed old new
  held_lane chunk sure number count old new refusal on =
      lane_drained stays number count (record {
        place = does_so (DrainsRing number count old.board new.board)
            (until_drains chunk sure number count (Some refusal) old.board new.board) on.place;
        feeds = on.feeds;
      })

  filled_feed : (number count : ℕ) (old new : FloorShown M) → FillsFeed number count old new → Deed old new
  filled_feed number count old new on =
      feed_pumped number count (record {
        place = does_so (PumpsRing number count old.board new.board) (until_pumps 0 false number count None old.board new.board) on.place;
        lanes = on.lanes;
      })

  starved_feed : (chunk : ℕ) (sure : Bool) (number count : ℕ) (old new : FloorShown M) (refusal : Refusal)
      → Starves chunk sure number count old new refusal → Deed old new
  starved_feed chunk sure number count old new refusal on =
      feed_pumped number count (record {
        place = does_so (PumpsRing number count old.board new.board)
            (until_pumps chunk sure number count (Some refusal) old.board new.board) on.place;
        lanes = on.lanes;
      })

  -- by each call
  pub reserves : (old new : FloorShown M) (n : ℕ) (result : Result ⊤ Refusal) → Reserves old new n result → Deed old new
  reserves old new n (Ok done) told = as_it_was told.0.board told.0.lanes told.0.feeds
  reserves old new n (Err refusal) told = as_it_was told.0.board told.0.lanes told.0.feeds

  pub opens_lane : (old new : FloorShown M) (target : Name) (capacity : ℕ) (result : Result (LaneShown M × ℕ) Refusal)
      → OpensALane old new target capacity result → Deed old new
  opens_lane old new target capacity (Ok lane) told = lane_opened _ told.board told.lanes told.feeds
  opens_lane old new target capacity (Err refusal) told = still old new told.1

  drain_stopped : (chunk : ℕ) (sure : Bool) (number : ℕ) (old new : FloorShown M) (refusal : Refusal)
      → FindsNoLane number old new ⊎ HoldsUp chunk sure number 0 old new refusal → Deed old new
  drain_stopped chunk sure number old new refusal (inl none) = still old new none.1
  drain_stopped chunk sure number old new refusal (inr held) = held_lane chunk sure number 0 old new refusal held

  pub drains : (chunk : ℕ) (sure : Bool) (number : ℕ) (old new : FloorShown M) (result : Result ℕ Refusal)
      → Drains chunk sure number old new result → Deed old new
  drains chunk sure number old new (Ok count) (inl all) = emptied_lane stays number count old new all
  drains chunk sure number old new (Ok count) (inr late) = held_lane chunk sure number count old new late.1 late.2
  drains chunk sure number old new (Err refusal) told =
      drain_stopped chunk sure number old new refusal
      (or_no_such (FindsNoLane number old new) (HoldsUp chunk sure number 0 old new) refusal told)

  dropped : (chunk : ℕ) (sure : Bool) (number count : ℕ) (old new : FloorShown M) (closed : Bool)
      → DropsLane chunk sure number old new count closed → Deed old new
  dropped chunk sure number count old new true told = emptied_lane goes number count old new told
  dropped chunk sure number count old new false told = held_lane chunk sure number count old new told.1 told.2

  pub drops : (chunk : ℕ) (sure : Bool) (number : ℕ) (old new : FloorShown M) (result : Result (ℕ × Bool) Refusal)
      → Drops chunk sure number old new result → Deed old new
  drops chunk sure number old new (Ok told) does = dropped chunk sure number told.0 old new told.1 does
  drops chunk sure number old new (Err refusal) told =
      drain_stopped chunk sure number old new refusal
      (or_no_such (FindsNoLane number old new) (HoldsUp chunk sure number 0 old new) refusal told)

  pub abandons : (number : ℕ) (old new : FloorShown M) (result : Result ⊤ Refusal) → Abandons number old new result → Deed old new
  abandons number old new (Ok done) told = lane_gone number told.1
  abandons number old new (Err refusal) told = elim (or_no_such (FindsNoLane number old new) (λ other. ⊥) refusal told) [
    | inl none ↦ still old new none.1
    | inr never ↦ absurd never
  ]

  pub closes : (chunk : ℕ) (sure : Bool) (old new : FloorShown M) (end : Ended M) (result : Result ⊤ (Ended M × Refusal))
      → Closes chunk sure old new end result → Deed old new
  closes chunk sure old new end (Ok done) told = emptied_lane goes end.number told.0.0 old new told.0.1
  closes chunk sure old new end (Err back) told =
      elim (or_no_such (FindsNoLane end.number old new)
      (λ refusal. HoldsUpSome chunk sure end.number old new refusal × GivesAll end.number new end) back.1 told.1) [
        | inl none ↦ still old new none.1
        | inr why ↦ held_lane chunk sure end.number why.0.0 old new back.1 why.0.1
      ]

  count_refused : (chunk : ℕ) (sure : Bool) (old new : FloorShown M) (end : Ended M) (refusal : Refusal)
      → CountRefused chunk sure old new end refusal → Deed old new
  count_refused chunk sure old new end Unseen why = emptied_lane stays end.number why.count old new why.lane
  count_refused chunk sure old new end refusal why = held_lane chunk sure end.number why.0 old new refusal why.1

  pub closes_counted : (chunk : ℕ) (sure : Bool) (old new : FloorShown M) (end : Ended M) (result : Result ⊤ (Ended M × Refusal))
      → ClosesCounted chunk sure old new end result
      → Deed old new
  closes_counted chunk sure old new end (Ok done) told = emptied_lane goes end.number told.0.0 old new told.0.1
  closes_counted chunk sure old new end (Err back) told =
      elim (or_no_such (FindsNoLane end.number old new) (CountRefused chunk sure old new end) back.1 told.1) [
        | inl none ↦ still old new none.1
        | inr why ↦ count_refused chunk sure old new end back.1 why
      ]

  pub opens_feed : (chunk : ℕ) (sure : Bool) (old new : FloorShown M) (channel : Name) (capacity : ℕ)
      (result : Result (FeedShown M × ℕ) Refusal)
      → OpensAFeed chunk sure old new channel capacity result → Deed old new
  opens_feed chunk sure old new channel capacity (Ok feed) told = feed_opened feed.1 channel feed.0.port _ told.port told.lanes told.feeds
  opens_feed chunk sure old new channel capacity (Err refusal) told = as_it_was told.board told.lanes told.feeds

  pub pumps : (chunk : ℕ) (sure : Bool) (number : ℕ) (old new : FloorShown M) (result : Result ℕ Refusal)
      → Pumps chunk sure number old new result → Deed old new
  pumps chunk sure number old new (Ok count) (inl all) = filled_feed number count old new all
  pumps chunk sure number old new (Ok count) (inr late) = starved_feed chunk sure number count old new late.1 late.2
  pumps chunk sure number old new (Err refusal) told =
      elim (or_no_such (FindsNoFeed number old new) (Starves chunk sure number 0 old new) refusal told) [
        | inl none ↦ still old new none.1
        | inr starves ↦ starved_feed chunk sure number 0 old new refusal starves
      ]

  pub ends : (number : ℕ) (old new : FloorShown M) (result : Result (Option (Ended M)) Refusal) → Ends number old new result → Deed old new
  ends number old new (Ok end) told = feed_gone number told.floor
  ends number old new (Err refusal) told = elim (or_no_such (FindsNoFeed number old new) (λ other. ⊥) refusal told) [
    | inl none ↦ still old new none.1
    | inr never ↦ absurd never
  ]
