-- How messages go out of a lane's ring into the journal.
use Rattle.std.specs.Prelude.{ℕ, ◌≡◌, ◌<◌, ◌≤◌, Bool, List, [], ◌++◌, length, slice_get, Some, ⊤}
use mathlib.Core.List.{IsPrefix}
use Rattle.cml_board.specs.{Refusal, Entry, kind_of, IsAsBefore, Refuses}
use Rattle.cml_board.specs.Shown.{Shown}
use Rattle.cml_board.specs.declared.outcome.Refusal.TheVariants.{JournalFull, NoMemory}
use Rattle.cml_lanes.specs.Sides.{LaneSide, way_call, way_kind}
use Rattle.cml_lanes.specs.Entered.{Enters}
use Rattle.cml_lanes.specs.Laned.{laned, lane_entry}

-- the only reasons to refuse a message of an open lane: a full journal, whose limit counts the entries since the last cut,
-- and want of memory
abbrev pub IsLimit : Refusal → Type 0
IsLimit JournalFull = ⊤
IsLimit NoMemory = ⊤
IsLimit refusal = ⊥

module _ {M : Type 0} where
  -- an open lane: what the journal has of its number is what was taken out of its ring, and its target is of the kind that
  -- its way goes to
  pub record KeepsLane (history : List (Entry M)) (number : ℕ) (side : LaneSide M) : Type 0 where
    pub laned : laned history number ≡ side.received
    pub kind : kind_of history side.target.0 ≡ Some (way_kind side.way)

  -- `count` messages went out of the ring, in order, and each of them has an entry; nothing else of the journal and the lane
  -- changed
  pub record MovesOut (number count : ℕ) (old new : Shown M) (from to : LaneSide M) : Type 0 where
    pub moved : List M
    pub entered : Enters (lane_entry number from.way from.target) moved count old new
    pub open entered use *
    pub side : to ≡ record from { received = from.received ++ moved; seen = to.seen }
    pub seen : from.seen ≡ moved ++ to.seen

  -- `count` went out, and then the call of the next, which is still in the ring, was refused
  pub record Stops (chunk : ℕ) (sure : Bool) (number count : ℕ) (old new : Shown M) (from to : LaneSide M)
      (refusal : Refusal) : Type 0 where
    pub at : Shown M
    pub moves : MovesOut number count old at from to
    pub after : IsAsBefore at new
    pub message : M
    pub next : slice_get to.seen 0 ≡ Some message
    pub limit : IsLimit refusal
    pub refused : Refuses chunk sure at (way_call to.way to.target message) refusal

  -- more of the ring's messages may have been seen
  pub record Looks (from to : LaneSide M) : Type 0 where
    pub side : to ≡ record from { seen = to.seen }
    pub more : IsPrefix from.seen to.seen
    pub most : length to.seen ≤ to.capacity

  -- the floor looked into the ring, and `count` messages went out, no more than the ring has room for
  pub record DrainsRing (number count : ℕ) (old new : Shown M) (from to : LaneSide M) : Type 0 where
    pub looked : LaneSide M
    pub looks : Looks from looked
    pub moves : MovesOut number count old new looked to
    pub most : count ≤ from.capacity

  -- the floor looked into the ring, and all that it saw went out
  pub record Empties (number count : ℕ) (old new : Shown M) (from to : LaneSide M) : Type 0 where
    pub drains : DrainsRing number count old new from to
    pub none : to.seen ≡ []

  -- the floor looked into the ring, and `count` messages went out until one was refused, fewer than the ring has room for
  pub record IsHeld (chunk : ℕ) (sure : Bool) (number count : ℕ) (old new : Shown M) (from to : LaneSide M)
      (refusal : Refusal) : Type 0 where
    pub looked : LaneSide M
    pub looks : Looks from looked
    pub stops : Stops chunk sure number count old new looked to refusal
    pub fewer : count < from.capacity
