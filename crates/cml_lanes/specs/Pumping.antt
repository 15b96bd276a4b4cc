-- How messages go from a port into a feed's ring.
use Rattle.std.specs.Prelude.{ℕ, ◌≡◌, ◌+◌, ◌<◌, ◌≤◌, ◌⊎◌, Bool, true, List, ◌++◌, Some, None}
use Rattle.cml_calls.specs.declared.kind.Kind.TheVariants.{Port}
use Rattle.cml_board.specs.declared.call.Call.TheVariants.{Recv}
use Rattle.cml_board.specs.declared.entry.Reply.TheVariants.{Got}
use Rattle.cml_board.specs.{Entry, Refusal, kind_of, is_open, got, answer, IsAsBefore, Refuses}
use Rattle.cml_board.specs.Shown.{Shown}
use Rattle.cml_lanes.specs.Sides.{FeedSide}
use Rattle.cml_lanes.specs.Entered.{Enters}
use Rattle.cml_lanes.specs.Fed.{fed, feed_entry}
use Rattle.cml_lanes.specs.Moving.{IsLimit}

module _ {M : Type 0} where
  -- an open feed: what the journal has of its number is what was put into its ring, and is all that its port received; the
  -- port is open
  pub record KeepsFeed (history : List (Entry M)) (number : ℕ) (side : FeedSide M) : Type 0 where
    pub fed : fed history number ≡ side.pushed
    pub got : got history side.port.0 ≡ side.pushed
    pub kind : kind_of history side.port.0 ≡ Some Port
    pub opened : is_open history side.port.0 ≡ true

  -- this many messages were received from the port, in order, each by an entry of the feed's own, and put into free slots of
  -- the ring; the journal and the feed changed in nothing else
  pub record PumpsIn (number count : ℕ) (old new : Shown M) (from to : FeedSide M) : Type 0 where
    pub pumped : List M
    pub entered : Enters (feed_entry number from.port) pumped count old new
    pub open entered use *
    pub side : to ≡ record from { pushed = from.pushed ++ pumped; free = to.free }
    pub free : from.free ≡ to.free + count

  -- this many were pumped, and then the call for the next, which the port is still owed, was refused; a slot was free for it
  pub record Balks (chunk : ℕ) (sure : Bool) (number count : ℕ) (old new : Shown M) (from to : FeedSide M)
      (refusal : Refusal) : Type 0 where
    pub at : Shown M
    pub pumps : PumpsIn number count old at from to
    pub after : IsAsBefore at new
    pub room : 0 < to.free
    pub message : M
    pub owed : answer at.history (Recv to.port) ≡ Some (Got message)
    pub limit : IsLimit refusal
    pub refused : Refuses chunk sure at (Recv to.port) refusal

  -- no slot is known to be free, or the port is owed nothing
  abbrev pub IsSated : Shown M → FeedSide M → Type 0
  IsSated board side = (side.free ≡ 0) ⊎ (answer board.history (Recv side.port) ≡ None)

  -- more of the ring's slots may be known to be free
  pub record LearnsFree (from to : FeedSide M) : Type 0 where
    pub side : to ≡ record from { free = to.free }
    pub more : from.free ≤ to.free
    pub most : to.free ≤ to.capacity

  -- this many went into the ring, whether or not one was refused then
  pub record PumpsRing (number count : ℕ) (old new : Shown M) (from to : FeedSide M) : Type 0 where
    pub looked : FeedSide M
    pub looks : LearnsFree from looked
    pub pumps : PumpsIn number count old new looked to

  -- the floor looked how many slots are free, and this many messages were pumped until it had no slot or no message, which are
  -- no more than the ring has room for
  pub record Fills (number count : ℕ) (old new : Shown M) (from to : FeedSide M) : Type 0 where
    pub looked : FeedSide M
    pub looks : LearnsFree from looked
    pub pumps : PumpsIn number count old new looked to
    pub sated : IsSated new to
    pub most : count ≤ from.capacity

  -- the floor looked how many slots are free, and this many messages were pumped until one was refused, which are fewer than
  -- the ring has room for
  pub record IsStarved (chunk : ℕ) (sure : Bool) (number count : ℕ) (old new : Shown M) (from to : FeedSide M)
      (refusal : Refusal) : Type 0 where
    pub looked : FeedSide M
    pub looks : LearnsFree from looked
    pub balks : Balks chunk sure number count old new looked to refusal
    pub fewer : count < from.capacity
