-- What the floor's end of a lane, and of a feed, shows of itself.
use Rattle.std.specs.Prelude.{ℕ, ◌≢◌, List}
use Rattle.cml_board.specs.{Name, Call}
use Rattle.cml_calls.specs.{Kind}
use Rattle.cml_calls.specs.declared.kind.Kind.TheVariants as kind
use Rattle.cml_board.specs.declared.call.Call.TheVariants as call
use Rattle.cml_lanes.specs.declared.way.Way.{Way}
use Rattle.cml_lanes.specs.declared.way.Way.TheVariants.{Send, Cast}
use Rattle.cml_lanes.specs.Ring.{Ring}

-- its ring; the object that its messages go to, and which way; how many messages the ring has room for; those that were
-- taken out of the ring so far, in order, and those seen in it, which come next
pub record LaneSide (M : Type 0) : Type 0 where
  pub ring : Ring
  pub target : Name
  pub way : Way
  pub capacity : ℕ
  pub received : List M
  pub seen : List M

-- its ring; the port whose messages it pumps; how many messages the ring has room for; those that were pumped so far, in
-- order; and how many slots of the ring are known to be free
pub record FeedSide (M : Type 0) : Type 0 where
  pub ring : Ring
  pub port : Name
  pub capacity : ℕ
  pub pushed : List M
  pub free : ℕ

-- the call that a message is moved by
abbrev pub way_call : {M : Type 0} → Way → Name → M → Call M
way_call Send target message = call.Send target message
way_call Cast target message = call.Cast target message

-- a lane sends to a mailbox, and casts on a channel
abbrev pub way_kind : Way → Kind
way_kind Send = kind.Mailbox
way_kind Cast = kind.Channel

-- an object of no other kind takes a lane
abbrev pub NoLane : Kind → Type 0
NoLane kind = (way : Way) → way_kind way ≢ kind
