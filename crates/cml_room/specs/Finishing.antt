-- How a seat's turn ends, whichever way its call was made.
use Rattle.std.specs.Prelude.{ℕ, ◌≡◌, ◌⊎◌, Bool, true, false}
use Rattle.cml_board.specs.{Call, want_in, Applies}
use Rattle.cml_board.specs.declared.outcome.Outcome.{Outcome}
use Rattle.cml_board.specs.declared.entry.Who.TheVariants.{Seat}
use Rattle.cml_board.specs.declared.outcome.Outcome.TheVariants.{Answered, WouldWait, Refused}
use Rattle.cml_board.specs.declared.outcome.Refusal.TheVariants.{WrongKind, Stalled}
use Rattle.cml_lanes.specs.{FloorShown, is_barred}
use Rattle.cml_room.specs.declared.turns.Ended.{Ended}
use Rattle.cml_room.specs.declared.turns.Ended.TheVariants as ended
use Rattle.cml_room.specs.News.{news_in}
use Rattle.cml_room.specs.Places.{states_in, notices_in}
use Rattle.cml_room.specs.Room.{RoomShown, MayAsk, MayAskAgain}
use Rattle.cml_room.specs.Seats.{SeatsShown}
use Rattle.cml_room.specs.Waking.{IsWatched}

module _ {M : Type 0} where
  -- how a call ended, by its outcome on the floor
  abbrev pub ended_by : Call M → Outcome M → Ended
  ended_by call (Answered answer) = ended.Answered (news_in call)
  ended_by call (WouldWait back) = ended.Waits (want_in back)
  ended_by call (Refused refusal back) = ended.Failed

  -- what the seat gets: the outcome, or `Stalled` if it would wait and no seat could go on
  abbrev pub told_by : Outcome M → Bool → Outcome M
  told_by (WouldWait back) false = Refused Stalled back
  told_by outcome goes_on = outcome

  -- the room that a floor and seats make
  abbrev pub with_seats : FloorShown M → SeatsShown → RoomShown M
  with_seats floor seats = record {
    board = floor.board;
    lanes = floor.lanes;
    feeds = floor.feeds;
    seats = states_in seats.places;
    notices = notices_in seats.places;
    all_due = seats.all_due;
  }

  -- a seat that may make this call made it on the floor of a room, and its seats have to be told
  pub record HasTurned (chunk : ℕ) (sure : Bool) (room : RoomShown M) (before after : FloorShown M) (seats : SeatsShown) (number : ℕ)
      (call : Call M) (outcome : Outcome M) : Type 0 where
    pub may : MayAsk room number ⊎ MayAskAgain room number call
    pub view : with_seats before seats ≡ room
    pub watched : IsWatched before seats.places seats.all_due
    pub barred : is_barred before.feeds call ≡ true → (outcome ≡ Refused WrongKind call) × (after ≡ before)
    pub applied : is_barred before.feeds call ≡ false → Applies chunk sure before.board after.board (Seat number) call outcome
    pub lanes : after.lanes ≡ before.lanes
    pub feeds : after.feeds ≡ before.feeds

  -- the turn of a seat whose call ended so on what is the floor now
  pub record TurnEnds (chunk : ℕ) (sure : Bool) (floor : FloorShown M) (seats : SeatsShown) (number : ℕ) (how : Ended) : Type 0 where
    pub room : RoomShown M
    pub before : FloorShown M
    pub call : Call M
    pub outcome : Outcome M
    pub turned : HasTurned chunk sure room before floor seats number call outcome
    pub is : how ≡ ended_by call outcome
