-- What a hall shows of itself, and what always holds of it.
use Rattle.std.specs.Prelude.{ℕ, ◌≡◌, ◌+◌, ◌^◌, ◌<◌, Bool, List, length, Option}
use Rattle.cml_board.specs.{Call, entries_in, rings_in}
use Rattle.cml_board.specs.Shown.{Shown}
use Rattle.cml_lanes.specs.{LaneSide, FeedSide, FloorShown, Deed}
use Rattle.cml_room.specs.{Notice, State}
use Rattle.cml_room.specs.Room as room

-- the board; by its number the floor's end of each lane and of each feed, of open ones alone; the state of each seat, by
-- number, and its notice; whether all that wait are due; and the total of the ledger's book
pub record Hosted (M : Type 0) : Type 0 where
  pub board : Shown M
  pub lanes : List (Option (LaneSide M))
  pub feeds : List (Option (FeedSide M))
  pub seats : List State
  pub notices : List Notice
  pub all_due : Bool
  pub book : ℕ

module _ {M : Type 0} where
  -- all but the book
  abbrev pub room_of : Hosted M → room.RoomShown M
  room_of hall = record {
    board = hall.board;
    lanes = hall.lanes;
    feeds = hall.feeds;
    seats = hall.seats;
    notices = hall.notices;
    all_due = hall.all_due;
  }

  -- the board with its lanes and feeds
  abbrev pub floor_of : Hosted M → FloorShown M
  floor_of hall = record { board = hall.board; lanes = hall.lanes; feeds = hall.feeds }

  -- the seats, where this one's state is this, and no other's is changed
  abbrev pub with_state : Hosted M → ℕ → State → List State
  with_state hall = room.with_state (room_of hall)

  -- the seat was made, and neither waits nor has left
  abbrev pub MayAsk : Hosted M → ℕ → Type 0
  MayAsk hall = room.MayAsk (room_of hall)

  -- the seat waits on such a call: of this kind, on this object
  abbrev pub MayAskAgain : Hosted M → ℕ → Call M → Type 0
  MayAskAgain hall = room.MayAskAgain (room_of hall)

  -- the book counts each entry; the hall's own share those of lanes and feeds; each seat has one part of the ledger, and
  -- the hall all others, of which there are some
  pub record IsCounted (board : Shown M) (seats book own parts whole : ℕ) : Type 0 where
    pub entries : book ≡ entries_in board.history
    pub rings : own ≡ rings_in board.history
    pub shared : parts + seats ≡ whole
    pub enough : whole ≡ 2 ^ 63
    pub own_parts : 0 < parts

  -- the room was made, by a call on a lane or a feed, of one that had this many entries, each of which was counted
  pub record WasCounted (entries : ℕ) (new : room.RoomShown M) (book own parts whole : ℕ) : Type 0 where
    pub before : room.RoomShown M
    pub had : entries ≡ entries_in before.board.history
    pub counted : IsCounted before.board (length before.seats) book own parts whole
    pub seats : new.seats ≡ before.seats
    pub deed : Deed (room.floor_of before) (room.floor_of new)
