-- What the calls on lanes do to a floor.
use Rattle.std.specs.Prelude.{ℕ, ◌≡◌, ◌≢◌, ◌<◌, ◌⊎◌, Bool, true, false, [], ◌∷◌, ◌++◌, length, slice_set, Option}
use Rattle.std.specs.Prelude.{Some, None, Result, Ok, Err, ⊤}
use Rattle.cml_board.specs.{Name, Refusal, kind_of}
use Rattle.cml_calls.specs.{Kind}
use Rattle.cml_board.specs.declared.outcome.Refusal.TheVariants.{NoSuch, WrongKind, NoMemory, Unseen}
use Rattle.cml_lanes.specs.declared.way.Way.{Way}
use Rattle.cml_lanes.specs.Ends.{LaneShown, Ended}
use Rattle.cml_lanes.specs.Laned.{laned}
use Rattle.cml_lanes.specs.Sides.{LaneSide, way_kind, NoLane}
use Rattle.cml_lanes.specs.Floor.{FloorShown, is_open_lane, FindsNoLane, NoSuchOr, GivesAll, stays, goes, OnLane}
use Rattle.cml_lanes.specs.Moving.{Empties, IsHeld}

module _ {M : Type 0} where
  -- a lane is opened: it has the next number, the target's way and the capacity that was asked for, and nothing was sent on
  -- it; both its ends are on one ring
  pub record OpensLane (old new : FloorShown M) (target : Name) (capacity : ℕ) (lane : LaneShown M) (number : ℕ) : Type 0 where
    pub next : number ≡ length old.lanes
    pub end : lane ≡ record { ring = lane.ring; number = number; capacity = capacity; accepted = [] }
    pub way : Way
    pub kind : kind_of old.board.history target.0 ≡ Some (way_kind way)
    pub lanes : new.lanes ≡ old.lanes
        ++ Some (record { ring = lane.ring; target = target; way = way; capacity = capacity; received = []; seen = [] }) ∷ []
    pub board : new.board ≡ old.board
    pub feeds : new.feeds ≡ old.feeds

  -- why no lane is opened
  abbrev pub OpenRefused : FloorShown M → Name → Refusal → Type 0
  OpenRefused floor target NoSuch = kind_of floor.board.history target.0 ≡ None
  OpenRefused floor target WrongKind = (kind : Kind) × (kind_of floor.board.history target.0 ≡ Some kind) × NoLane kind
  OpenRefused floor target NoMemory = (way : Way) × (kind_of floor.board.history target.0 ≡ Some (way_kind way))
  OpenRefused floor target refusal = ⊥

  -- how the opening of a lane ends; if it fails, nothing is changed
  abbrev pub OpensALane : FloorShown M → FloorShown M → Name → ℕ → Result (LaneShown M × ℕ) Refusal → Type 0
  OpensALane old new target capacity (Ok lane) = OpensLane old new target capacity lane.0 lane.1
  OpensALane old new target capacity (Err refusal) = OpenRefused old target refusal × (new ≡ old)

  -- all `count` messages that were seen of an open lane went into the journal, and the lane stays or goes
  abbrev pub EmptiesLane : (LaneSide M → Option (LaneSide M)) → ℕ → ℕ → FloorShown M → FloorShown M → Type 0
  EmptiesLane left number count old new = OnLane left number old new (Empties number count old.board new.board)

  -- `count` of them went, and then one was refused, which is still in the ring; the lane stays open
  abbrev pub HoldsUp : ℕ → Bool → ℕ → ℕ → FloorShown M → FloorShown M → Refusal → Type 0
  HoldsUp chunk sure number count old new refusal =
      OnLane stays number old new (λ from to. IsHeld chunk sure number count old.board new.board from to refusal)

  -- one was refused, whether or not others went before it
  abbrev pub HoldsUpSome : ℕ → Bool → ℕ → FloorShown M → FloorShown M → Refusal → Type 0
  HoldsUpSome chunk sure number old new refusal = (count : ℕ) × HoldsUp chunk sure number count old new refusal

  -- one was refused, but not the first
  abbrev pub StopsLate : ℕ → Bool → ℕ → ℕ → FloorShown M → FloorShown M → Type 0
  StopsLate chunk sure number count old new = (0 < count) × (refusal : Refusal) × HoldsUp chunk sure number count old new refusal

  -- `count` went, which is all that was seen, unless a later one was refused
  abbrev pub DrainsLane : ℕ → Bool → ℕ → ℕ → FloorShown M → FloorShown M → Type 0
  DrainsLane chunk sure number count old new = EmptiesLane stays number count old new ⊎ StopsLate chunk sure number count old new

  -- how a drain ends: `count` messages went; or no open lane has the number; or the first that was seen was refused
  abbrev pub Drains : ℕ → Bool → ℕ → FloorShown M → FloorShown M → Result ℕ Refusal → Type 0
  Drains chunk sure number old new (Ok count) = DrainsLane chunk sure number count old new
  Drains chunk sure number old new (Err refusal) = NoSuchOr (FindsNoLane number old new) (HoldsUp chunk sure number 0 old new) refusal

  -- `count` messages went and the lane is closed; or they went and it stays open, since a later one was refused
  abbrev pub DropsLane : ℕ → Bool → ℕ → FloorShown M → FloorShown M → ℕ → Bool → Type 0
  DropsLane chunk sure number old new count true = EmptiesLane goes number count old new
  DropsLane chunk sure number old new count false = StopsLate chunk sure number count old new

  -- how the drop of a lane ends: how many messages went, and whether the lane is closed; or it fails as a drain does
  abbrev pub Drops : ℕ → Bool → ℕ → FloorShown M → FloorShown M → Result (ℕ × Bool) Refusal → Type 0
  Drops chunk sure number old new (Ok told) = DropsLane chunk sure number old new told.0 told.1
  Drops chunk sure number old new (Err refusal) = NoSuchOr (FindsNoLane number old new) (HoldsUp chunk sure number 0 old new) refusal

  -- how abandoning a lane ends: the lane is closed, and nothing else is changed; or no open lane has the number
  abbrev pub Abandons : ℕ → FloorShown M → FloorShown M → Result ⊤ Refusal → Type 0
  Abandons number old new (Ok done) = (is_open_lane old number ≡ true) × (new ≡ record old { lanes = slice_set old.lanes number None })
  Abandons number old new (Err refusal) = NoSuchOr (FindsNoLane number old new) (λ other. ⊥) refusal

  -- all that was seen went, and the lane is closed
  abbrev pub ClosesLane : ℕ → FloorShown M → FloorShown M → Type 0
  ClosesLane number old new = (count : ℕ) × EmptiesLane goes number count old new

  -- how closing a lane by its end ends: the journal has exactly what was sent, in order, each message once; or the same end is
  -- returned, and no open lane has its number, or one message was refused, and all that was sent is in the journal or still
  -- in the ring
  abbrev pub Closes : ℕ → Bool → FloorShown M → FloorShown M → Ended M → Result ⊤ (Ended M × Refusal) → Type 0
  Closes chunk sure old new end (Ok done) = ClosesLane end.number old new × (laned new.board.history end.number ≡ end.sent)
  Closes chunk sure old new end (Err back) =
      (back.0 ≡ end)
      × NoSuchOr (FindsNoLane end.number old new)
      (λ refusal. HoldsUpSome chunk sure end.number old new refusal × GivesAll end.number new end) back.1

  -- all that was seen of an open lane went, and it is not as many as the end says; the lane stays open
  pub record Miscounts (old new : FloorShown M) (end : Ended M) : Type 0 where
    pub count : ℕ
    pub lane : EmptiesLane stays end.number count old new
    pub other : length (laned new.board.history end.number) ≢ length end.sent

  -- why a lane isn't closed by count
  abbrev pub CountRefused : ℕ → Bool → FloorShown M → FloorShown M → Ended M → Refusal → Type 0
  CountRefused chunk sure old new end Unseen = Miscounts old new end
  CountRefused chunk sure old new end refusal = HoldsUpSome chunk sure end.number old new refusal

  -- how closing a lane by count ends: the journal has as many messages of it as its end says; or the same end is returned,
  -- and no open lane has its number, or they are not as many, or one message was refused
  abbrev pub ClosesCounted : ℕ → Bool → FloorShown M → FloorShown M → Ended M → Result ⊤ (Ended M × Refusal) → Type 0
  ClosesCounted chunk sure old new end (Ok done) = ClosesLane end.number old new
      × (length (laned new.board.history end.number) ≡ length end.sent)
  ClosesCounted chunk sure old new end (Err back) =
      (back.0 ≡ end) × NoSuchOr (FindsNoLane end.number old new) (CountRefused chunk sure old new end) back.1
