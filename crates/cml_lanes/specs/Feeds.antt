-- What the calls on feeds do to a floor.
use Rattle.std.specs.Prelude.{ℕ, ◌≡◌, ◌<◌, ◌⊎◌, Bool, [], ◌∷◌, ◌++◌, length, slice_get, slice_set, Option, Some, None}
use Rattle.std.specs.Prelude.{Result, Ok, Err, IfSome}
use Rattle.cml_board.specs.{Name, Refusal, Fits, answer, HasRoom, AddsEntry, IsAsBefore, Refuses}
use Rattle.cml_board.specs.Shown.{Shown}
use Rattle.cml_board.specs.declared.call.Call.TheVariants.{NewPort}
use Rattle.cml_board.specs.declared.entry.Who.TheVariants.{Feed}
use Rattle.cml_board.specs.declared.entry.Reply.TheVariants.{Made}
use Rattle.cml_lanes.specs.Ends.{FeedShown, Ended}
use Rattle.cml_lanes.specs.Sides.{FeedSide}
use Rattle.cml_lanes.specs.Fed.{fed}
use Rattle.cml_lanes.specs.Floor.{FloorShown, FindsNoFeed, NoSuchOr, stays, OnFeed}
use Rattle.cml_lanes.specs.Pumping.{Fills, IsStarved}

module _ {M : Type 0} where
  -- the port of the feed of this number is made, by an entry of that feed
  pub record MakesPort (number : ℕ) (old new : Shown M) (channel port : Name) : Type 0 where
    pub fits : Fits old.history (NewPort channel)
    pub room : HasRoom old
    pub made : answer old.history (NewPort channel) ≡ Some (Made port)
    pub entry : AddsEntry old new (Feed number) (NewPort channel) (Made port)

  -- a feed is opened. It has the next number, and the capacity that was asked for. The only entry that was added made its port.
  -- Nothing was pumped into it, and both its ends are on one ring
  pub record OpensFeed (old new : FloorShown M) (channel : Name) (capacity : ℕ) (feed : FeedShown M) (number : ℕ) : Type 0 where
    pub next : number ≡ length old.feeds
    pub end : feed ≡ record { ring = feed.ring; number = number; port = feed.port; capacity = capacity; taken = [] }
    pub port : MakesPort number old.board new.board channel feed.port
    pub feeds : new.feeds ≡ old.feeds
        ++ Some (record { ring = feed.ring; port = feed.port; capacity = capacity; pushed = []; free = capacity }) ∷ []
    pub lanes : new.lanes ≡ old.lanes

  -- no feed is opened, for the reason for which the board would make no port; only memory may have been reserved
  pub record FeedRefused (chunk : ℕ) (sure : Bool) (old new : FloorShown M) (channel : Name) (refusal : Refusal) : Type 0 where
    pub refused : Refuses chunk sure old.board (NewPort channel) refusal
    pub board : IsAsBefore old.board new.board
    pub lanes : new.lanes ≡ old.lanes
    pub feeds : new.feeds ≡ old.feeds

  -- how the opening of a feed ends
  abbrev pub OpensAFeed : ℕ → Bool → FloorShown M → FloorShown M → Name → ℕ → Result (FeedShown M × ℕ) Refusal → Type 0
  OpensAFeed chunk sure old new channel capacity (Ok feed) = OpensFeed old new channel capacity feed.0 feed.1
  OpensAFeed chunk sure old new channel capacity (Err refusal) = FeedRefused chunk sure old new channel refusal

  -- `count` messages of an open feed's port went into its ring, until there was no free slot or no message more
  abbrev pub FillsFeed : ℕ → ℕ → FloorShown M → FloorShown M → Type 0
  FillsFeed number count old new = OnFeed stays number old new (Fills number count old.board new.board)

  -- `count` of them went, and then one was refused, which is still owed
  abbrev pub Starves : ℕ → Bool → ℕ → ℕ → FloorShown M → FloorShown M → Refusal → Type 0
  Starves chunk sure number count old new refusal =
      OnFeed stays number old new (λ from to. IsStarved chunk sure number count old.board new.board from to refusal)

  -- one was refused, but not the first
  abbrev pub BalksLate : ℕ → Bool → ℕ → ℕ → FloorShown M → FloorShown M → Type 0
  BalksLate chunk sure number count old new = (0 < count) × (refusal : Refusal) × Starves chunk sure number count old new refusal

  -- `count` went, which is all that there was a slot and a message for, unless a later one was refused
  abbrev pub PumpsFeed : ℕ → Bool → ℕ → ℕ → FloorShown M → FloorShown M → Type 0
  PumpsFeed chunk sure number count old new = FillsFeed number count old new ⊎ BalksLate chunk sure number count old new

  -- how a pump ends: `count` messages went; or no open feed has the number; or the first that was owed was refused
  abbrev pub Pumps : ℕ → Bool → ℕ → FloorShown M → FloorShown M → Result ℕ Refusal → Type 0
  Pumps chunk sure number old new (Ok count) = PumpsFeed chunk sure number count old new
  Pumps chunk sure number old new (Err refusal) = NoSuchOr (FindsNoFeed number old new) (Starves chunk sure number 0 old new) refusal

  -- an open feed is ended for good, and nothing else is changed; the end that is returned has all that was pumped
  pub record EndsFeed (number : ℕ) (old new : FloorShown M) (end : Option (Ended M)) : Type 0 where
    pub from : FeedSide M
    pub opened : slice_get old.feeds number ≡ Some (Some from)
    pub floor : new ≡ record old { feeds = slice_set old.feeds number None }
    pub given : IfSome end (λ whole. whole ≡ record { ring = from.ring; number = number; sent = fed old.board.history number })

  -- how the end of a feed ends: the feed is ended; or no open feed has the number
  abbrev pub Ends : ℕ → FloorShown M → FloorShown M → Result (Option (Ended M)) Refusal → Type 0
  Ends number old new (Ok end) = EndsFeed number old new end
  Ends number old new (Err refusal) = NoSuchOr (FindsNoFeed number old new) (λ other. ⊥) refusal
