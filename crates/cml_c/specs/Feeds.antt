-- What the calls on feeds return to C.
use Rattle.std.specs.Prelude.{ℕ, ◌≡◌, ◌<◌, ◌⊎◌, [], ◌∷◌, ◌++◌, length, List, Option, Result, Bool}
use Rattle.cml_board.specs.{Name, Refusal}
use Rattle.cml_lanes.specs.{FeedShown, Ended, KeepsRings, SameFeedRing, OpensAFeed}
use Rattle.cml_lanes.specs.Feeds.{Ends}
use Rattle.cml_room.specs.{RoomShown, floor_of, KeepsSeats, Stirs, MakesNoneDue}
use Rattle.cml_c.specs.declared.code.Code.{Code}
use Rattle.cml_c.specs.declared.code.Code.TheVariants.{Done, Nothing, NoMemory}
use Rattle.cml_c.specs.declared.handle.Slot.{Slot}
use Rattle.cml_c.specs.declared.owned.Owned.{Owned}
use Rattle.cml_c.specs.declared.owned.Resource.{Resource}
use Rattle.cml_c.specs.declared.owned.Resource.TheVariants.{Feed}
use Rattle.cml_c.specs.Codes.{number, told_outcome}
use Rattle.cml_c.specs.Asking.{chunk}
use Rattle.cml_c.specs.Lanes.{OpensIn}
use Rattle.cml_c.specs.declared.messages.SeryugoBytes.{SeryugoBytes}
use Rattle.cml_c.specs.Messages.{IsHanded}

-- the rings of the open feeds stay, and no seat becomes due
pub record KeepsFeedRings {M : Type 0} (old new : RoomShown M) : Type 0 where
  pub rings : (number : ℕ) → number < length old.feeds → SameFeedRing number (floor_of old) (floor_of new)
  pub stirs : Stirs MakesNoneDue old new

abbrev pub OpensFeed : {M : Type 0} → (Resource M → Owned) → Bool → Name → ℕ → Slot → Slot → ℕ → ℕ → ℕ → RoomShown M → RoomShown M → Type 0
OpensFeed wrap sure channel capacity =
    OpensIn (λ feed. wrap (Feed feed)) (λ old new outcome. OpensAFeed chunk sure old new channel capacity outcome) KeepsFeedRings capacity

-- this is the next message, which is taken
pub record IsTaken {M : Type 0} (message : M) (told : ℕ) (old new : FeedShown M) : Type 0 where
  pub done : told ≡ number Done
  pub taken : new ≡ record old { taken = old.taken ++ message ∷ [] }

-- none is taken, for this reason
pub record NoneIsTaken {M : Type 0} (same : Type 0) (reason : Code) (told : ℕ) (old new : FeedShown M) : Type 0 where
  pub code : told ≡ number reason
  pub written : same
  pub feed : new ≡ old

-- a number is written, or none is seen
abbrev pub TakesNumber : ℕ → ℕ → ℕ → FeedShown ℕ → FeedShown ℕ → Type 0
TakesNumber told before after old new = IsTaken after told old new ⊎ NoneIsTaken (after ≡ before) Nothing told old new

-- a message of bytes is handed over, or none is seen, or there is no memory to keep it
abbrev pub TakesBytes : ℕ → SeryugoBytes → SeryugoBytes → FeedShown (List ℕ) → FeedShown (List ℕ) → Type 0
TakesBytes told from to old new =
    ((message : List ℕ) × IsTaken message told old new × IsHanded message to)
    ⊎ NoneIsTaken (to ≡ from) Nothing told old new ⊎ NoneIsTaken (to ≡ from) NoMemory told old new

abbrev pub TellsPort : {M : Type 0} → ℕ → ℕ → FeedShown M → FeedShown M → Type 0
TellsPort told after old new = (told ≡ number Done) × (after ≡ old.port.0) × (new ≡ old)

-- the feed ends; the rings of the lanes and feeds stay, and the seats too
pub record EndsFeed {M : Type 0} (feed code : ℕ) (old new : RoomShown M) : Type 0 where
  pub outcome : Result (Option (Ended M)) Refusal
  pub floor : Ends feed (floor_of old) (floor_of new) outcome
  pub rings : KeepsRings (floor_of old) (floor_of new)
  pub kept : KeepsSeats old new
  pub told : code ≡ number (told_outcome outcome)
