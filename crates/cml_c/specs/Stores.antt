-- What C gets of the machine of a journal's file.
use Rattle.std.specs.Prelude.{ℕ, ◌≡◌, ◌≤◌, ◌<◌, ◌+◌, ◌^◌, ◌⊎◌, Bool, true, false, List, [], ◌∷◌, Option, Some, None, Box, ⊤}
use Rattle.std.specs.declared.alloc.Global.{Global}
use Rattle.cml_store.specs.declared.stage.Stage.{Stage}
use Rattle.cml_store.specs.declared.stage.Stage.TheVariants.{Dirty, Trimming, Trimmed, Rewriting, Settling, Unnamed, Naming, Open, Lost}
use Rattle.cml_store.specs.declared.step.Step.{Step}
use Rattle.cml_store.specs.declared.step.Step.TheVariants as step
use Rattle.cml_store.specs.Machine.{State, opened_at, is_open, accepted_by, storing_begun, store_asked, growth_begun, growth_asked, storing_ended}
use Rattle.cml_store.specs.Machine.{syncing_begun, sync_asked, syncing_ended}
use Rattle.cml_c.specs.declared.code.Code.TheVariants.{Done, Gone, NoMemory, Full, OutOfBounds, TooLong}
use Rattle.cml_c.specs.declared.handle.Slot.{Slot}
use Rattle.cml_c.specs.declared.owned.Owned.{Owned}
use Rattle.cml_c.specs.declared.owned.Owned.TheVariants.{Numbers}
use Rattle.cml_c.specs.declared.owned.Resource.{Resource}
use Rattle.cml_c.specs.declared.owned.Resource.TheVariants.{Store}
use Rattle.cml_c.specs.declared.stores.Mark.{Mark}
use Rattle.cml_c.specs.declared.stores.Mark.TheVariants as mark
use Rattle.cml_c.specs.declared.stores.SeryugoStep.{SeryugoStep}
use Rattle.cml_c.specs.declared.stores.Work.{Work}
use Rattle.cml_c.specs.declared.stores.Work.TheVariants as work
use Rattle.cml_c.specs.Codes.{number}
use Rattle.cml_c.specs.Handles.{IsWrong, OnNumbers}
use Rattle.cml_c.specs.Opening.{WritesNew}

-- the most bytes that are accepted and not synced, and by how many a file grows if nobody has asked for room before
abbrev pub unsynced_most : ℕ
unsynced_most = 2 ^ 26

abbrev pub grows_by : ℕ
grows_by = 2 ^ 22

-- it is such a machine, and this becomes of it; else the call is wrong
abbrev pub OnMachine : {M : Type 0} → (State → State → Type 0) → Type 0 → ℕ → Resource M → Resource M → Type 0
OnMachine {M} becomes same code (Store old) new = (store : Box State Global) × (new ≡ Store store) × becomes old.value store.value
OnMachine becomes same code other new = IsWrong same code other new

abbrev pub OnStore : (State → State → Type 0) → Type 0 → ℕ → Owned → Owned → Type 0
OnStore becomes same code old new = OnNumbers (OnMachine becomes) same code old new

-- a handle to the machine of a file of which the first `kept` of `size` bytes are kept is written; or nothing is
abbrev pub OpensStore : (kept size code : ℕ) → Slot → Slot → Type 0
OpensStore kept size code old new =
    ((kept ≤ 2 ^ 62) × WritesNew (λ store. store ≡ opened_at unsynced_most kept size) (λ store. Numbers (Store store)) code new)
    ⊎ ((code ≡ number NoMemory) × (new ≡ old)) ⊎ ((code ≡ number OutOfBounds) × (2 ^ 62 < kept) × (new ≡ old))

-- bytes are accepted; or they are not, for one of these reasons
abbrev pub AcceptsIn : (bytes code : ℕ) → State → State → Type 0
AcceptsIn bytes code old new =
    ((code ≡ number Done) × (old.accepted + bytes ≤ old.synced + unsynced_most) × (new ≡ accepted_by bytes old))
    ⊎ ((code ≡ number Gone) × (is_open old.stage ≡ false) × (new ≡ old))
    ⊎ ((code ≡ number Full) × (bytes ≤ unsynced_most) × (old.synced + unsynced_most < old.accepted + bytes) × (new ≡ old))
    ⊎ ((code ≡ number TooLong) × ((unsynced_most < bytes) ⊎ (2 ^ 62 < old.accepted + bytes)) × (new ≡ old))

abbrev pub AcceptsBytes : (bytes code : ℕ) → Owned → Owned → Type 0
AcceptsBytes bytes code old new = OnStore (AcceptsIn bytes code) ⊤ code old new

-- a step as C has it
abbrev pub shown_step : Step → SeryugoStep
shown_step step.Nothing = record { kind = 0; from = 0; to = 0 }
shown_step (step.Cut to) = record { kind = 1; from = 0; to = to }
shown_step (step.Grow to) = record { kind = 2; from = 0; to = to }
shown_step (step.Store from to) = record { kind = 3; from = from; to = to }
shown_step step.Sync = record { kind = 4; from = 0; to = 0 }
shown_step step.SyncFolder = record { kind = 5; from = 0; to = 0 }

-- what a step is for, in the order of the numbers
abbrev pub works : List Work
works = work.Bytes ∷ work.Closing ∷ work.Room ∷ work.Sync ∷ []

abbrev pub begun : Work → (to : ℕ) → State → State
begun work.Bytes to s = storing_begun false grows_by s
begun work.Closing to s = storing_begun true grows_by s
begun work.Room to s = growth_begun to s
begun work.Sync to s = syncing_begun s

abbrev pub asked : Work → (to : ℕ) → State → Step
asked work.Bytes to s = store_asked false grows_by s
asked work.Closing to s = store_asked true grows_by s
asked work.Room to s = growth_asked to s
asked work.Sync to s = sync_asked s

-- the next step of this work begins, and is written; or no work has such a number
pub record AsksIn (work : Work) (to : ℕ) (after : SeryugoStep) (code : ℕ) (old new : State) : Type 0 where
  pub told : code ≡ number Done
  pub begins : new ≡ begun work to old
  pub written : after ≡ shown_step (asked work to old)

abbrev pub Asks : Work → (to : ℕ) → (before after : SeryugoStep) → (code : ℕ) → Owned → Owned → Type 0
Asks work to before after code old new = OnStore (AsksIn work to after code) (after ≡ before) code old new

abbrev pub AsksOn : Option Work → (to : ℕ) → (before after : SeryugoStep) → (code : ℕ) → Owned → Owned → Type 0
AsksOn (Some work) to before after code old new = Asks work to before after code old new
AsksOn None to before after code old new = (code ≡ number OutOfBounds) × (after ≡ before) × (new ≡ old)

-- the step that is under way ends
abbrev pub ended : (is_sync is_done : Bool) → State → State
ended true is_done s = syncing_ended is_done s
ended false is_done s = storing_ended is_done s

abbrev pub EndsIn : (is_sync is_done : Bool) → (code : ℕ) → State → State → Type 0
EndsIn is_sync is_done code old new = (code ≡ number Done) × (new ≡ ended is_sync is_done old)

abbrev pub EndsOn : (is_sync is_done : Bool) → (code : ℕ) → Owned → Owned → Type 0
EndsOn is_sync is_done code old new = OnStore (EndsIn is_sync is_done code) ⊤ code old new

-- what is read off a machine, in the order of the numbers
abbrev pub marks : List Mark
marks = mark.Accepted ∷ mark.Stored ∷ mark.Synced ∷ mark.Grown ∷ mark.Stage ∷ []

abbrev pub stage_number : Stage → ℕ
stage_number Dirty = 0
stage_number Trimming = 0
stage_number Trimmed = 0
stage_number Rewriting = 0
stage_number Settling = 0
stage_number Unnamed = 0
stage_number Naming = 0
stage_number Open = 1
stage_number Lost = 2

abbrev pub mark_of : Mark → State → ℕ
mark_of mark.Accepted s = s.accepted
mark_of mark.Stored s = s.stored
mark_of mark.Synced s = s.synced
mark_of mark.Grown s = s.grown
mark_of mark.Stage s = stage_number s.stage

-- it is written, and the machine is as it was; or no mark has such a number
abbrev pub TellsMarkIn : Mark → (after code : ℕ) → State → State → Type 0
TellsMarkIn mark after code old new = (code ≡ number Done) × (after ≡ mark_of mark old) × (new ≡ old)

abbrev pub TellsMark : Mark → (before after code : ℕ) → Owned → Owned → Type 0
TellsMark mark before after code old new = OnStore (TellsMarkIn mark after code) (after ≡ before) code old new

abbrev pub TellsMarkOn : Option Mark → (before after code : ℕ) → Owned → Owned → Type 0
TellsMarkOn (Some mark) before after code old new = TellsMark mark before after code old new
TellsMarkOn None before after code old new = (code ≡ number OutOfBounds) × (after ≡ before) × (new ≡ old)
