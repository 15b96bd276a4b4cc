-- What a store does: a machine without input and output.
use Rattle.std.specs.Prelude.{ℕ, ◌+◌, ◌-◌, min, nat_lt, nat_le, Bool, true, false, ◌&&◌, if◌then◌else◌, Option, Some, None}
use Rattle.cml_store.specs.declared.stage.Stage.{Stage}
use Rattle.cml_store.specs.declared.stage.Stage.TheVariants.{Dirty, Trimming, Trimmed, Rewriting, Settling, Unnamed, Naming, Open, Lost}
use Rattle.cml_store.specs.declared.stage.Work.{Work}
use Rattle.cml_store.specs.declared.stage.Work.TheVariants.{Idle, Cutting, Growing, Storing}
use Rattle.cml_store.specs.declared.step.Step.{Step}
use Rattle.cml_store.specs.declared.step.Step.TheVariants.{Nothing, Cut, Grow, Store, Sync, SyncFolder}

-- How many bytes of the text were accepted, how many of these the system has, and how many of those are on disk; a length that the
-- file has at least; and what is under way: work on the bytes, and a sync of the first bytes.
pub record State : Type 0 where
  pub accepted : ℕ
  pub stored : ℕ
  pub synced : ℕ
  pub grown : ℕ
  pub work : Work
  pub syncing : Option ℕ
  pub stage : Stage

-- A file of which the first `kept` bytes are kept. Of these the last `limit` may be in memory alone, also where a sync says that all
-- is well, if an earlier one has failed: they are written again.
abbrev pub opened_at : ℕ → ℕ → ℕ → State
opened_at limit kept size =
    record { accepted = kept; stored = kept - limit; synced = kept - limit; grown = size; work = Idle; syncing = None; stage = Dirty }

-- what was read is no journal
abbrev pub refused : State
refused = record { accepted = 0; stored = 0; synced = 0; grown = 0; work = Idle; syncing = None; stage = Lost }

abbrev pub is_open : Stage → Bool
is_open Dirty = false
is_open Trimming = false
is_open Trimmed = false
is_open Rewriting = false
is_open Settling = false
is_open Unnamed = false
is_open Naming = false
is_open Open = true
is_open Lost = false

-- n bytes more are accepted
abbrev pub accepted_by : ℕ → State → State
accepted_by n s = record s { accepted = s.accepted + n }

-- the step that is under way on an open file's bytes
abbrev pub step_of : Work → (stored : ℕ) → Step
step_of Idle stored = Nothing
step_of (Cutting to) stored = Cut to
step_of (Growing to) stored = Grow to
step_of (Storing to) stored = Store stored to

-- the step that is under way on the file's bytes
abbrev pub storing_at : Stage → State → Step
storing_at Dirty s = Nothing
storing_at Trimming s = Cut s.accepted
storing_at Trimmed s = Nothing
storing_at Rewriting s = Store s.stored s.accepted
storing_at Settling s = Nothing
storing_at Unnamed s = Nothing
storing_at Naming s = Nothing
storing_at Open s = step_of s.work s.stored
storing_at Lost s = step_of s.work s.stored

abbrev pub storing_of : State → Step
storing_of s = storing_at s.stage s

-- the sync that is under way in an open file
abbrev pub sync_of : Option ℕ → Step
sync_of None = Nothing
sync_of (Some to) = Sync

-- the sync that is under way
abbrev pub syncing_at : Stage → State → Step
syncing_at Dirty s = Nothing
syncing_at Trimming s = Nothing
syncing_at Trimmed s = Nothing
syncing_at Rewriting s = Nothing
syncing_at Settling s = Sync
syncing_at Unnamed s = Nothing
syncing_at Naming s = SyncFolder
syncing_at Open s = sync_of s.syncing
syncing_at Lost s = Nothing

abbrev pub syncing_of : State → Step
syncing_of s = syncing_at s.stage s

-- no step is under way
abbrev pub rests : Step → Bool
rests Nothing = true
rests (Cut to) = false
rests (Grow to) = false
rests (Store from to) = false
rests Sync = false
rests SyncFolder = false

-- Work begins on an open file: bytes are to be stored, for which the file is long enough or has to grow first; or the file is being
-- closed, all is on disk, and the zeros behind the text are cut off.
abbrev pub work_begun : (unstored short unwanted : Bool) → ℕ → State → State
work_begun true true unwanted growth s = record s { work = Growing (s.accepted + growth); stage = Open }
work_begun true false unwanted growth s = record s { work = Storing s.accepted; stage = Open }
work_begun false short true growth s = record s { work = Cutting s.accepted; stage = Open }
work_begun false short false growth s = s

abbrev pub open_begun : Work → Bool → ℕ → State → State
open_begun Idle closing growth s =
    work_begun (nat_lt s.stored s.accepted) (nat_lt s.grown s.accepted)
    (closing && (if nat_lt s.synced s.accepted then false else nat_lt s.accepted s.grown)) growth s
open_begun (Cutting to) closing growth s = s
open_begun (Growing to) closing growth s = s
open_begun (Storing to) closing growth s = s

-- the next step on the file's bytes begins
abbrev pub storing_begun_at : Stage → Bool → ℕ → State → State
storing_begun_at Dirty closing growth s = record s { stage = Trimming }
storing_begun_at Trimming closing growth s = s
storing_begun_at Trimmed closing growth s = record s { stage = if nat_lt s.stored s.accepted then Rewriting else Trimmed }
storing_begun_at Rewriting closing growth s = s
storing_begun_at Settling closing growth s = s
storing_begun_at Unnamed closing growth s = s
storing_begun_at Naming closing growth s = s
storing_begun_at Open closing growth s = open_begun s.work closing growth s
storing_begun_at Lost closing growth s = s

abbrev pub storing_begun : Bool → ℕ → State → State
storing_begun closing growth s = storing_begun_at s.stage closing growth s

-- the step that begins
abbrev pub store_asked_at : Stage → Bool → ℕ → State → Step
store_asked_at stage closing growth s =
    if rests (storing_at stage s) then storing_of (storing_begun_at stage closing growth s) else Nothing

abbrev pub store_asked : Bool → ℕ → State → Step
store_asked closing growth s = store_asked_at s.stage closing growth s

-- An open file, on whose bytes nothing is under way, begins to grow to this length, if it is shorter and has room there for what was
-- accepted. So there is room before bytes are accepted.
abbrev pub grow_begun : Work → (wanted : Bool) → ℕ → State → State
grow_begun Idle true to s = record s { work = Growing to; stage = Open }
grow_begun Idle false to s = s
grow_begun (Cutting at) wanted to s = s
grow_begun (Growing at) wanted to s = s
grow_begun (Storing at) wanted to s = s

abbrev pub growth_begun_at : Stage → ℕ → State → State
growth_begun_at Dirty to s = s
growth_begun_at Trimming to s = s
growth_begun_at Trimmed to s = s
growth_begun_at Rewriting to s = s
growth_begun_at Settling to s = s
growth_begun_at Unnamed to s = s
growth_begun_at Naming to s = s
growth_begun_at Open to s = grow_begun s.work (nat_lt s.grown to && nat_le s.accepted to) to s
growth_begun_at Lost to s = s

abbrev pub growth_begun : ℕ → State → State
growth_begun to s = growth_begun_at s.stage to s

abbrev pub growth_asked_at : Stage → ℕ → State → Step
growth_asked_at stage to s = if rests (storing_at stage s) then storing_of (growth_begun_at stage to s) else Nothing

abbrev pub growth_asked : ℕ → State → Step
growth_asked to s = growth_asked_at s.stage to s

-- Work on an open file ends. A file that was cut in part may have any length between.
abbrev pub work_ended : Work → Bool → State → State
work_ended Idle done s = s
work_ended (Cutting to) true s = record s { grown = to; work = Idle }
work_ended (Cutting to) false s = record s { grown = min s.grown to; work = Idle }
work_ended (Growing to) true s = record s { grown = to; work = Idle }
work_ended (Growing to) false s = record s { work = Idle }
work_ended (Storing to) true s = record s { stored = to; work = Idle }
work_ended (Storing to) false s = record s { work = Idle }

-- the step on the file's bytes ends
abbrev pub storing_ended_at : Stage → Bool → State → State
storing_ended_at Dirty done s = s
storing_ended_at Trimming true s = record s { grown = s.accepted; stage = Trimmed }
storing_ended_at Trimming false s = record s { stage = Dirty }
storing_ended_at Trimmed done s = s
storing_ended_at Rewriting true s = record s { stored = s.accepted; stage = Trimmed }
storing_ended_at Rewriting false s = record s { stage = Trimmed }
storing_ended_at Settling done s = s
storing_ended_at Unnamed done s = s
storing_ended_at Naming done s = s
storing_ended_at Open done s = work_ended s.work done s
storing_ended_at Lost done s = work_ended s.work done s

abbrev pub storing_ended : Bool → State → State
storing_ended done s = storing_ended_at s.stage done s

-- a sync of an open file begins, for what is stored by now
abbrev pub open_sync_begun : Option ℕ → (unsynced : Bool) → State → State
open_sync_begun None true s = record s { syncing = Some s.stored; stage = Open }
open_sync_begun None false s = s
open_sync_begun (Some to) unsynced s = s

-- the next sync begins
abbrev pub syncing_begun_at : Stage → State → State
syncing_begun_at Dirty s = s
syncing_begun_at Trimming s = s
syncing_begun_at Trimmed s = record s { stage = if nat_lt s.stored s.accepted then Trimmed else Settling }
syncing_begun_at Rewriting s = s
syncing_begun_at Settling s = s
syncing_begun_at Unnamed s = record s { stage = Naming }
syncing_begun_at Naming s = s
syncing_begun_at Open s = open_sync_begun s.syncing (nat_lt s.synced s.stored) s
syncing_begun_at Lost s = s

abbrev pub syncing_begun : State → State
syncing_begun s = syncing_begun_at s.stage s

-- the sync that begins
abbrev pub sync_asked_at : Stage → State → Step
sync_asked_at stage s = if rests (syncing_at stage s) then syncing_of (syncing_begun_at stage s) else Nothing

abbrev pub sync_asked : State → Step
sync_asked s = sync_asked_at s.stage s

-- A sync of an open file ends. After one that failed, the file is not synced again.
abbrev pub open_sync_ended : Option ℕ → Bool → State → State
open_sync_ended None done s = s
open_sync_ended (Some to) true s = record s { synced = to; syncing = None; stage = Open }
open_sync_ended (Some to) false s = record s { syncing = None; stage = Lost }

-- The sync ends. After one that failed, all is written again.
abbrev pub syncing_ended_at : Stage → Bool → State → State
syncing_ended_at Dirty done s = s
syncing_ended_at Trimming done s = s
syncing_ended_at Trimmed done s = s
syncing_ended_at Rewriting done s = s
syncing_ended_at Settling true s = record s { stage = Unnamed }
syncing_ended_at Settling false s = record s { stored = s.synced; stage = Dirty }
syncing_ended_at Unnamed done s = s
syncing_ended_at Naming true s = record s { synced = s.accepted; stage = Open }
syncing_ended_at Naming false s = record s { stage = Lost }
syncing_ended_at Open done s = open_sync_ended s.syncing done s
syncing_ended_at Lost done s = s

abbrev pub syncing_ended : Bool → State → State
syncing_ended done s = syncing_ended_at s.stage done s
