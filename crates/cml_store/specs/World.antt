-- A store, its file, and a reader: every schedule of calls, failures, kills and losses of power.
use Rattle.std.specs.Prelude.{◌≡◌, ℕ, ◌+◌, ◌≤◌, Bool, true, false, if◌then◌else◌, List, [], ◌∷◌, ◌++◌, length, take}
use Rattle.cml_store.specs.declared.stage.Stage.{Stage}
use Rattle.cml_store.specs.declared.step.Step.{Step}
use Rattle.cml_store.specs.declared.step.Step.TheVariants.{Nothing, Cut, Grow, Store, Sync, SyncFolder}
use Rattle.cml_store.specs.Disk.{Disk, LeftOf, MayLeave, MayForget, calls_of, MayEnd}
use Rattle.cml_store.specs.Machine.{State, opened_at, refused, is_open, accepted_by, storing_at, storing_of, storing_begun_at, store_asked_at, growth_begun_at, growth_asked_at, storing_ended_at, syncing_at, syncing_of, syncing_begun_at, sync_asked_at, syncing_ended_at}
use Rattle.cml_store.specs.Recovery.{IsPrinted, printed, recovered}

-- The text that was accepted, as far as a recovery has kept it; and its marks: how many of its bytes a kill keeps, as far as the
-- store has told, and how many a loss of power keeps.
pub record World : Type 0 where
  pub store : State
  pub disk : Disk
  pub text : List ℕ
  pub stored : ℕ
  pub synced : ℕ

-- What may happen next. As a step ends, a reader of the file gets `seen`, and the next good sync would leave `next`. The system may
-- fail to write, and forget; whether it has is known only from a sync. The process may be killed, or power lost, and the file is
-- opened: its opener reads `c`.
pub data Event : Type 0 where
  Accepts : (piece : List ℕ) → Event
  BeginsStore : (closing : Bool) → Event
  BeginsGrowth : (to : ℕ) → Event
  EndsStore : (done : Bool) → (seen next : List ℕ) → Event
  BeginsSync : Event
  EndsSync : (done : Bool) → (seen next : List ℕ) → Event
  Forgets : (seen next : List ℕ) → Event
  IsKilled : (c next : List ℕ) → Event
  LosesPower : (c : List ℕ) → Event

-- nothing happens to the file but what the store does: nobody opens it, and the system forgets nothing of it
abbrev pub IsInside : Event → Type 0
IsInside (Accepts piece) = Unit {0}
IsInside (BeginsStore closing) = Unit {0}
IsInside (BeginsGrowth to) = Unit {0}
IsInside (EndsStore done seen next) = Unit {0}
IsInside BeginsSync = Unit {0}
IsInside (EndsSync done seen next) = Unit {0}
IsInside (Forgets seen next) = ⊥
IsInside (IsKilled c next) = ⊥
IsInside (LosesPower c) = ⊥

abbrev pub AllInside : List Event → Type 0
AllInside [] = Unit {0}
AllInside (event ∷ events) = IsInside event × AllInside events

-- the system keeps what it has: power isn't lost, and it doesn't fail to write
abbrev pub KeepsMemory : Event → Type 0
KeepsMemory (Accepts piece) = Unit {0}
KeepsMemory (BeginsStore closing) = Unit {0}
KeepsMemory (BeginsGrowth to) = Unit {0}
KeepsMemory (EndsStore done seen next) = Unit {0}
KeepsMemory BeginsSync = Unit {0}
KeepsMemory (EndsSync done seen next) = done ≡ true
KeepsMemory (Forgets seen next) = ⊥
KeepsMemory (IsKilled c next) = Unit {0}
KeepsMemory (LosesPower c) = ⊥

abbrev pub AllKeepMemory : List Event → Type 0
AllKeepMemory [] = Unit {0}
AllKeepMemory (event ∷ events) = KeepsMemory event × AllKeepMemory events

-- a step on the file's bytes has begun
abbrev pub store_started : List ℕ → Step → Disk → Disk
store_started text step disk = record disk { calls = calls_of text step ++ disk.calls; since = calls_of text step ++ disk.since }

-- a sync has begun, while this step is under way
abbrev pub sync_started : List ℕ → Step → Step → Disk → Disk
sync_started text Sync step disk = record disk { mark = disk.next; since = calls_of text step }
sync_started text Nothing step disk = disk
sync_started text (Cut to) step disk = disk
sync_started text (Grow to) step disk = disk
sync_started text (Store from to) step disk = disk
sync_started text SyncFolder step disk = disk

-- A sync has ended. A good one leaves what was there as it began, and what came later isn't sure. One that failed leaves a system
-- that may have forgotten.
abbrev pub sync_over : Step → Bool → List ℕ → List ℕ → Disk → Disk
sync_over Sync true seen next disk = record disk { kept = disk.mark; calls = disk.since }
sync_over Sync false seen next disk = record disk { seen = seen; next = next; failing = false }
sync_over SyncFolder true seen next disk = record disk { named = true }
sync_over SyncFolder false seen next disk = disk
sync_over Nothing done seen next disk = disk
sync_over (Cut to) done seen next disk = disk
sync_over (Grow to) done seen next disk = disk
sync_over (Store from to) done seen next disk = disk

-- a sync that is under way may end so: not well after the system has failed to write
abbrev pub MaySync : Step → Bool → List ℕ → List ℕ → Disk → Type 0
MaySync Sync true seen next disk = disk.failing ≡ false
MaySync Sync false seen next disk = MayForget disk seen next
MaySync SyncFolder done seen next disk = Unit {0}
MaySync Nothing done seen next disk = ⊥
MaySync (Cut to) done seen next disk = ⊥
MaySync (Grow to) done seen next disk = ⊥
MaySync (Store from to) done seen next disk = ⊥

-- The mark of what is stored, as an open store tells it once a step has ended. What is stored after the system has failed to write
-- isn't sure.
abbrev pub stored_by : Step → (done failing : Bool) → ℕ → ℕ
stored_by (Store from to) true false old = to
stored_by (Store from to) true true old = old
stored_by (Store from to) false failing old = old
stored_by Nothing done failing old = old
stored_by (Cut to) done failing old = old
stored_by (Grow to) done failing old = old
stored_by Sync done failing old = old
stored_by SyncFolder done failing old = old

abbrev pub stored_mark : Stage → Step → (done failing : Bool) → ℕ → ℕ
stored_mark stage step done failing old = if is_open stage then stored_by step done failing old else old

-- The same once a sync has ended. After one that failed, a kill keeps for sure only what a loss of power keeps. As an opening ends,
-- all that is kept is synced.
abbrev pub stored_then : Step → Bool → (stored synced : ℕ) → State → ℕ
stored_then Sync true stored synced s = stored
stored_then Sync false stored synced s = synced
stored_then SyncFolder true stored synced s = s.synced
stored_then SyncFolder false stored synced s = stored
stored_then Nothing done stored synced s = stored
stored_then (Cut to) done stored synced s = stored
stored_then (Grow to) done stored synced s = stored
stored_then (Store from to) done stored synced s = stored

-- the mark of what is synced, as an open store tells it
abbrev pub synced_then : Stage → ℕ → State → ℕ
synced_then stage old s = if is_open stage then s.synced else old

-- the text is what recovery has kept, once a file that was read is open
abbrev pub text_over : Step → Bool → State → List ℕ → List ℕ
text_over SyncFolder true s text = take s.accepted text
text_over SyncFolder false s text = text
text_over Sync done s text = text
text_over Nothing done s text = text
text_over (Cut to) done s text = text
text_over (Grow to) done s text = text
text_over (Store from to) done s text = text

abbrev pub accepts_at : Bool → List ℕ → World → World
accepts_at true piece w = record w { store = accepted_by (length piece) w.store; text = w.text ++ piece }
accepts_at false piece w = w

abbrev pub begins_store : Stage → Bool → ℕ → World → World
begins_store stage closing growth w =
    record w {
      store = storing_begun_at stage closing growth w.store;
      disk = store_started w.text (store_asked_at stage closing growth w.store) w.disk;
    }

abbrev pub begins_growth : Stage → ℕ → World → World
begins_growth stage to w =
    record w {
      store = growth_begun_at stage to w.store;
      disk = store_started w.text (growth_asked_at stage to w.store) w.disk;
    }

abbrev pub ends_store : Stage → Bool → List ℕ → List ℕ → World → World
ends_store stage done seen next w =
    record w {
      store = storing_ended_at stage done w.store;
      disk = record w.disk { seen = seen; next = next };
      stored = stored_mark stage (storing_at stage w.store) done w.disk.failing w.stored;
    }

abbrev pub begins_sync : Stage → World → World
begins_sync stage w =
    record w {
      store = syncing_begun_at stage w.store;
      disk = sync_started w.text (sync_asked_at stage w.store) (storing_at stage w.store) w.disk;
    }

abbrev pub ends_sync_by : Step → Bool → List ℕ → List ℕ → State → World → World
ends_sync_by step done seen next s w =
    record {
      store = s;
      disk = sync_over step done seen next w.disk;
      text = text_over step done w.store w.text;
      stored = stored_then step done w.stored w.synced s;
      synced = synced_then s.stage w.synced s;
    }

abbrev pub ends_sync : Stage → Bool → List ℕ → List ℕ → World → World
ends_sync stage done seen next w = ends_sync_by (syncing_at stage w.store) done seen next (syncing_ended_at stage done w.store) w

abbrev pub forgets : List ℕ → List ℕ → World → World
forgets seen next w = record w { disk = record w.disk { seen = seen; next = next; failing = true }; stored = w.synced }

-- Which texts are whole, which are fronts of such a text, how many bytes at most are accepted and not synced, and by how many more a
-- file grows. A file whose bytes before the first 0 are no front is no journal.
module _ (whole front : List ℕ → Bool) (limit growth : ℕ) where
  abbrev pub opened : List ℕ → State
  opened c = if front (printed c) then opened_at limit (length (recovered whole c)) (length c) else refused

  -- a process that opens a file after a kill need not hear that the system has failed to write
  abbrev pub after : World → Event → World
  after w (Accepts piece) = accepts_at (is_open w.store.stage) piece w
  after w (BeginsStore closing) = begins_store w.store.stage closing growth w
  after w (BeginsGrowth to) = begins_growth w.store.stage to w
  after w (EndsStore done seen next) = ends_store w.store.stage done seen next w
  after w BeginsSync = begins_sync w.store.stage w
  after w (EndsSync done seen next) = ends_sync w.store.stage done seen next w
  after w (Forgets seen next) = forgets seen next w
  after w (IsKilled c next) = record w { store = opened c; disk = record w.disk { seen = c; next = next; failing = false } }
  after w (LosesPower c) =
      record w {
        store = opened c;
        disk = record { kept = c; calls = []; seen = c; next = c; mark = c; since = []; named = w.disk.named; failing = false };
        stored = w.synced;
      }

  -- a kill may leave this for a reader of the file: what the system has, with the step under way in part
  abbrev pub MayRead : World → List ℕ → Type 0
  MayRead w c = LeftOf w.disk.seen (calls_of w.text (storing_of w.store)) c

  -- a piece leaves a whole text, and not too much that isn't synced; a step ends as it may; and what is read is what may be left
  abbrev pub MayHappen : World → Event → Type 0
  MayHappen w (Accepts piece) =
      IsPrinted piece × (whole (w.text ++ piece) ≡ true) × (w.store.accepted + length piece ≤ w.store.synced + limit)
  MayHappen w (BeginsStore closing) = Unit {0}
  MayHappen w (BeginsGrowth to) = Unit {0}
  MayHappen w (EndsStore done seen next) =
      MayEnd w.text (storing_of w.store) done w.disk.seen seen × MayEnd w.text (storing_of w.store) done w.disk.next next
  MayHappen w BeginsSync = Unit {0}
  MayHappen w (EndsSync done seen next) = MaySync (syncing_of w.store) done seen next w.disk
  MayHappen w (Forgets seen next) = MayForget w.disk seen next
  MayHappen w (IsKilled c next) = MayRead w c × LeftOf w.disk.next (calls_of w.text (storing_of w.store)) next
  MayHappen w (LosesPower c) = MayLeave w.disk c

  -- a new file is opened
  abbrev pub fresh : World
  fresh =
      record {
        store = opened [];
        disk = record { kept = []; calls = []; seen = []; next = []; mark = []; since = []; named = false; failing = false };
        text = [];
        stored = 0;
        synced = 0;
      }

  abbrev pub run : World → List Event → World
  run w [] = w
  run w (event ∷ events) = run (after w event) events

  abbrev pub MayRun : World → List Event → Type 0
  MayRun w [] = Unit {0}
  MayRun w (event ∷ events) = MayHappen w event × MayRun (after w event) events

  -- recovery keeps a front of the text, with all up to a mark
  abbrev pub IsPast : ℕ → World → List ℕ → Type 0
  IsPast mark w c = (n : ℕ) × (mark ≤ n) × (n ≤ length w.text) × (recovered whole c ≡ take n w.text)
