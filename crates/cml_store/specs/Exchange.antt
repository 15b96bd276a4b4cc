-- How a file beside takes a journal's name: a machine without input and output.
use Rattle.std.specs.Prelude.{ℕ, ◌+◌, ◌-◌, ◌^◌, min, nat_le, Bool, true, false, ◌&&◌}
use Rattle.cml_store.specs.declared.exchange.Way.{Way}
use Rattle.cml_store.specs.declared.exchange.Way.TheVariants.{Beside, Renaming, Renamed, Naming, Over, Left, Lost}
use Rattle.cml_store.specs.declared.exchange.Move.{Move}
use Rattle.cml_store.specs.declared.exchange.Move.TheVariants.{Nothing, Rename, SyncFolder}
use Rattle.cml_store.specs.Machine.{State, is_open}

-- The new file begins with a text of `short` bytes, which stands for the first `taken` bytes of the old one.
pub record Crossing : Type 0 where
  pub taken : ℕ
  pub short : ℕ
  pub way : Way

abbrev pub begun : ℕ → ℕ → Crossing
begun taken short = record { taken = taken; short = short; way = Beside }

-- which file is in charge: it has, or may have, the journal's name
pub data Holder : Type 0 where
  Old : Holder
  Either : Holder
  New : Holder

abbrev pub holder : Way → Holder
holder Beside = Old
holder Renaming = Either
holder Renamed = Either
holder Naming = Either
holder Over = New
holder Left = Old
holder Lost = Either

-- the place of the old file that a place of the new one stands for, or the last that a word holds
abbrev pub place : Crossing → ℕ → ℕ
place e mark = min (e.taken + (mark - e.short)) (2 ^ 64 - 1)

-- How far a mark counts, as a place of the old file. What either file may be asked for counts only where both have it.
abbrev pub counted_at : Holder → Crossing → (old new : ℕ) → ℕ
counted_at Old e old new = old
counted_at Either e old new = min old (place e new)
counted_at New e old new = place e new

abbrev pub counted : Crossing → (old new : ℕ) → ℕ
counted e old new = counted_at (holder e.way) e old new

-- both files are open, and the new one has on the disk all that the old one has there, and stored all that the old one has stored
abbrev pub covers : Crossing → (old new : State) → Bool
covers e old new =
    (is_open old.stage && is_open new.stage)
    && (nat_le e.short new.synced && (nat_le old.synced (place e new.synced) && nat_le old.stored (place e new.stored)))

-- the next step begins
abbrev pub begun_at : Way → Bool → Way
begun_at Beside true = Renaming
begun_at Beside false = Beside
begun_at Renaming covered = Renaming
begun_at Renamed covered = Naming
begun_at Naming covered = Naming
begun_at Over covered = Over
begun_at Left covered = Left
begun_at Lost covered = Lost

abbrev pub move_begun : (old new : State) → Crossing → Crossing
move_begun old new e = record e { way = begun_at e.way (covers e old new) }

-- the step that is under way
abbrev pub move_of : Way → Move
move_of Beside = Nothing
move_of Renaming = Rename
move_of Renamed = Nothing
move_of Naming = SyncFolder
move_of Over = Nothing
move_of Left = Nothing
move_of Lost = Nothing

-- the step that begins
abbrev pub asked_at : Way → Bool → Move
asked_at Beside true = Rename
asked_at Beside false = Nothing
asked_at Renaming covered = Nothing
asked_at Renamed covered = SyncFolder
asked_at Naming covered = Nothing
asked_at Over covered = Nothing
asked_at Left covered = Nothing
asked_at Lost covered = Nothing

abbrev pub move_asked : (old new : State) → Crossing → Move
move_asked old new e = asked_at e.way (covers e old new)

-- The step ends. If the folder's sync has failed, either file may have the name.
abbrev pub ended_at : Way → Bool → Way
ended_at Beside done = Beside
ended_at Renaming true = Renamed
ended_at Renaming false = Left
ended_at Renamed done = Renamed
ended_at Naming true = Over
ended_at Naming false = Lost
ended_at Over done = Over
ended_at Left done = Left
ended_at Lost done = Lost

abbrev pub move_ended : Bool → Crossing → Crossing
move_ended done e = record e { way = ended_at e.way done }

-- the exchange is cancelled, unless a step has begun
abbrev pub cancelled_at : Way → Way
cancelled_at Beside = Left
cancelled_at Renaming = Renaming
cancelled_at Renamed = Renamed
cancelled_at Naming = Naming
cancelled_at Over = Over
cancelled_at Left = Left
cancelled_at Lost = Lost

abbrev pub cancelled : Crossing → Crossing
cancelled e = record e { way = cancelled_at e.way }
