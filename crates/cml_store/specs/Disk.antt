-- A file, what a loss of power may leave of it, and what a call may make of it.
use Rattle.std.specs.Prelude.{◌≡◌, ◌⊎◌, ℕ, ◌+◌, ◌-◌, ◌<◌, ◌≤◌, min, max, Bool, true, false, List, [], ◌∷◌, length, get_or, take, drop}
use Rattle.cml_store.specs.declared.step.Step.{Step}
use Rattle.cml_store.specs.declared.step.Step.TheVariants.{Nothing, Cut, Grow, Store, Sync, SyncFolder}

-- a call that a loss of power may undo, or leave in part: some bytes were written at a place, or the file got a length
pub data Call : Type 0 where
  Wrote : ℕ → List ℕ → Call
  Sized : ℕ → Call

-- `kept` is what the last good sync left, and `calls` are the calls since, the newest first. Whoever reads the file gets `seen`, and
-- the next good sync would leave `next`: these are the same until the system fails to write. As the last sync began, a good one
-- would have left `mark`, and `since` are the calls that were under way then or came later. `named` says that the file's name is on
-- disk, and `failing` that the system has failed to write, and the next sync will say so.
pub record Disk : Type 0 where
  pub kept : List ℕ
  pub calls : List Call
  pub seen : List ℕ
  pub next : List ℕ
  pub mark : List ℕ
  pub since : List Call
  pub named : Bool
  pub failing : Bool

-- After a write in part each byte of its range is the old one or the new one, and each other is as before. A byte behind the old end
-- that was not written is 0.
pub record IsTorn (at : ℕ) (bytes old new : List ℕ) : Type 0 where
  pub no_shorter : length old ≤ length new
  pub no_longer : length new ≤ max (length old) (at + length bytes)
  pub each : (i : ℕ) → (get_or new i 0 ≡ get_or old i 0)
      ⊎ ((at ≤ i) × (i < at + length bytes) × (get_or new i 0 ≡ get_or bytes (i - at) 0))

-- after a write that was done
pub record IsWritten (at : ℕ) (bytes old new : List ℕ) : Type 0 where
  pub torn : IsTorn at bytes old new
  pub long : at + length bytes ≤ length new
  pub here : (i : ℕ) → at ≤ i → i < at + length bytes → get_or new i 0 ≡ get_or bytes (i - at) 0

-- the file has n bytes, each as before, and those behind the old end are 0
pub record IsSized (n : ℕ) (old new : List ℕ) : Type 0 where
  pub long : length new ≡ n
  pub each : (i : ℕ) → i < n → get_or new i 0 ≡ get_or old i 0

-- a call in part: of one that sets a length, the file has any length between
abbrev pub InPart : Call → List ℕ → List ℕ → Type 0
InPart (Wrote at bytes) old new = IsTorn at bytes old new
InPart (Sized n) old new = (m : ℕ) × (min (length old) n ≤ m) × (m ≤ max (length old) n) × IsSized m old new

-- each call in part
abbrev pub LeftOf : List ℕ → List Call → List ℕ → Type 0
LeftOf kept [] c = c ≡ kept
LeftOf kept (call ∷ calls) c = (d : List ℕ) × LeftOf kept calls d × InPart call d c

-- A loss of power may leave this: each call since the last good sync in part; and a file whose name is gone is a new one, which is
-- empty.
abbrev pub MayLeave : Disk → List ℕ → Type 0
MayLeave disk c = LeftOf disk.kept disk.calls c ⊎ ((disk.named ≡ false) × (c ≡ []))

-- As the system fails to write, it may forget of each call since the last good sync what it pleases. The file's length stays.
abbrev pub MayForget : Disk → List ℕ → List ℕ → Type 0
MayForget disk seen next = (length seen ≡ length disk.seen) × LeftOf disk.kept disk.calls seen × LeftOf disk.kept disk.calls next

-- the call of a step, if there is one
abbrev pub calls_of : List ℕ → Step → List Call
calls_of text Nothing = []
calls_of text (Cut n) = Sized n ∷ []
calls_of text (Grow n) = Sized n ∷ []
calls_of text (Store from to) = Wrote from (drop from (take to text)) ∷ []
calls_of text Sync = []
calls_of text SyncFolder = []

-- A step ends: it is done, or has failed and was done in part. A file that is longer already need not grow.
abbrev pub MayEnd : List ℕ → Step → Bool → List ℕ → List ℕ → Type 0
MayEnd text (Cut n) true old new = IsSized n old new
MayEnd text (Cut n) false old new = InPart (Sized n) old new
MayEnd text (Grow n) true old new = (m : ℕ) × (n ≤ m) × (m ≤ max (length old) n) × IsSized m old new
MayEnd text (Grow n) false old new = InPart (Sized n) old new
MayEnd text (Store from to) true old new = IsWritten from (drop from (take to text)) old new
MayEnd text (Store from to) false old new = InPart (Wrote from (drop from (take to text))) old new
MayEnd text Nothing done old new = ⊥
MayEnd text Sync done old new = ⊥
MayEnd text SyncFolder done old new = ⊥
