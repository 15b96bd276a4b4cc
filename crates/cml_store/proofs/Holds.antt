-- What holds of a store and its file at each moment.
use Rattle.std.proofs.Common.{◌≡◌, inl, inr, ⊎_elim, ℕ, ◌+◌, ◌≤◌, Bool, true, false, Option, Some, None, List, [], ◌++◌, length, take, ◌∙◌, ap, arith, length-append}
use Rattle.std.proofs.lemmas.Grind.{common_steps}
use Rattle.cml_store.specs.declared.stage.Stage.{Stage}
use Rattle.cml_store.specs.declared.stage.Stage.TheVariants.{Dirty, Trimming, Trimmed, Rewriting, Settling, Unnamed, Naming, Open, Lost}
use Rattle.cml_store.specs.declared.stage.Work.{Work}
use Rattle.cml_store.specs.declared.stage.Work.TheVariants.{Idle}
use Rattle.cml_store.specs.declared.step.Step.{Step}
use Rattle.cml_store.specs.declared.step.Step.TheVariants.{Nothing, Cut, Grow, Store, Sync, SyncFolder}
use Rattle.cml_store.specs.Disk.{Disk, Call, LeftOf, MayLeave, MayForget, calls_of, MayEnd}
use Rattle.cml_store.specs.Machine.{State, storing_at}
use Rattle.cml_store.specs.Recovery.{IsPrinted}
use Rattle.cml_store.specs.World.{World, store_started}
use Rattle.cml_store.proofs.Spotty.{Spotty, Fits, in_part, may_end, started}

pub clash : false ≡ true → ⊥
clash e = cc

pub take_append : (n : ℕ) (a b : List ℕ) → n ≤ length a → take n (a ++ b) ≡ take n a
take_append n a b le = grind (arith, common_steps)

module _ (limit : ℕ) (whole : List ℕ → Bool) where
  -- the text and its marks
  pub record Marks (text : List ℕ) (stored synced : ℕ) : Type 0 where
    pub is_printed : IsPrinted text
    pub order : synced ≤ stored
    pub within : stored ≤ length text
    pub whole_synced : whole (take synced text) ≡ true
    pub whole_stored : whole (take stored text) ≡ true
    pub whole_all : whole text ≡ true
    pub near : length text ≤ synced + limit

  -- what the step under way on the file's bytes needs, so that it harms nothing
  abbrev pub Under : (text seen : List ℕ) → (mark stored grown : ℕ) → Step → Type 0
  Under text seen mark stored grown (Store from to) =
      (from ≤ to) × (to ≤ length text) × (to ≤ length seen) × (whole (take to text) ≡ true)
  Under text seen mark stored grown (Cut to) = (mark ≤ to) × (stored ≤ to)
  Under text seen mark stored grown (Grow to) = (mark ≤ to) × (stored ≤ to) × (grown ≤ to)
  Under text seen mark stored grown Nothing = Unit {0}
  Under text seen mark stored grown Sync = Unit {0}
  Under text seen mark stored grown SyncFolder = Unit {0}

  -- what is synced and stored is there, whatever happens next
  pub record Closed (stage : Stage) (w : World) : Type 0 where
    pub marks : Marks w.text w.stored w.synced
    pub lasts : (c : List ℕ) → MayLeave w.disk c → Spotty w.synced (length w.text) w.text c
    pub seen : Spotty w.stored (length w.text) w.text w.disk.seen
    pub next : Spotty w.stored (length w.text) w.text w.disk.next
    pub under : Under w.text w.disk.seen w.stored w.store.stored w.store.grown (storing_at stage w.store)

  -- a file is opened, of which so many bytes are kept, and those from a base on are written again
  pub record Repair (text : List ℕ) (stored synced accepted start : ℕ) (work : Work) (syncing : Option ℕ) : Type 0 where
    pub base : start ≤ synced
    pub kept : stored ≤ accepted
    pub within : accepted ≤ length text
    pub whole_kept : whole (take accepted text) ≡ true
    pub idle : work ≡ Idle
    pub none : syncing ≡ None

  abbrev pub RepairOf : World → Type 0
  RepairOf w = Repair w.text w.stored w.synced w.store.accepted w.store.synced w.store.work w.store.syncing

  -- it may have more than is kept
  pub record Dirt (stage : Stage) (w : World) : Type 0 where
    pub closed : Closed stage w
    pub repair : RepairOf w
    pub low : w.store.stored ≡ w.store.synced

  -- it has no more than is kept, and is written again up to some place
  pub record Trim (stage : Stage) (w : World) : Type 0 where
    pub closed : Closed stage w
    pub repair : RepairOf w
    pub low : w.store.stored ≤ w.store.accepted
    pub grown : w.store.grown ≡ w.store.accepted
    pub long : w.store.accepted ≤ length w.disk.seen
    pub seen : w.disk.failing ≡ false → Spotty w.store.stored w.store.accepted w.text w.disk.seen
    pub next : w.disk.failing ≡ false → Spotty w.store.stored w.store.accepted w.text w.disk.next

  -- it is all written again, and is synced
  pub record Settle (w : World) : Type 0 where
    pub trim : Trim Settling w
    pub all : w.store.stored ≡ w.store.accepted
    pub since : w.disk.failing ≡ false → (c : List ℕ) → LeftOf w.disk.mark w.disk.since c
        → Spotty w.store.accepted w.store.accepted w.text c

  -- it is on disk
  pub record Named (stage : Stage) (w : World) : Type 0 where
    pub closed : Closed stage w
    pub repair : RepairOf w
    pub all : w.store.stored ≡ w.store.accepted
    pub grown : w.store.grown ≡ w.store.accepted
    pub kept : (c : List ℕ) → LeftOf w.disk.kept w.disk.calls c → Spotty w.store.accepted w.store.accepted w.text c
    pub seen : Spotty w.store.accepted w.store.accepted w.text w.disk.seen
    pub next : Spotty w.store.accepted w.store.accepted w.text w.disk.next

  -- a sync is under way that counts so many bytes
  pub record Counts (text mark : List ℕ) (calls : List Call) (failing : Bool) (synced stored to : ℕ) : Type 0 where
    pub low : synced ≤ to
    pub high : to ≤ stored
    pub whole_to : whole (take to text) ≡ true
    pub since : failing ≡ false → (c : List ℕ) → LeftOf mark calls c → Spotty to (length text) text c

  abbrev pub SyncHolds : (text mark : List ℕ) → List Call → (failing : Bool) → (synced stored : ℕ) → Option ℕ → Type 0
  SyncHolds text mark since failing synced stored None = Unit {0}
  SyncHolds text mark since failing synced stored (Some to) = Counts text mark since failing synced stored to

  -- an open file has what is stored, unless the system has failed to write
  pub record Opened (w : World) : Type 0 where
    pub closed : Closed Open w
    pub accepted : w.store.accepted ≡ length w.text
    pub synced : w.synced ≡ w.store.synced
    pub low : w.store.synced ≤ w.store.stored
    pub high : w.store.stored ≤ length w.text
    pub whole_high : whole (take w.store.stored w.text) ≡ true
    pub grown : w.store.grown ≤ length w.disk.seen
    pub stored : w.disk.failing ≡ false → w.stored ≡ w.store.stored
    pub named : w.disk.named ≡ true
    pub sync : SyncHolds w.text w.disk.mark w.disk.since w.disk.failing w.synced w.store.stored w.store.syncing

  abbrev pub HoldsAt : Stage → World → Type 0
  HoldsAt Dirty w = Dirt Dirty w
  HoldsAt Trimming w = Dirt Trimming w
  HoldsAt Trimmed w = Trim Trimmed w
  HoldsAt Rewriting w = Trim Rewriting w
  HoldsAt Settling w = Settle w
  HoldsAt Unnamed w = Named Unnamed w
  HoldsAt Naming w = Named Naming w
  HoldsAt Open w = Opened w
  HoldsAt Lost w = Closed Lost w

  abbrev pub Holds : World → Type 0
  Holds w = HoldsAt w.store.stage w

  pub closed_at : (stage : Stage) (w : World) → HoldsAt stage w → Closed stage w
  closed_at Dirty w h = h.closed
  closed_at Trimming w h = h.closed
  closed_at Trimmed w h = h.closed
  closed_at Rewriting w h = h.closed
  closed_at Settling w h = h.trim.closed
  closed_at Unnamed w h = h.closed
  closed_at Naming w h = h.closed
  closed_at Open w h = h.closed
  closed_at Lost w h = h

  -- the step under way harms nothing up to a mark
  pub fits_mark : (text seen : List ℕ) (mark stored grown s : ℕ) (step : Step) → s ≤ mark → Under text seen mark stored grown step
      → Fits s (length text) text step
  fits_mark text seen mark stored grown s (Store from to) le u = (u.0, u.1, u.1)
  fits_mark text seen mark stored grown s (Cut to) le u = omega (arith, le, u.0)
  fits_mark text seen mark stored grown s (Grow to) le u = omega (arith, le, u.0)
  fits_mark text seen mark stored grown s Nothing le u = tt
  fits_mark text seen mark stored grown s Sync le u = tt
  fits_mark text seen mark stored grown s SyncFolder le u = tt

  pub fits_stored : (text seen : List ℕ) (mark stored grown s : ℕ) (step : Step) → s ≤ stored
      → Under text seen mark stored grown step → Fits s (length text) text step
  fits_stored text seen mark stored grown s (Store from to) le u = (u.0, u.1, u.1)
  fits_stored text seen mark stored grown s (Cut to) le u = omega (arith, le, u.1)
  fits_stored text seen mark stored grown s (Grow to) le u = omega (arith, le, u.1)
  fits_stored text seen mark stored grown s Nothing le u = tt
  fits_stored text seen mark stored grown s Sync le u = tt
  fits_stored text seen mark stored grown s SyncFolder le u = tt

  -- the system has forgotten
  pub under_forgotten : (text seen now : List ℕ) (mark less stored grown : ℕ) (step : Step) → less ≤ mark
      → length now ≡ length seen
      → Under text seen mark stored grown step → Under text now less stored grown step
  under_forgotten text seen now mark less stored grown (Store from to) le e u = (u.0, u.1, omega (arith, e, u.2), u.3)
  under_forgotten text seen now mark less stored grown (Cut to) le e u = (omega (arith, le, u.0), u.1)
  under_forgotten text seen now mark less stored grown (Grow to) le e u = (omega (arith, le, u.0), u.1, u.2)
  under_forgotten text seen now mark less stored grown Nothing le e u = tt
  under_forgotten text seen now mark less stored grown Sync le e u = tt
  under_forgotten text seen now mark less stored grown SyncFolder le e u = tt

  -- the text goes on
  pub under_more : (text more seen : List ℕ) (mark stored grown : ℕ) (step : Step) → Under text seen mark stored grown step
      → Under (text ++ more) seen mark stored grown step
  under_more text more seen mark stored grown (Store from to) u =
      (u.0, omega (arith, u.1, length-append text more), u.2, ap whole (take_append to text more u.1) ∙ u.3)
  under_more text more seen mark stored grown (Cut to) u = u
  under_more text more seen mark stored grown (Grow to) u = u
  under_more text more seen mark stored grown Nothing u = tt
  under_more text more seen mark stored grown Sync u = tt
  under_more text more seen mark stored grown SyncFolder u = tt

  -- only the store has changed
  pub closed_as : (old stage : Stage) (w : World) (s : State) → Closed old w
      → Under w.text w.disk.seen w.stored s.stored s.grown (storing_at stage s) → Closed stage (record w { store = s })
  closed_as old stage w s h u = record { marks = h.marks; lasts = h.lasts; seen = h.seen; next = h.next; under = u }

  -- a step on the file's bytes has begun
  lasts_started : (s k : ℕ) (text : List ℕ) (disk : Disk) (step : Step) → Fits s k text step
      → ((c : List ℕ) → MayLeave disk c → Spotty s k text c)
      → (c : List ℕ) → MayLeave (store_started text step disk) c → Spotty s k text c
  lasts_started s k text disk step fits old c may = ⊎_elim
      (λ (left : LeftOf disk.kept (calls_of text step ++ disk.calls) c). started s k text disk.kept disk.calls step fits
      (λ x l. old x (inl l)) c left)
      (λ (gone : (disk.named ≡ false) × (c ≡ [])). old c (inr gone))
      may

  pub closed_started : (old stage : Stage) (w : World) (s : State) → Closed old w
      → Under w.text w.disk.seen w.stored s.stored s.grown (storing_at stage s)
      → Closed stage (record w { store = s; disk = store_started w.text (storing_at stage s) w.disk })
  closed_started old stage w s h u = record {
    marks = h.marks;
    lasts = lasts_started w.synced (length w.text) w.text w.disk (storing_at stage s)
        (fits_mark w.text w.disk.seen w.stored s.stored s.grown w.synced (storing_at stage s) h.marks.order u) h.lasts;
    seen = h.seen;
    next = h.next;
    under = u;
  }

  -- it has ended
  pub closed_ended : (old stage : Stage) (w : World) (s : State) (done : Bool) (seen next : List ℕ) → Closed old w
      → MayEnd w.text (storing_at old w.store) done w.disk.seen seen
      → MayEnd w.text (storing_at old w.store) done w.disk.next next
      → Under w.text seen w.stored s.stored s.grown (storing_at stage s)
      → Closed stage (record w { store = s; disk = record w.disk { seen = seen; next = next } })
  closed_ended old stage w s done seen next h may also u =
      let step = storing_at old w.store in
      let fits = fits_mark w.text w.disk.seen w.stored w.store.stored w.store.grown w.stored step (omega arith) h.under in
      record {
        marks = h.marks;
        lasts = h.lasts;
        seen = may_end w.stored (length w.text) w.text step done w.disk.seen seen fits h.seen may;
        next = may_end w.stored (length w.text) w.text step done w.disk.next next fits h.next also;
        under = u;
      }

  -- the system has forgotten
  pub closed_forgotten : (old stage : Stage) (w : World) (s : State) (failing : Bool) (seen next : List ℕ) → Closed old w
      → MayForget w.disk seen next
      → Under w.text seen w.synced s.stored s.grown (storing_at stage s)
      → Closed stage (record w { store = s; disk = record w.disk { seen = seen; next = next; failing = failing }; stored = w.synced })
  closed_forgotten old stage w s failing seen next h may u = record {
    marks = record {
      is_printed = h.marks.is_printed;
      order = omega arith;
      within = omega (arith, h.marks.order, h.marks.within);
      whole_synced = h.marks.whole_synced;
      whole_stored = h.marks.whole_synced;
      whole_all = h.marks.whole_all;
      near = h.marks.near;
    };
    lasts = h.lasts;
    seen = h.lasts seen (inl may.1);
    next = h.lasts next (inl may.2);
    under = u;
  }

  -- what is left of a file once it was killed
  pub read_part : (stage : Stage) (w : World) (old new : List ℕ) → Closed stage w → Spotty w.stored (length w.text) w.text old
      → LeftOf old (calls_of w.text (storing_at stage w.store)) new → Spotty w.stored (length w.text) w.text new
  read_part stage w old new h sp left = in_part w.stored (length w.text) w.text (storing_at stage w.store) old new
      (fits_mark w.text w.disk.seen w.stored w.store.stored w.store.grown w.stored (storing_at stage w.store) (omega arith)
      h.under) sp left
