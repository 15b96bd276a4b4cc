-- What holds as the system forgets, and as a file is opened.
use Rattle.std.proofs.Common.{◌≡◌, ⊎_elim, ℕ, Bool, true, false, Option, Some, None, List, [], length, take, refl, sym, ◌∙◌, ap, subst, arith, cond}
use Rattle.cml_store.specs.declared.stage.Stage.{Stage}
use Rattle.cml_store.specs.declared.stage.Stage.TheVariants.{Dirty, Trimming, Trimmed, Rewriting, Settling, Unnamed, Naming, Open, Lost}
use Rattle.cml_store.specs.Disk.{Disk, Call, MayLeave, MayForget}
use Rattle.cml_store.specs.Machine.{opened_at, refused, storing_at}
use Rattle.cml_store.specs.Recovery.{printed, recovered}
use Rattle.cml_store.specs.World.{World, forgets, opened, fresh}
use Rattle.cml_store.proofs.Spotty.{Spotty, nothing_left}
use Rattle.cml_store.proofs.Keeping.{keeps}
use Rattle.cml_store.proofs.Holds.{clash, Marks, Closed, RepairOf, Dirt, Trim, Named, SyncHolds, Opened, HoldsAt, Holds, under_forgotten, closed_forgotten}

module _ (limit : ℕ) (whole : List ℕ → Bool) where
  forgotten : (stage : Stage) (w : World) (seen next : List ℕ) → Closed limit whole stage w → MayForget w.disk seen next
      → Closed limit whole stage (forgets seen next w)
  forgotten stage w seen next h may =
      closed_forgotten limit whole stage stage w w.store true seen next h may
      (under_forgotten limit whole w.text w.disk.seen seen w.stored w.synced w.store.stored w.store.grown
      (storing_at stage w.store) h.marks.order may.0 h.under)

  repair_forgotten : (stage : Stage) (w : World) (seen next : List ℕ) → Closed limit whole stage w → RepairOf limit whole w
      → RepairOf limit whole (forgets seen next w)
  repair_forgotten stage w seen next h r = record {
    base = r.base;
    kept = omega (arith, r.kept, h.marks.order);
    within = r.within;
    whole_kept = r.whole_kept;
    idle = r.idle;
    none = r.none;
  }

  dirt_forgotten : (stage : Stage) (w : World) (seen next : List ℕ) → Dirt limit whole stage w → MayForget w.disk seen next
      → Dirt limit whole stage (forgets seen next w)
  dirt_forgotten stage w seen next h may = record {
    closed = forgotten stage w seen next h.closed may;
    repair = repair_forgotten stage w seen next h.closed h.repair;
    low = h.low;
  }

  trim_forgotten : (stage : Stage) (w : World) (seen next : List ℕ) → Trim limit whole stage w → MayForget w.disk seen next
      → Trim limit whole stage (forgets seen next w)
  trim_forgotten stage w seen next h may = record {
    closed = forgotten stage w seen next h.closed may;
    repair = repair_forgotten stage w seen next h.closed h.repair;
    low = h.low;
    grown = h.grown;
    long = omega (arith, h.long, may.0);
    seen = λ f. absurd (clash (sym f));
    next = λ f. absurd (clash (sym f));
  }

  named_forgotten : (stage : Stage) (w : World) (seen next : List ℕ) → Named limit whole stage w → MayForget w.disk seen next
      → Named limit whole stage (forgets seen next w)
  named_forgotten stage w seen next h may = record {
    closed = forgotten stage w seen next h.closed may;
    repair = repair_forgotten stage w seen next h.closed h.repair;
    all = h.all;
    grown = h.grown;
    kept = h.kept;
    seen = h.kept seen may.1;
    next = h.kept next may.2;
  }

  sync_forgotten : (text mark : List ℕ) (since : List Call) (failing : Bool) (synced stored : ℕ) (o : Option ℕ)
      → SyncHolds limit whole text mark since failing synced stored o → SyncHolds limit whole text mark since true synced stored o
  sync_forgotten text mark since failing synced stored None h = tt
  sync_forgotten text mark since failing synced stored (Some to) h =
      record { low = h.low; high = h.high; whole_to = h.whole_to; since = λ f. absurd (clash (sym f)) }

  open_forgotten : (w : World) (seen next : List ℕ) → Opened limit whole w → MayForget w.disk seen next
      → Opened limit whole (forgets seen next w)
  open_forgotten w seen next h may = record {
    closed = forgotten Open w seen next h.closed may;
    accepted = h.accepted;
    synced = h.synced;
    low = h.low;
    high = h.high;
    whole_high = h.whole_high;
    grown = omega (arith, h.grown, may.0);
    stored = λ f. absurd (clash (sym f));
    named = h.named;
    sync = sync_forgotten w.text w.disk.mark w.disk.since w.disk.failing w.synced w.store.stored w.store.syncing h.sync;
  }

  pub forgets_more : (stage : Stage) (w : World) (seen next : List ℕ) → HoldsAt limit whole stage w → MayForget w.disk seen next
      → HoldsAt limit whole stage (forgets seen next w)
  forgets_more Dirty w seen next h may = dirt_forgotten Dirty w seen next h may
  forgets_more Trimming w seen next h may = dirt_forgotten Trimming w seen next h may
  forgets_more Trimmed w seen next h may = trim_forgotten Trimmed w seen next h may
  forgets_more Rewriting w seen next h may = trim_forgotten Rewriting w seen next h may
  forgets_more Settling w seen next h may =
      record { trim = trim_forgotten Settling w seen next h.trim may; all = h.all; since = λ f. absurd (clash (sym f)) }
  forgets_more Unnamed w seen next h may = named_forgotten Unnamed w seen next h may
  forgets_more Naming w seen next h may = named_forgotten Naming w seen next h may
  forgets_more Open w seen next h may = open_forgotten w seen next h may
  forgets_more Lost w seen next h may = forgotten Lost w seen next h may

  -- a file of which all up to the marks is there is opened
  module _ (front : List ℕ → Bool) (growth : ℕ) (none : whole [] ≡ true) where
    opens_by : (b : Bool) (text : List ℕ) (stored synced : ℕ) (disk : Disk) (c : List ℕ) → Marks limit whole text stored synced
        → ((x : List ℕ) → MayLeave disk x → Spotty synced (length text) text x)
        → Spotty stored (length text) text disk.seen → Spotty stored (length text) text disk.next
        → Spotty stored (length text) text c
        → Holds limit whole (record {
          store = cond b (opened_at limit (length (recovered whole c)) (length c)) refused;
          disk = disk;
          text = text;
          stored = stored;
          synced = synced;
        })
    opens_by false text stored synced disk c m lasts seen next sp =
        record { marks = m; lasts = lasts; seen = seen; next = next; under = tt }
    opens_by true text stored synced disk c m lasts seen next sp =
        let k = keeps whole stored (length text) text c none m.is_printed m.within m.whole_stored sp in
        record {
          closed = record { marks = m; lasts = lasts; seen = seen; next = next; under = tt };
          repair = record {
            base = omega (arith, k.long, k.within, m.near);
            kept = omega (arith, k.long, k.sure);
            within = omega (arith, k.long, k.within);
            whole_kept = ap (λ n. whole (take n text)) k.long ∙ k.whole_still;
            idle = refl;
            none = refl;
          };
          low = refl;
        }

    pub opens : (text : List ℕ) (stored synced : ℕ) (disk : Disk) (c : List ℕ) → Marks limit whole text stored synced
        → ((x : List ℕ) → MayLeave disk x → Spotty synced (length text) text x)
        → Spotty stored (length text) text disk.seen → Spotty stored (length text) text disk.next
        → Spotty stored (length text) text c
        → Holds limit whole (record {
          store = opened whole front limit growth c;
          disk = disk;
          text = text;
          stored = stored;
          synced = synced;
        })
    opens text stored synced disk c m lasts seen next sp =
        opens_by (front (printed c)) text stored synced disk c m lasts seen next sp

    nothing : (c : List ℕ) → c ≡ [] → Spotty 0 0 [] c
    nothing c is = subst (λ x. Spotty 0 0 [] x) (sym is) (nothing_left 0 [])

    pub begins_well : Holds limit whole (fresh whole front limit growth)
    begins_well =
        let marks : Marks limit whole [] 0 0 = record {
          is_printed = tt;
          order = omega arith;
          within = omega arith;
          whole_synced = none;
          whole_stored = none;
          whole_all = none;
          near = omega arith;
        } in
        opens [] 0 0 (record {
          kept = [];
          calls = [];
          seen = [];
          next = [];
          mark = [];
          since = [];
          named = false;
          failing = false;
        }) [] marks
        (λ c may. ⊎_elim (λ (left : c ≡ []). nothing c left) (λ (gone : (false ≡ false) × (c ≡ [])). nothing c gone.1) may)
        (nothing_left 0 []) (nothing_left 0 []) (nothing_left 0 [])
