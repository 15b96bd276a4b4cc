-- What holds goes on as steps end.
use Rattle.std.proofs.Common.{◌≡◌, inr, ⊎_elim, ℕ, ◌≤◌, min, Bool, true, false, Option, Some, None, List, [], length, take, refl, sym, ◌∙◌, ap, subst, arith}
use Rattle.cml_store.specs.declared.stage.Stage.{Stage}
use Rattle.cml_store.specs.declared.stage.Stage.TheVariants.{Dirty, Trimming, Trimmed, Rewriting, Settling, Unnamed, Naming, Open, Lost}
use Rattle.cml_store.specs.declared.stage.Work.{Work}
use Rattle.cml_store.specs.declared.stage.Work.TheVariants.{Idle, Cutting, Growing, Storing}
use Rattle.cml_store.specs.Disk.{Call, LeftOf, MayEnd}
use Rattle.cml_store.specs.Machine.{State, step_of, storing_at, work_ended, sync_of, syncing_at, open_sync_ended}
use Rattle.cml_store.specs.World.{World, MaySync, stored_by, ends_store, ends_sync_by, ends_sync}
use Rattle.cml_store.proofs.Spotty.{Spotty, less_sure, front_of, less_text, torn, written, cut_to}
use Rattle.cml_store.proofs.Keeping.{printed_take, take_take, taken_length}
use Rattle.cml_store.proofs.Holds.{clash, Under, Closed, Dirt, Trim, Settle, Named, SyncHolds, Opened, HoldsAt, Holds, under_forgotten, closed_ended, closed_forgotten}

module _ (limit : ℕ) (whole : List ℕ → Bool) where
  end_trimming : (done : Bool) (w : World) (seen next : List ℕ) → Dirt limit whole Trimming w
      → MayEnd w.text (storing_at Trimming w.store) done w.disk.seen seen
      → MayEnd w.text (storing_at Trimming w.store) done w.disk.next next
      → Holds limit whole (ends_store Trimming done seen next w)
  end_trimming true w seen next h may also =
      let r = h.repair in
      let m = h.closed.marks in
      let le : w.store.stored ≤ w.stored = omega (arith, h.low, r.base, m.order) in
      record {
        closed = closed_ended limit whole Trimming Trimmed w (record w.store { grown = w.store.accepted; stage = Trimmed }) true
            seen next h.closed may also tt;
        repair = r;
        low = omega (arith, le, r.kept);
        grown = refl;
        long = omega (arith, may.long);
        seen = λ f. less_sure w.store.stored w.stored w.store.accepted w.text seen le
            (cut_to w.stored (length w.text) w.store.accepted w.text w.disk.seen seen r.kept h.closed.seen may);
        next = λ f. less_sure w.store.stored w.stored w.store.accepted w.text next le
            (cut_to w.stored (length w.text) w.store.accepted w.text w.disk.next next r.kept h.closed.next also);
      }
  end_trimming false w seen next h may also = record {
    closed = closed_ended limit whole Trimming Dirty w (record w.store { stage = Dirty }) false seen next h.closed may also tt;
    repair = h.repair;
    low = h.low;
  }

  end_rewriting : (done : Bool) (w : World) (seen next : List ℕ) → Trim limit whole Rewriting w
      → MayEnd w.text (storing_at Rewriting w.store) done w.disk.seen seen
      → MayEnd w.text (storing_at Rewriting w.store) done w.disk.next next
      → Holds limit whole (ends_store Rewriting done seen next w)
  end_rewriting true w seen next h may also = record {
    closed = closed_ended limit whole Rewriting Trimmed w (record w.store { stored = w.store.accepted; stage = Trimmed }) true
        seen next h.closed may also tt;
    repair = h.repair;
    low = omega arith;
    grown = h.grown;
    long = omega (arith, h.long, may.torn.no_shorter);
    seen = λ f. written w.store.accepted w.store.stored w.store.accepted w.text w.disk.seen seen h.low (omega arith)
        h.repair.within (h.seen f) may;
    next = λ f. written w.store.accepted w.store.stored w.store.accepted w.text w.disk.next next h.low (omega arith)
        h.repair.within (h.next f) also;
  }
  end_rewriting false w seen next h may also = record {
    closed = closed_ended limit whole Rewriting Trimmed w (record w.store { stage = Trimmed }) false seen next h.closed may also tt;
    repair = h.repair;
    low = h.low;
    grown = h.grown;
    long = omega (arith, h.long, may.no_shorter);
    seen = λ f. torn w.store.stored w.store.accepted w.store.stored w.store.accepted w.text w.disk.seen seen h.low (omega arith)
        h.repair.within (h.seen f) may;
    next = λ f. torn w.store.stored w.store.accepted w.store.stored w.store.accepted w.text w.disk.next next h.low (omega arith)
        h.repair.within (h.next f) also;
  }

  -- work ends, and nothing more is stored
  same_stored : (w : World) (done : Bool) (seen next : List ℕ) (grown : ℕ) → Opened limit whole w → w.store.stage ≡ Open
      → MayEnd w.text (step_of w.store.work w.store.stored) done w.disk.seen seen
      → MayEnd w.text (step_of w.store.work w.store.stored) done w.disk.next next
      → grown ≤ length seen
      → Holds limit whole (record w {
        store = record w.store { grown = grown; work = Idle };
        disk = record w.disk
            { seen = seen; next = next };
      })
  same_stored w done seen next grown h e may also long =
      let s = record w.store { grown = grown; work = Idle } in
      let opened : Opened limit whole (record w { store = s; disk = record w.disk { seen = seen; next = next } }) = record {
        closed = closed_ended limit whole Open Open w s done seen next h.closed may also tt;
        accepted = h.accepted;
        synced = h.synced;
        low = h.low;
        high = h.high;
        whole_high = h.whole_high;
        grown = long;
        stored = h.stored;
        named = h.named;
        sync = h.sync;
      } in
      subst (λ st. HoldsAt limit whole st (record w { store = s; disk = record w.disk { seen = seen; next = next } })) (sym e) opened

  sync_higher : (text mark : List ℕ) (since : List Call) (failing : Bool) (synced stored more : ℕ) (o : Option ℕ) → stored ≤ more
      → SyncHolds limit whole text mark since failing synced stored o
      → SyncHolds limit whole text mark since failing synced more o
  sync_higher text mark since failing synced stored more None le h = tt
  sync_higher text mark since failing synced stored more (Some to) le h =
      record { low = h.low; high = omega (arith, h.high, le); whole_to = h.whole_to; since = h.since }

  -- bytes are stored
  end_storing : (failing : Bool) (w : World) (to : ℕ) (seen next : List ℕ) → w.disk.failing ≡ failing → w.store.stage ≡ Open
      → w.store.work ≡ Storing to → Opened limit whole w
      → MayEnd w.text (step_of (Storing to) w.store.stored) true w.disk.seen seen
      → MayEnd w.text (step_of (Storing to) w.store.stored) true w.disk.next next
      → Holds limit whole (record w {
        store = record w.store { stored = to; work = Idle };
        disk = record w.disk { seen = seen; next = next };
        stored = stored_by (step_of (Storing to) w.store.stored) true failing w.stored;
      })
  end_storing false w to seen next f e i h may also =
      let u = subst (λ k. Under limit whole w.text w.disk.seen w.stored w.store.stored w.store.grown (step_of k w.store.stored)) i
      h.closed.under in
      let m = h.closed.marks in
      let all = length w.text in
      let v = record w {
        store = record w.store { stored = to; work = Idle };
        disk = record w.disk { seen = seen; next = next };
        stored = to;
      } in
      let opened : Opened limit whole v = record {
        closed = record {
          marks = record {
            is_printed = m.is_printed;
            order = omega (arith, m.order, h.stored f, u.0);
            within = u.1;
            whole_synced = m.whole_synced;
            whole_stored = u.3;
            whole_all = m.whole_all;
            near = m.near;
          };
          lasts = h.closed.lasts;
          seen = written all w.store.stored to w.text w.disk.seen seen u.0 u.1 u.1
              (subst (λ n. Spotty n all w.text w.disk.seen) (h.stored f) h.closed.seen) may;
          next = written all w.store.stored to w.text w.disk.next next u.0 u.1 u.1
              (subst (λ n. Spotty n all w.text w.disk.next) (h.stored f) h.closed.next) also;
          under = tt;
        };
        accepted = h.accepted;
        synced = h.synced;
        low = omega (arith, h.low, u.0);
        high = u.1;
        whole_high = u.3;
        grown = omega (arith, h.grown, may.torn.no_shorter);
        stored = λ _. refl;
        named = h.named;
        sync = sync_higher w.text w.disk.mark w.disk.since w.disk.failing w.synced w.store.stored to w.store.syncing u.0 h.sync;
      } in
      subst (λ st. HoldsAt limit whole st v) (sym e) opened
  end_storing true w to seen next f e i h may also =
      let under = λ (k : Work). Under limit whole w.text w.disk.seen w.stored w.store.stored w.store.grown
      (step_of k w.store.stored) in
      let u = subst under i h.closed.under in
      let s = record w.store { stored = to; work = Idle } in
      let v = record w { store = s; disk = record w.disk { seen = seen; next = next } } in
      let opened : Opened limit whole v = record {
        closed = closed_ended limit whole Open Open w s true seen next h.closed
            (subst (λ k. MayEnd w.text (step_of k w.store.stored) true w.disk.seen seen) (sym i) may)
            (subst (λ k. MayEnd w.text (step_of k w.store.stored) true w.disk.next next) (sym i) also) tt;
        accepted = h.accepted;
        synced = h.synced;
        low = omega (arith, h.low, u.0);
        high = u.1;
        whole_high = u.3;
        grown = omega (arith, h.grown, may.torn.no_shorter);
        stored = λ none. absurd (clash (sym none ∙ f));
        named = h.named;
        sync = sync_higher w.text w.disk.mark w.disk.since w.disk.failing w.synced w.store.stored to w.store.syncing u.0 h.sync;
      } in
      subst (λ st. HoldsAt limit whole st v) (sym e) opened

  -- work on an open file ends
  end_work : (work : Work) (done : Bool) (w : World) (seen next : List ℕ) → w.store.stage ≡ Open → w.store.work ≡ work
      → Opened limit whole w
      → MayEnd w.text (step_of work w.store.stored) done w.disk.seen seen
      → MayEnd w.text (step_of work w.store.stored) done w.disk.next next
      → Holds limit whole (record w {
        store = work_ended work done w.store;
        disk = record w.disk { seen = seen; next = next };
        stored = stored_by (step_of work w.store.stored) done w.disk.failing w.stored;
      })
  end_work Idle done w seen next e i h may also = absurd may
  end_work (Cutting to) true w seen next e i h may also =
      same_stored w true seen next to h e
      (subst (λ k. MayEnd w.text (step_of k w.store.stored) true w.disk.seen seen) (sym i) may)
      (subst (λ k. MayEnd w.text (step_of k w.store.stored) true w.disk.next next) (sym i) also)
      (omega (arith, may.long))
  end_work (Cutting to) false w seen next e i h may also =
      same_stored w false seen next (min w.store.grown to) h e
      (subst (λ k. MayEnd w.text (step_of k w.store.stored) false w.disk.seen seen) (sym i) may)
      (subst (λ k. MayEnd w.text (step_of k w.store.stored) false w.disk.next next) (sym i) also)
      (omega (arith, h.grown, may.1, may.3.long))
  end_work (Growing to) true w seen next e i h may also =
      same_stored w true seen next to h e
      (subst (λ k. MayEnd w.text (step_of k w.store.stored) true w.disk.seen seen) (sym i) may)
      (subst (λ k. MayEnd w.text (step_of k w.store.stored) true w.disk.next next) (sym i) also)
      (omega (arith, may.1, may.3.long))
  end_work (Growing to) false w seen next e i h may also =
      let u = subst (λ k. Under limit whole w.text w.disk.seen w.stored w.store.stored w.store.grown (step_of k w.store.stored)) i
      h.closed.under in
      same_stored w false seen next w.store.grown h e
      (subst (λ k. MayEnd w.text (step_of k w.store.stored) false w.disk.seen seen) (sym i) may)
      (subst (λ k. MayEnd w.text (step_of k w.store.stored) false w.disk.next next) (sym i) also)
      (omega (arith, h.grown, may.1, may.3.long, u.2))
  end_work (Storing to) true w seen next e i h may also = end_storing w.disk.failing w to seen next refl e i h may also
  end_work (Storing to) false w seen next e i h may also =
      same_stored w false seen next w.store.grown h e
      (subst (λ k. MayEnd w.text (step_of k w.store.stored) false w.disk.seen seen) (sym i) may)
      (subst (λ k. MayEnd w.text (step_of k w.store.stored) false w.disk.next next) (sym i) also)
      (omega (arith, h.grown, may.no_shorter))

  -- work on a lost file ends
  end_lost : (work : Work) (done : Bool) (w : World) (seen next : List ℕ) → w.store.stage ≡ Lost → w.store.work ≡ work
      → Closed limit whole Lost w
      → MayEnd w.text (step_of work w.store.stored) done w.disk.seen seen
      → MayEnd w.text (step_of work w.store.stored) done w.disk.next next
      → Holds limit whole (record w { store = work_ended work done w.store; disk = record w.disk { seen = seen; next = next } })
  end_lost work done w seen next e i h may also = by work done refl refl may
    where
      after_it : (s : State) → s.stage ≡ w.store.stage
          → Under limit whole w.text seen w.stored s.stored s.grown (storing_at Lost s)
          → Holds limit whole (record w { store = s; disk = record w.disk { seen = seen; next = next } })
      after_it s same u =
          subst (λ st. HoldsAt limit whole st (record w { store = s; disk = record w.disk { seen = seen; next = next } }))
          (sym (same ∙ e))
          (closed_ended limit whole Lost Lost w s done seen next h
          (subst (λ k. MayEnd w.text (step_of k w.store.stored) done w.disk.seen seen) (sym i) may)
          (subst (λ k. MayEnd w.text (step_of k w.store.stored) done w.disk.next next) (sym i) also) u)

      by : (k : Work) (d : Bool) → work ≡ k → done ≡ d → MayEnd w.text (step_of k w.store.stored) d w.disk.seen seen
          → Holds limit whole (record w { store = work_ended k d w.store; disk = record w.disk { seen = seen; next = next } })
      by Idle d x y z = absurd z
      by (Cutting to) true x y z = after_it (work_ended (Cutting to) true w.store) refl tt
      by (Cutting to) false x y z = after_it (work_ended (Cutting to) false w.store) refl tt
      by (Growing to) true x y z = after_it (work_ended (Growing to) true w.store) refl tt
      by (Growing to) false x y z = after_it (work_ended (Growing to) false w.store) refl tt
      by (Storing to) true x y z = after_it (work_ended (Storing to) true w.store) refl tt
      by (Storing to) false x y z = after_it (work_ended (Storing to) false w.store) refl tt

  pub store_ends : (stage : Stage) (done : Bool) (w : World) (seen next : List ℕ) → w.store.stage ≡ stage
      → HoldsAt limit whole stage w
      → MayEnd w.text (storing_at stage w.store) done w.disk.seen seen
      → MayEnd w.text (storing_at stage w.store) done w.disk.next next
      → Holds limit whole (ends_store stage done seen next w)
  store_ends Dirty done w seen next e h may also = absurd may
  store_ends Trimming done w seen next e h may also = end_trimming done w seen next h may also
  store_ends Trimmed done w seen next e h may also = absurd may
  store_ends Rewriting done w seen next e h may also = end_rewriting done w seen next h may also
  store_ends Settling done w seen next e h may also = absurd may
  store_ends Unnamed done w seen next e h may also = absurd may
  store_ends Naming done w seen next e h may also = absurd may
  store_ends Open done w seen next e h may also = end_work w.store.work done w seen next e refl h may also
  store_ends Lost done w seen next e h may also = end_lost w.store.work done w seen next e refl h may also

  -- what is written again is on disk
  end_settling : (done : Bool) (w : World) (seen next : List ℕ) → Settle limit whole w
      → MaySync (syncing_at Settling w.store) done seen next w.disk
      → Holds limit whole (ends_sync Settling done seen next w)
  end_settling true w seen next h may =
      let t = h.trim in
      let r = t.repair in
      let m = t.closed.marks in
      let a = w.store.accepted in
      record {
        closed = record {
          marks = m;
          lasts = λ c left. ⊎_elim
              (λ (kept : LeftOf w.disk.mark w.disk.since c). front_of w.synced a (length w.text) w.text c
              (omega (arith, m.order, r.kept)) r.within (h.since may c kept))
              (λ (gone : (w.disk.named ≡ false) × (c ≡ [])). t.closed.lasts c (inr gone))
              left;
          seen = t.closed.seen;
          next = t.closed.next;
          under = tt;
        };
        repair = r;
        all = h.all;
        grown = t.grown;
        kept = h.since may;
        seen = subst (λ n. Spotty n a w.text w.disk.seen) h.all (t.seen may);
        next = subst (λ n. Spotty n a w.text w.disk.next) h.all (t.next may);
      }
  end_settling false w seen next h may =
      let r = h.trim.repair in
      let m = h.trim.closed.marks in
      record {
        closed = closed_forgotten limit whole Settling Dirty w (record w.store { stored = w.store.synced; stage = Dirty }) false
            seen next h.trim.closed may tt;
        repair = record {
          base = r.base;
          kept = omega (arith, m.order, r.kept);
          within = r.within;
          whole_kept = r.whole_kept;
          idle = r.idle;
          none = r.none;
        };
        low = refl;
      }

  -- the file is open
  end_naming : (done : Bool) (w : World) (seen next : List ℕ) → Named limit whole Naming w
      → Holds limit whole (ends_sync Naming done seen next w)
  end_naming true w seen next h =
      let r = h.repair in
      let m = h.closed.marks in
      let a = w.store.accepted in
      let text = take a w.text in
      let len : length text ≡ a = taken_length a w.text r.within in
      let same : take a text ≡ text = take_take a a w.text (omega arith) in
      let under = subst (λ k. Under limit whole text w.disk.seen a w.store.stored w.store.grown (step_of k w.store.stored))
      (sym r.idle) tt in
      record {
        closed = record {
          marks = record {
            is_printed = printed_take a w.text m.is_printed;
            order = omega arith;
            within = omega (arith, len);
            whole_synced = ap whole same ∙ r.whole_kept;
            whole_stored = ap whole same ∙ r.whole_kept;
            whole_all = r.whole_kept;
            near = omega (arith, len);
          };
          lasts = λ c left. ⊎_elim
              (λ (kept : LeftOf w.disk.kept w.disk.calls c). less_text a w.text c r.within (h.kept c kept))
              (λ (gone : (true ≡ false) × (c ≡ [])). absurd (clash (sym gone.0)))
              left;
          seen = less_text a w.text w.disk.seen r.within h.seen;
          next = less_text a w.text w.disk.next r.within h.next;
          under = under;
        };
        accepted = sym len;
        synced = refl;
        low = omega (arith, h.all);
        high = omega (arith, h.all, len);
        whole_high = ap (λ n. whole (take n text)) h.all ∙ ap whole same ∙ r.whole_kept;
        grown = omega (arith, h.grown, h.seen.long);
        stored = λ _. sym h.all;
        named = refl;
        sync = subst (λ o. SyncHolds limit whole text w.disk.mark w.disk.since w.disk.failing a w.store.stored o) (sym r.none) tt;
      }
  end_naming false w seen next h = record {
    marks = h.closed.marks;
    lasts = h.closed.lasts;
    seen = h.closed.seen;
    next = h.closed.next;
    under = subst (λ k. Under limit whole w.text w.disk.seen w.stored w.store.stored w.store.grown (step_of k w.store.stored))
        (sym h.repair.idle) tt;
  }

  -- a sync of an open file ends
  end_open_sync : (o : Option ℕ) (done : Bool) (w : World) (seen next : List ℕ) → w.store.syncing ≡ o → Opened limit whole w
      → MaySync (sync_of o) done seen next w.disk
      → Holds limit whole (ends_sync_by (sync_of o) done seen next (open_sync_ended o done w.store) w)
  end_open_sync None done w seen next i h may = absurd may
  end_open_sync (Some to) true w seen next i h may =
      let c = subst (λ o. SyncHolds limit whole w.text w.disk.mark w.disk.since w.disk.failing w.synced w.store.stored o) i h.sync in
      let m = h.closed.marks in
      record {
        closed = record {
          marks = record {
            is_printed = m.is_printed;
            order = omega (arith, c.high, h.stored may);
            within = m.within;
            whole_synced = c.whole_to;
            whole_stored = m.whole_stored;
            whole_all = m.whole_all;
            near = omega (arith, m.near, c.low);
          };
          lasts = λ x left. ⊎_elim
              (λ (kept : LeftOf w.disk.mark w.disk.since x). c.since may x kept)
              (λ (gone : (w.disk.named ≡ false) × (x ≡ [])). absurd (clash (sym gone.0 ∙ h.named)))
              left;
          seen = h.closed.seen;
          next = h.closed.next;
          under = h.closed.under;
        };
        accepted = h.accepted;
        synced = refl;
        low = c.high;
        high = h.high;
        whole_high = h.whole_high;
        grown = h.grown;
        stored = h.stored;
        named = h.named;
        sync = tt;
      }
  end_open_sync (Some to) false w seen next i h may =
      closed_forgotten limit whole Open Lost w (record w.store { syncing = None; stage = Lost }) false seen next h.closed may
      (under_forgotten limit whole w.text w.disk.seen seen w.stored w.synced w.store.stored w.store.grown
      (step_of w.store.work w.store.stored) h.closed.marks.order may.0 h.closed.under)

  pub sync_ends : (stage : Stage) (done : Bool) (w : World) (seen next : List ℕ) → HoldsAt limit whole stage w
      → MaySync (syncing_at stage w.store) done seen next w.disk
      → Holds limit whole (ends_sync stage done seen next w)
  sync_ends Dirty done w seen next h may = absurd may
  sync_ends Trimming done w seen next h may = absurd may
  sync_ends Trimmed done w seen next h may = absurd may
  sync_ends Rewriting done w seen next h may = absurd may
  sync_ends Settling done w seen next h may = end_settling done w seen next h may
  sync_ends Unnamed done w seen next h may = absurd may
  sync_ends Naming done w seen next h may = end_naming done w seen next h
  sync_ends Open done w seen next h may = end_open_sync w.store.syncing done w seen next refl h may
  sync_ends Lost done w seen next h may = absurd may
