-- What holds goes on as bytes are accepted and steps begin.
use Rattle.std.proofs.Common.{◌≡◌, ℕ, ◌+◌, ◌≤◌, Bool, true, false, Option, Some, None, List, ◌++◌, length, refl, sym, ◌∙◌, ap, subst, arith, length-append, nat_lt, nat_le, ◌&&◌, cond}
use Rattle.std.proofs.lemmas.Bool.{ltb-true, ltb-false, leb-true, and_parts}
use Rattle.std.proofs.lemmas.List.{take_all}
use Rattle.cml_store.specs.declared.stage.Stage.{Stage}
use Rattle.cml_store.specs.declared.stage.Stage.TheVariants.{Dirty, Trimming, Trimmed, Rewriting, Settling, Unnamed, Naming, Open, Lost}
use Rattle.cml_store.specs.declared.stage.Work.{Work}
use Rattle.cml_store.specs.declared.stage.Work.TheVariants.{Idle, Cutting, Growing, Storing}
use Rattle.cml_store.specs.declared.step.Step.{Step}
use Rattle.cml_store.specs.declared.step.Step.TheVariants.{Nothing}
use Rattle.cml_store.specs.Disk.{Call, calls_of}
use Rattle.cml_store.specs.Machine.{is_open, accepted_by, rests, step_of, storing_at, storing_of, sync_of, syncing_at, syncing_of, work_begun, open_begun, grow_begun, open_sync_begun}
use Rattle.cml_store.specs.Recovery.{IsPrinted}
use Rattle.cml_store.specs.World.{World, store_started, sync_started, accepts_at, begins_store, begins_growth, begins_sync}
use Rattle.cml_store.proofs.Spotty.{Spotty, more_text, in_part, started}
use Rattle.cml_store.proofs.Keeping.{printed_append}
use Rattle.cml_store.proofs.Holds.{take_append, Under, Closed, Trim, SyncHolds, Opened, HoldsAt, Holds, fits_stored, under_more, closed_as, closed_started}

module _ (limit : ℕ) (whole : List ℕ → Bool) where
  sync_more : (text more mark : List ℕ) (since : List Call) (failing : Bool) (synced stored : ℕ) (o : Option ℕ)
      → stored ≤ length text
      → SyncHolds limit whole text mark since failing synced stored o
      → SyncHolds limit whole (text ++ more) mark since failing synced stored o
  sync_more text more mark since failing synced stored None le h = tt
  sync_more text more mark since failing synced stored (Some to) le h = record {
    low = h.low;
    high = h.high;
    whole_to = ap whole (take_append to text more (omega (arith, le, h.high))) ∙ h.whole_to;
    since = λ f c left. more_text to text more c (omega (arith, le, h.high)) (h.since f c left);
  }

  accept_open : (w : World) (piece : List ℕ) → Opened limit whole w → IsPrinted piece → whole (w.text ++ piece) ≡ true
      → w.store.accepted + length piece ≤ w.store.synced + limit
      → Opened limit whole (record w { store = accepted_by (length piece) w.store; text = w.text ++ piece })
  accept_open w piece h is_printed is_whole room =
      let m = h.closed.marks in
      let len = length-append w.text piece in
      record {
        closed = record {
          marks = record {
            is_printed = printed_append w.text piece m.is_printed is_printed;
            order = m.order;
            within = omega (arith, m.within, len);
            whole_synced = ap whole (take_append w.synced w.text piece (omega (arith, m.order, m.within))) ∙ m.whole_synced;
            whole_stored = ap whole (take_append w.stored w.text piece m.within) ∙ m.whole_stored;
            whole_all = is_whole;
            near = omega (arith, len, room, h.accepted, h.synced);
          };
          lasts = λ c may. more_text w.synced w.text piece c (omega (arith, m.order, m.within)) (h.closed.lasts c may);
          seen = more_text w.stored w.text piece w.disk.seen m.within h.closed.seen;
          next = more_text w.stored w.text piece w.disk.next m.within h.closed.next;
          under = under_more limit whole w.text piece w.disk.seen w.stored w.store.stored w.store.grown
              (step_of w.store.work w.store.stored) h.closed.under;
        };
        accepted = omega (arith, h.accepted, len);
        synced = h.synced;
        low = h.low;
        high = omega (arith, h.high, len);
        whole_high = ap whole (take_append w.store.stored w.text piece h.high) ∙ h.whole_high;
        grown = h.grown;
        stored = h.stored;
        named = h.named;
        sync = sync_more w.text piece w.disk.mark w.disk.since w.disk.failing w.synced w.store.stored w.store.syncing h.high h.sync;
      }

  pub accepts : (stage : Stage) (w : World) (piece : List ℕ) → w.store.stage ≡ stage → HoldsAt limit whole stage w
      → IsPrinted piece
      → whole (w.text ++ piece) ≡ true → w.store.accepted + length piece ≤ w.store.synced + limit
      → Holds limit whole (accepts_at (is_open stage) piece w)
  accepts Dirty w piece e h p q room = subst (λ s. HoldsAt limit whole s w) (sym e) h
  accepts Trimming w piece e h p q room = subst (λ s. HoldsAt limit whole s w) (sym e) h
  accepts Trimmed w piece e h p q room = subst (λ s. HoldsAt limit whole s w) (sym e) h
  accepts Rewriting w piece e h p q room = subst (λ s. HoldsAt limit whole s w) (sym e) h
  accepts Settling w piece e h p q room = subst (λ s. HoldsAt limit whole s w) (sym e) h
  accepts Unnamed w piece e h p q room = subst (λ s. HoldsAt limit whole s w) (sym e) h
  accepts Naming w piece e h p q room = subst (λ s. HoldsAt limit whole s w) (sym e) h
  accepts Open w piece e h p q room =
      subst (λ s. HoldsAt limit whole s (accepts_at true piece w)) (sym e) (accept_open w piece h p q room)
  accepts Lost w piece e h p q room = subst (λ s. HoldsAt limit whole s w) (sym e) h

  -- no step begins
  none_begins : (stage : Stage) (w : World) → w.store.stage ≡ stage → HoldsAt limit whole stage w
      → storing_at stage w.store ≡ Nothing
      → Holds limit whole (record w { disk = store_started w.text (storing_at w.store.stage w.store) w.disk })
  none_begins stage w e h none =
      let is : storing_at w.store.stage w.store ≡ Nothing = ap (λ s. storing_at s w.store) e ∙ none in
      subst (λ step. HoldsAt limit whole w.store.stage (record w { disk = store_started w.text step w.disk })) (sym is)
      (subst (λ s. HoldsAt limit whole s w) (sym e) h)

  begin_trimmed : (b : Bool) (w : World) → Trim limit whole Trimmed w
      → let s = record w.store { stage = cond b Rewriting Trimmed } in
      Holds limit whole (record w { store = s; disk = store_started w.text (storing_of s) w.disk })
  begin_trimmed true w h = record {
    closed = closed_started limit whole Trimmed Rewriting w (record w.store { stage = Rewriting }) h.closed
        (h.low, h.repair.within, h.long, h.repair.whole_kept);
    repair = h.repair;
    low = h.low;
    grown = h.grown;
    long = h.long;
    seen = h.seen;
    next = h.next;
  }
  begin_trimmed false w h = record {
    closed = closed_as limit whole Trimmed Trimmed w (record w.store { stage = Trimmed }) h.closed tt;
    repair = h.repair;
    low = h.low;
    grown = h.grown;
    long = h.long;
    seen = h.seen;
    next = h.next;
  }

  -- a sync that is under way counts nothing of a step that begins
  sync_goes_on : (text seen mark : List ℕ) (since : List Call) (failing : Bool) (m synced stored grown : ℕ) (step : Step)
      (o : Option ℕ)
      → Under limit whole text seen m stored grown step
      → SyncHolds limit whole text mark since failing synced stored o
      → SyncHolds limit whole text mark (calls_of text step ++ since) failing synced stored o
  sync_goes_on text seen mark since failing m synced stored grown step None u h = tt
  sync_goes_on text seen mark since failing m synced stored grown step (Some to) u h = record {
    low = h.low;
    high = h.high;
    whole_to = h.whole_to;
    since = λ f c left. started to (length text) text mark since step
        (fits_stored limit whole text seen m stored grown to step h.high u) (h.since f) c left;
  }

  -- work begins
  begin_work : (w : World) (work : Work) → Opened limit whole w
      → Under limit whole w.text w.disk.seen w.stored w.store.stored w.store.grown (step_of work w.store.stored)
      → Opened limit whole (record w {
        store = record w.store { work = work; stage = Open };
        disk = store_started w.text
            (step_of work w.store.stored) w.disk;
      })
  begin_work w work h u = record {
    closed = closed_started limit whole Open Open w (record w.store { work = work; stage = Open }) h.closed u;
    accepted = h.accepted;
    synced = h.synced;
    low = h.low;
    high = h.high;
    whole_high = h.whole_high;
    grown = h.grown;
    stored = h.stored;
    named = h.named;
    sync = sync_goes_on w.text w.disk.seen w.disk.mark w.disk.since w.disk.failing w.stored w.synced w.store.stored w.store.grown
        (step_of work w.store.stored) w.store.syncing u h.sync;
  }

  begin_idle : (unstored short unwanted : Bool) (growth : ℕ) (w : World) → nat_lt w.store.grown w.store.accepted ≡ short
      → w.store.stage ≡ Open → w.store.work ≡ Idle → Opened limit whole w
      → let s = work_begun unstored short unwanted growth w.store in
      Holds limit whole (record w { store = s; disk = store_started w.text (storing_of s) w.disk })
  begin_idle true true d growth w is e i h =
      let m = h.closed.marks in
      let below : w.store.grown + 1 ≤ w.store.accepted = omega (arith, ltb-true w.store.grown w.store.accepted is) in
      begin_work w (Growing (w.store.accepted + growth)) h
      (omega (arith, m.within, h.accepted), omega (arith, h.high, h.accepted), omega (arith, below))
  begin_idle true false d growth w is e i h =
      let m = h.closed.marks in
      let fits : w.store.accepted ≤ w.store.grown = omega (arith, ltb-false w.store.grown w.store.accepted is) in
      begin_work w (Storing w.store.accepted) h (
        omega (arith, h.high, h.accepted),
        omega (arith, h.accepted),
        omega (arith, fits, h.grown),
        ap whole (take_all w.store.accepted w.text (omega (arith, h.accepted))) ∙ m.whole_all,
      )
  begin_idle false short true growth w is e i h =
      begin_work w (Cutting w.store.accepted) h (omega (arith, h.closed.marks.within, h.accepted), omega (arith, h.high, h.accepted))
  begin_idle false short false growth w is e i h = none_begins Open w e h (ap (λ k. step_of k w.store.stored) i)

  begin_open : (work : Work) (closing : Bool) (growth : ℕ) (w : World) → w.store.stage ≡ Open → w.store.work ≡ work
      → Opened limit whole w
      → let s = open_begun work closing growth w.store in
      Holds limit whole (record w {
        store = s;
        disk = store_started w.text
            (cond (rests (step_of work w.store.stored)) (storing_of s) Nothing) w.disk;
      })
  begin_open Idle closing growth w e i h = begin_idle _ _ _ growth w refl e i h
  begin_open (Cutting to) closing growth w e i h = subst (λ s. HoldsAt limit whole s w) (sym e) h
  begin_open (Growing to) closing growth w e i h = subst (λ s. HoldsAt limit whole s w) (sym e) h
  begin_open (Storing to) closing growth w e i h = subst (λ s. HoldsAt limit whole s w) (sym e) h

  begin_lost : (work : Work) (w : World) → w.store.stage ≡ Lost → w.store.work ≡ work → Closed limit whole Lost w
      → Holds limit whole (record w {
        disk = store_started w.text
            (cond (rests (step_of work w.store.stored)) (storing_of w.store) Nothing) w.disk;
      })
  begin_lost Idle w e i h = none_begins Lost w e h (ap (λ k. step_of k w.store.stored) i)
  begin_lost (Cutting to) w e i h = subst (λ s. HoldsAt limit whole s w) (sym e) h
  begin_lost (Growing to) w e i h = subst (λ s. HoldsAt limit whole s w) (sym e) h
  begin_lost (Storing to) w e i h = subst (λ s. HoldsAt limit whole s w) (sym e) h

  pub store_begins : (stage : Stage) (closing : Bool) (growth : ℕ) (w : World) → w.store.stage ≡ stage
      → HoldsAt limit whole stage w
      → Holds limit whole (begins_store stage closing growth w)
  store_begins Dirty closing growth w e h =
      let m = h.closed.marks in
      record {
        closed = closed_started limit whole Dirty Trimming w (record w.store { stage = Trimming }) h.closed
            (h.repair.kept, omega (arith, h.low, h.repair.base, m.order, h.repair.kept));
        repair = h.repair;
        low = h.low;
      }
  store_begins Trimming closing growth w e h = subst (λ s. HoldsAt limit whole s w) (sym e) h
  store_begins Trimmed closing growth w e h = begin_trimmed (nat_lt w.store.stored w.store.accepted) w h
  store_begins Rewriting closing growth w e h = subst (λ s. HoldsAt limit whole s w) (sym e) h
  store_begins Settling closing growth w e h = none_begins Settling w e h refl
  store_begins Unnamed closing growth w e h = none_begins Unnamed w e h refl
  store_begins Naming closing growth w e h = none_begins Naming w e h refl
  store_begins Open closing growth w e h = begin_open w.store.work closing growth w e refl h
  store_begins Lost closing growth w e h = begin_lost w.store.work w e refl h

  -- a growth ahead begins
  begin_growing : (wanted : Bool) (to : ℕ) (w : World) → (nat_lt w.store.grown to && nat_le w.store.accepted to) ≡ wanted
      → w.store.stage ≡ Open → w.store.work ≡ Idle → Opened limit whole w
      → let s = grow_begun Idle wanted to w.store in
      Holds limit whole (record w { store = s; disk = store_started w.text (storing_of s) w.disk })
  begin_growing true to w is e i h =
      let parts = and_parts (nat_lt w.store.grown to) (nat_le w.store.accepted to) is in
      let longer : w.store.grown + 1 ≤ to = omega (arith, ltb-true w.store.grown to parts.0) in
      let fits : w.store.accepted ≤ to = leb-true w.store.accepted to parts.1 in
      begin_work w (Growing to) h
      (omega (arith, h.closed.marks.within, h.accepted, fits), omega (arith, h.high, h.accepted, fits), omega (arith, longer))
  begin_growing false to w is e i h = none_begins Open w e h (ap (λ k. step_of k w.store.stored) i)

  begin_growth : (work : Work) (to : ℕ) (w : World) → w.store.stage ≡ Open → w.store.work ≡ work → Opened limit whole w
      → let s = grow_begun work (nat_lt w.store.grown to && nat_le w.store.accepted to) to w.store in
      Holds limit whole (record w {
        store = s;
        disk = store_started w.text (cond (rests (step_of work w.store.stored)) (storing_of s) Nothing) w.disk;
      })
  begin_growth Idle to w e i h = begin_growing _ to w refl e i h
  begin_growth (Cutting at) to w e i h = subst (λ s. HoldsAt limit whole s w) (sym e) h
  begin_growth (Growing at) to w e i h = subst (λ s. HoldsAt limit whole s w) (sym e) h
  begin_growth (Storing at) to w e i h = subst (λ s. HoldsAt limit whole s w) (sym e) h

  pub growth_begins : (stage : Stage) (to : ℕ) (w : World) → w.store.stage ≡ stage → HoldsAt limit whole stage w
      → Holds limit whole (begins_growth stage to w)
  growth_begins Dirty to w e h = none_begins Dirty w e h refl
  growth_begins Trimming to w e h = subst (λ s. HoldsAt limit whole s w) (sym e) h
  growth_begins Trimmed to w e h = none_begins Trimmed w e h refl
  growth_begins Rewriting to w e h = subst (λ s. HoldsAt limit whole s w) (sym e) h
  growth_begins Settling to w e h = none_begins Settling w e h refl
  growth_begins Unnamed to w e h = none_begins Unnamed w e h refl
  growth_begins Naming to w e h = none_begins Naming w e h refl
  growth_begins Open to w e h = begin_growth w.store.work to w e refl h
  growth_begins Lost to w e h = begin_lost w.store.work w e refl h

  -- no sync begins
  no_sync_begins : (stage : Stage) (step : Step) (w : World) → w.store.stage ≡ stage → HoldsAt limit whole stage w
      → syncing_at stage w.store ≡ Nothing
      → Holds limit whole (record w { disk = sync_started w.text (syncing_at w.store.stage w.store) step w.disk })
  no_sync_begins stage step w e h none =
      let is : syncing_at w.store.stage w.store ≡ Nothing = ap (λ s. syncing_at s w.store) e ∙ none in
      subst (λ sync. HoldsAt limit whole w.store.stage (record w { disk = sync_started w.text sync step w.disk })) (sym is)
      (subst (λ s. HoldsAt limit whole s w) (sym e) h)

  -- all is written again, and a sync begins
  begin_settling : (b : Bool) (w : World) → nat_lt w.store.stored w.store.accepted ≡ b → Trim limit whole Trimmed w
      → let s = record w.store { stage = cond b Trimmed Settling } in
      Holds limit whole (record w { store = s; disk = sync_started w.text (syncing_of s) Nothing w.disk })
  begin_settling true w is h = record {
    closed = closed_as limit whole Trimmed Trimmed w (record w.store { stage = Trimmed }) h.closed tt;
    repair = h.repair;
    low = h.low;
    grown = h.grown;
    long = h.long;
    seen = h.seen;
    next = h.next;
  }
  begin_settling false w is h =
      let all : w.store.stored ≡ w.store.accepted = omega (arith, h.low, ltb-false w.store.stored w.store.accepted is) in
      record {
        trim = record {
          closed = record { marks = h.closed.marks; lasts = h.closed.lasts; seen = h.closed.seen; next = h.closed.next; under = tt };
          repair = h.repair;
          low = h.low;
          grown = h.grown;
          long = h.long;
          seen = h.seen;
          next = h.next;
        };
        all = all;
        since = λ f c left. subst (λ x. Spotty w.store.accepted w.store.accepted w.text x) (sym left)
            (subst (λ n. Spotty n w.store.accepted w.text w.disk.next) all (h.next f));
      }

  begin_open_sync : (o : Option ℕ) (unsynced : Bool) (w : World) → w.store.stage ≡ Open → w.store.syncing ≡ o
      → Opened limit whole w
      → let s = open_sync_begun o unsynced w.store in
      Holds limit whole (record w {
        store = s;
        disk = sync_started w.text (cond (rests (sync_of o)) (syncing_of s) Nothing)
            (step_of w.store.work w.store.stored) w.disk;
      })
  begin_open_sync None true w e i h =
      let step = step_of w.store.work w.store.stored in
      record {
        closed = record {
          marks = h.closed.marks;
          lasts = h.closed.lasts;
          seen = h.closed.seen;
          next = h.closed.next;
          under = h.closed.under;
        };
        accepted = h.accepted;
        synced = h.synced;
        low = h.low;
        high = h.high;
        whole_high = h.whole_high;
        grown = h.grown;
        stored = h.stored;
        named = h.named;
        sync = record {
          low = omega (arith, h.low, h.synced);
          high = omega arith;
          whole_to = h.whole_high;
          since = λ f c left. in_part w.store.stored (length w.text) w.text step w.disk.next c
              (fits_stored limit whole w.text w.disk.seen w.stored w.store.stored w.store.grown w.store.stored step (omega arith)
              h.closed.under)
              (subst (λ n. Spotty n (length w.text) w.text w.disk.next) (h.stored f) h.closed.next) left;
        };
      }
  begin_open_sync None false w e i h = no_sync_begins Open (step_of w.store.work w.store.stored) w e h (ap sync_of i)
  begin_open_sync (Some to) unsynced w e i h = subst (λ s. HoldsAt limit whole s w) (sym e) h

  pub sync_begins : (stage : Stage) (w : World) → w.store.stage ≡ stage → HoldsAt limit whole stage w
      → Holds limit whole (begins_sync stage w)
  sync_begins Dirty w e h = no_sync_begins Dirty _ w e h refl
  sync_begins Trimming w e h = no_sync_begins Trimming _ w e h refl
  sync_begins Trimmed w e h = begin_settling (nat_lt w.store.stored w.store.accepted) w refl h
  sync_begins Rewriting w e h = no_sync_begins Rewriting _ w e h refl
  sync_begins Settling w e h = subst (λ s. HoldsAt limit whole s w) (sym e) h
  sync_begins Unnamed w e h = record {
    closed = closed_as limit whole Unnamed Naming w (record w.store { stage = Naming }) h.closed tt;
    repair = h.repair;
    all = h.all;
    grown = h.grown;
    kept = h.kept;
    seen = h.seen;
    next = h.next;
  }
  sync_begins Naming w e h = subst (λ s. HoldsAt limit whole s w) (sym e) h
  sync_begins Open w e h = begin_open_sync w.store.syncing (nat_lt w.store.synced w.store.stored) w e refl h
  sync_begins Lost w e h = no_sync_begins Lost _ w e h refl
