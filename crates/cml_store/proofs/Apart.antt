-- An exchange goes on: its marks stay, and a system that keeps what it has goes on so.
use Rattle.std.proofs.Common.{◌≡◌, ℕ, ◌+◌, ◌-◌, ◌^◌, ◌≤◌, ◌&&◌, min, Bool, true, false, nat_le, List, [], ◌∷◌, length, refl, sym, subst, arith}
use Rattle.std.proofs.lemmas.Bool.{and_parts, leb-true}
use Rattle.cml_store.specs.declared.exchange.Way.{Way}
use Rattle.cml_store.specs.declared.step.Step.{Step}
use Rattle.cml_store.specs.declared.step.Step.TheVariants.{Sync, SyncFolder}
use Rattle.cml_store.specs.Disk.{Disk}
use Rattle.cml_store.specs.Exchange.{holder, place, counted, covers}
use Rattle.cml_store.specs.Machine.{is_open, storing_at, sync_asked_at, syncing_at, syncing_of}
use Rattle.cml_store.specs.Pair.{Pair, Happening, OnOld, OnNew, BeginsMove, EndsMove, Cancels, Reopens, KeepsBoth, AllKeepBoth, crossing, after_pair, MayBe, run_pair, MayRunPair, text_of, stored_of, synced_of}
use Rattle.cml_store.specs.World.{World, Event, Accepts, BeginsStore, BeginsGrowth, EndsStore, BeginsSync, EndsSync, Forgets, IsKilled, LosesPower, KeepsMemory, accepts_at, sync_started, sync_over, after, MayHappen}
use Rattle.cml_store.proofs.Holds.{Holds, closed_at}
use Rattle.cml_store.proofs.Names.{has}
use Rattle.cml_store.proofs.Pairs.{PairHolds, at_holder, stays_next, one_more}
use Rattle.cml_store.proofs.Reaching.{told}
use Rattle.cml_store.proofs.Runs.{Stays, still, then, stored_through}
use Rattle.cml_store.proofs.Steady.{MayGo, goes, same_way, new_way, begun_way, ended_way, given_way, found_old, found_new, shares}

-- ---- a system that has not failed to write ----

accepts_sound : (b : Bool) (piece : List ℕ) (w : World) → w.disk.failing ≡ false → (accepts_at b piece w).disk.failing ≡ false
accepts_sound true piece w f = f
accepts_sound false piece w f = f

started_sound : (text : List ℕ) (step under : Step) (disk : Disk) → disk.failing ≡ false
    → (sync_started text step under disk).failing ≡ false
started_sound text Sync under disk f = f
started_sound text step under disk f = f

over_sound : (step : Step) (done : Bool) (seen next : List ℕ) (disk : Disk) → disk.failing ≡ false
    → (sync_over step done seen next disk).failing ≡ false
over_sound Sync true seen next disk f = f
over_sound Sync false seen next disk f = refl
over_sound SyncFolder true seen next disk f = f
over_sound step done seen next disk f = f

sound : (whole front : List ℕ → Bool) (limit growth : ℕ) (w : World) (event : Event) → w.disk.failing ≡ false
    → KeepsMemory event → (after whole front limit growth w event).disk.failing ≡ false
sound whole front limit growth w (Accepts piece) f keep = accepts_sound (is_open w.store.stage) piece w f
sound whole front limit growth w (BeginsStore closing) f keep = f
sound whole front limit growth w (BeginsGrowth to) f keep = f
sound whole front limit growth w (EndsStore done seen next) f keep = f
sound whole front limit growth w BeginsSync f keep =
    started_sound w.text (sync_asked_at w.store.stage w.store) (storing_at w.store.stage w.store) w.disk f
sound whole front limit growth w (EndsSync done seen next) f keep =
    over_sound (syncing_at w.store.stage w.store) done seen next w.disk f
sound whole front limit growth w (Forgets seen next) f keep = absurd keep
sound whole front limit growth w (IsKilled c next) f keep = refl
sound whole front limit growth w (LosesPower c) f keep = absurd keep

pub record Sound (p : Pair) : Type 0 where
  pub old : p.old.disk.failing ≡ false
  pub new : p.new.disk.failing ≡ false

module _ (whole front : List ℕ → Bool) (limit growth : ℕ) (long short : List ℕ) (none : whole [] ≡ true) where
  abbrev Next : World → Event → World
  Next w event = after whole front limit growth w event

  abbrev Then : Pair → Happening → Pair
  Then p happening = after_pair whole front limit growth long short p happening

  sound_next : (p : Pair) (happening : Happening) → Sound p → KeepsBoth happening → Sound (Then p happening)
  sound_next p (OnOld event) s keep = record { old = sound whole front limit growth p.old event s.old keep; new = s.new }
  sound_next p (OnNew event) s keep = record { old = s.old; new = sound whole front limit growth p.new event s.new keep }
  sound_next p BeginsMove s keep = record { old = s.old; new = s.new }
  sound_next p (EndsMove done) s keep = record { old = s.old; new = s.new }
  sound_next p Cancels s keep = record { old = s.old; new = s.new }
  sound_next p (Reopens false event) s keep = record { old = sound whole front limit growth p.old event s.old keep; new = s.new }
  sound_next p (Reopens true event) s keep = record { old = s.old; new = sound whole front limit growth p.new event s.new keep }

  -- ---- one happening more ----

  -- what an event must keep, so that a mark stays
  abbrev Kept : (Event → Type 0) → Happening → Type 0
  Kept k (OnOld event) = k event
  Kept k (OnNew event) = k event
  Kept k BeginsMove = Unit {0}
  Kept k (EndsMove done) = Unit {0}
  Kept k Cancels = Unit {0}
  Kept k (Reopens is_new event) = k event

  -- a mark of both files
  record Marked (mark : World → ℕ) (k : Event → Type 0) (p : Pair) : Type 0 where
    pub old : (event : Event) → MayHappen whole front limit growth p.old event → k event
        → Stays (mark p.old) (mark (Next p.old event)) p.old.text (Next p.old event).text
    pub new : (event : Event) → MayHappen whole front limit growth p.new event → k event
        → Stays (mark p.new) (mark (Next p.new event)) p.new.text (Next p.new event).text
    pub low : p.new.synced ≤ mark p.new
    pub high : mark p.new ≤ length p.new.text
    pub begins : covers (crossing long short p.way) p.old.store p.new.store ≡ true
        → mark p.old ≤ min (length long + (mark p.new - length short)) (2 ^ 64 - 1)

  -- it counts for no less, of the same text
  abbrev MarkStays : (World → ℕ) → Pair → Pair → Type 0
  MarkStays mark p q =
      Stays (counted (crossing long short p.way) (mark p.old) (mark p.new))
      (counted (crossing long short q.way) (mark q.old) (mark q.new)) (text_of long short p) (text_of long short q)

  stays_in : (mark : World → ℕ) (k : Event → Type 0) (p : Pair) (happening : Happening) → PairHolds whole front limit growth long short none p
      → MayBe whole front limit growth long short p happening → Marked mark k p → Kept k happening
      → MarkStays mark p (Then p happening)
  stays_in mark k p happening h may m keep = by happening may keep
    where
      goes_to : (q : Pair) → MayGo long short (holder p.way) (holder q.way) (mark p.old) (mark p.new)
          → Stays (mark p.old) (mark q.old) p.old.text q.old.text → Stays (mark p.new) (mark q.new) p.new.text q.new.text
          → MarkStays mark p q
      goes_to q may old new =
          goes long short (holder p.way) (holder q.way) p.way q.way (mark p.old) (mark p.new) (mark q.old) (mark q.new)
          p.old.text p.new.text q.old.text q.new.text may
          (shares whole front limit growth long short none (holder p.way) p.old p.new (mark p.new)
          (at_holder whole front limit growth long short none p.way p.old p.new h.at) m.low m.high) old new

      so : Stays (mark p.old) (mark p.old) p.old.text p.old.text
      so = still (mark p.old) p.old.text

      sn : Stays (mark p.new) (mark p.new) p.new.text p.new.text
      sn = still (mark p.new) p.new.text

      by : (happening : Happening) → MayBe whole front limit growth long short p happening → Kept k happening
          → MarkStays mark p (Then p happening)
      by (OnOld event) may keep =
          goes_to (Then p (OnOld event)) (same_way long short (holder p.way) (mark p.old) (mark p.new)) (m.old event may.1 keep) sn
      by (OnNew event) may keep =
          goes_to (Then p (OnNew event)) (new_way long short p.way (syncing_of p.new.store) event (mark p.old) (mark p.new)) so
          (m.new event may.2 keep)
      by BeginsMove may keep =
          goes_to (Then p BeginsMove)
          (begun_way long short p.way (covers (crossing long short p.way) p.old.store p.new.store) (mark p.old) (mark p.new) m.begins)
          so sn
      by (EndsMove done) may keep =
          goes_to (Then p (EndsMove done)) (ended_way long short p.way done (mark p.old) (mark p.new)) so sn
      by Cancels may keep = goes_to (Then p Cancels) (given_way long short p.way (mark p.old) (mark p.new)) so sn
      by (Reopens false event) may keep =
          goes_to (Then p (Reopens false event)) (found_old long short (holder p.way) (mark p.old) (mark p.new) (has p.way p.name false h.fits may.1))
          (m.old event may.2 keep) sn
      by (Reopens true event) may keep =
          goes_to (Then p (Reopens true event)) (found_new long short (holder p.way) event (mark p.old) (mark p.new) may.0
          (has p.way p.name true h.fits may.1)) so
          (m.new event may.2 keep)

  -- ---- the marks ----

  covers_parts : (way : Way) (old new : World) → Holds limit whole old → Holds limit whole new
      → covers (crossing long short way) old.store new.store ≡ true
      → (is_open old.store.stage ≡ true) × (is_open new.store.stage ≡ true)
      × (old.store.synced ≤ place (crossing long short way) new.store.synced)
      × (old.store.stored ≤ place (crossing long short way) new.store.stored)
  covers_parts way old new h g e =
      let a = and_parts (is_open old.store.stage && is_open new.store.stage) _ e in
      let b = and_parts (is_open old.store.stage) (is_open new.store.stage) a.0 in
      let c = and_parts (nat_le (length short) new.store.synced) _ a.1 in
      let d = and_parts (nat_le old.store.synced (place (crossing long short way) new.store.synced)) _ c.1 in (
        b.0,
        b.1,
        leb-true old.store.synced (place (crossing long short way) new.store.synced) d.0,
        leb-true old.store.stored (place (crossing long short way) new.store.stored) d.1,
      )

  synced_marked : (p : Pair) → PairHolds whole front limit growth long short none p
      → Marked (λ w. w.synced) (λ event. Unit {0}) p
  synced_marked p h =
      let k = (closed_at limit whole p.new.store.stage p.new h.new).marks in
      record {
        old = λ event may keep. stays_next whole front limit growth long short none p.old event h.old may;
        new = λ event may keep. stays_next whole front limit growth long short none p.new event h.new may;
        low = omega arith;
        high = omega (arith, k.order, k.within);
        begins = λ e.
            let c = covers_parts p.way p.old p.new h.old h.new e in
            let a = (told limit whole p.old.store.stage p.old h.old c.0).0 in
            let b = (told limit whole p.new.store.stage p.new h.new c.1).0 in
            subst (λ n. p.old.synced ≤ place (crossing long short p.way) n) (sym b)
            (subst (λ n. n ≤ place (crossing long short p.way) p.new.store.synced) (sym a) c.2);
      }

  stored_marked : (p : Pair) → PairHolds whole front limit growth long short none p → Sound p
      → Marked (λ w. w.stored) KeepsMemory p
  stored_marked p h s =
      let k = (closed_at limit whole p.new.store.stage p.new h.new).marks in
      record {
        old = λ event may keep. stored_through limit whole front growth none p.old (event ∷ []) h.old (may, tt) (keep, tt);
        new = λ event may keep. stored_through limit whole front growth none p.new (event ∷ []) h.new (may, tt) (keep, tt);
        low = k.order;
        high = k.within;
        begins = λ e.
            let c = covers_parts p.way p.old p.new h.old h.new e in
            let a = (told limit whole p.old.store.stage p.old h.old c.0).1 s.old in
            let b = (told limit whole p.new.store.stage p.new h.new c.1).1 s.new in
            subst (λ n. p.old.stored ≤ place (crossing long short p.way) n) (sym b)
            (subst (λ n. n ≤ place (crossing long short p.way) p.new.store.stored) (sym a) c.3);
      }

  no_kept : (happening : Happening) → Kept (λ event. Unit {0}) happening
  no_kept (OnOld event) = tt
  no_kept (OnNew event) = tt
  no_kept BeginsMove = tt
  no_kept (EndsMove done) = tt
  no_kept Cancels = tt
  no_kept (Reopens is_new event) = tt

  both_kept : (happening : Happening) → KeepsBoth happening → Kept KeepsMemory happening
  both_kept (OnOld event) keep = keep
  both_kept (OnNew event) keep = keep
  both_kept BeginsMove keep = tt
  both_kept (EndsMove done) keep = tt
  both_kept Cancels keep = tt
  both_kept (Reopens is_new event) keep = keep

  -- ---- through every schedule ----

  pub synced_on : (p : Pair) (later : List Happening) → PairHolds whole front limit growth long short none p
      → MayRunPair whole front limit growth long short p later
      → let q = run_pair whole front limit growth long short p later in
      Stays (synced_of long short p) (synced_of long short q) (text_of long short p) (text_of long short q)
  synced_on p [] h may = still (synced_of long short p) (text_of long short p)
  synced_on p (happening ∷ later) h may =
      let v = Then p happening in
      let q = run_pair whole front limit growth long short v later in
      then (synced_of long short p) (synced_of long short v) (synced_of long short q) (text_of long short p) (text_of long short v)
      (text_of long short q)
      (stays_in (λ w. w.synced) (λ event. Unit {0}) p happening h may.0 (synced_marked p h) (no_kept happening))
      (synced_on v later (one_more whole front limit growth long short none p happening h may.0) may.1)

  pub stored_on : (p : Pair) (later : List Happening) → PairHolds whole front limit growth long short none p → Sound p
      → MayRunPair whole front limit growth long short p later → AllKeepBoth later
      → let q = run_pair whole front limit growth long short p later in
      Stays (stored_of long short p) (stored_of long short q) (text_of long short p) (text_of long short q)
  stored_on p [] h s may keep = still (stored_of long short p) (text_of long short p)
  stored_on p (happening ∷ later) h s may keep =
      let v = Then p happening in
      let q = run_pair whole front limit growth long short v later in
      then (stored_of long short p) (stored_of long short v) (stored_of long short q) (text_of long short p) (text_of long short v)
      (text_of long short q)
      (stays_in (λ w. w.stored) KeepsMemory p happening h may.0 (stored_marked p h s) (both_kept happening keep.0))
      (stored_on v later (one_more whole front limit growth long short none p happening h may.0) (sound_next p happening s keep.0)
      may.1 keep.1)
