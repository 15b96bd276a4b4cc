-- What holds through every schedule.
use Rattle.std.proofs.Common.{◌≡◌, inr, ⊎_elim, ℕ, ◌+◌, ◌≤◌, Bool, true, false, Option, Some, None, List, [], ◌∷◌, ◌++◌, length, take, refl, sym, ◌∙◌, ap, subst, arith}
use Rattle.cml_store.specs.declared.stage.Stage.{Stage}
use Rattle.cml_store.specs.declared.stage.Stage.TheVariants.{Dirty, Trimming, Trimmed, Rewriting, Settling, Unnamed, Naming, Open, Lost}
use Rattle.cml_store.specs.declared.stage.Work.{Work}
use Rattle.cml_store.specs.declared.stage.Work.TheVariants.{Idle, Cutting, Growing, Storing}
use Rattle.cml_store.specs.declared.step.Step.{Step}
use Rattle.cml_store.specs.declared.step.Step.TheVariants.{Store}
use Rattle.cml_store.specs.Machine.{is_open, step_of, sync_of, syncing_at, open_sync_ended}
use Rattle.cml_store.specs.Recovery.{printed, recovered}
use Rattle.cml_store.specs.World.{World, Event, Accepts, BeginsStore, BeginsGrowth, EndsStore, BeginsSync, EndsSync, Forgets, IsKilled, LosesPower, KeepsMemory, AllKeepMemory, MaySync, accepts_at, stored_by, ends_store, ends_sync_by, ends_sync, after, MayHappen, run, MayRun, IsPast}
use Rattle.cml_store.proofs.Spotty.{Spotty}
use Rattle.cml_store.proofs.Keeping.{keeps, take_take, read_front}
use Rattle.cml_store.proofs.Holds.{clash, take_append, Under, Marks, Opened, SyncHolds, HoldsAt, Holds, closed_at, read_part}
use Rattle.cml_store.proofs.Beginnings.{accepts, store_begins, growth_begins, sync_begins}
use Rattle.cml_store.proofs.Endings.{store_ends, sync_ends}
use Rattle.cml_store.proofs.Openings.{forgets_more, opens}

-- a mark stays, and so does the text before it
pub record Stays (mark now : ℕ) (old new : List ℕ) : Type 0 where
  pub later : mark ≤ now
  pub same : take mark new ≡ take mark old

pub still : (mark : ℕ) (text : List ℕ) → Stays mark mark text text
still mark text = record { later = omega arith; same = refl }

more : (mark : ℕ) (text piece : List ℕ) → mark ≤ length text → Stays mark mark text (text ++ piece)
more mark text piece le = record { later = omega arith; same = take_append mark text piece le }

pub then : (a b c : ℕ) (x y z : List ℕ) → Stays a b x y → Stays b c y z → Stays a c x z
then a b c x y z h g = record {
  later = omega (arith, h.later, g.later);
  same = sym (take_take a b z h.later) ∙ ap (take a) g.same ∙ take_take a b y h.later ∙ h.same;
}

abbrev pub SyncedStays : World → World → Type 0
SyncedStays w v = Stays w.synced v.synced w.text v.text

abbrev pub StoredStays : World → World → Type 0
StoredStays w v = Stays w.stored v.stored w.text v.text

module _ (limit : ℕ) (whole : List ℕ → Bool) where
  accept_stays : (b : Bool) (piece : List ℕ) (w : World) → Marks limit whole w.text w.stored w.synced
      → SyncedStays w (accepts_at b piece w) × StoredStays w (accepts_at b piece w)
  accept_stays true piece w m =
      (more w.synced w.text piece (omega (arith, m.order, m.within)), more w.stored w.text piece m.within)
  accept_stays false piece w m = (still w.synced w.text, still w.stored w.text)

  -- as a step on the file's bytes ends, the mark stays
  stored_more : (step : Step) (done failing : Bool) (w : World) → w.disk.failing ≡ failing → Opened limit whole w
      → Under limit whole w.text w.disk.seen w.stored w.store.stored w.store.grown step
      → ((from to : ℕ) → step ≡ Store from to → from ≡ w.store.stored)
      → Stays w.stored (stored_by step done failing w.stored) w.text w.text
  stored_more (Store from to) true false w f h u is =
      record { later = omega (arith, h.stored f, u.0, is from to refl); same = refl }
  stored_more (Store from to) true true w f h u is = still w.stored w.text
  stored_more (Store from to) false failing w f h u is = still w.stored w.text
  stored_more step done failing w f h u is = still w.stored w.text

  from_stored : (work : Work) (stored from to : ℕ) → step_of work stored ≡ Store from to → from ≡ stored
  from_stored Idle stored from to e = cc
  from_stored (Cutting x) stored from to e = cc
  from_stored (Growing x) stored from to e = cc
  from_stored (Storing x) stored from to e = cc

  store_stays : (stage : Stage) (done : Bool) (seen next : List ℕ) (w : World) → HoldsAt limit whole stage w
      → StoredStays w (ends_store stage done seen next w)
  store_stays Dirty done seen next w h = still w.stored w.text
  store_stays Trimming done seen next w h = still w.stored w.text
  store_stays Trimmed done seen next w h = still w.stored w.text
  store_stays Rewriting done seen next w h = still w.stored w.text
  store_stays Settling done seen next w h = still w.stored w.text
  store_stays Unnamed done seen next w h = still w.stored w.text
  store_stays Naming done seen next w h = still w.stored w.text
  store_stays Open done seen next w h =
      stored_more (step_of w.store.work w.store.stored) done w.disk.failing w refl h h.closed.under
      (from_stored w.store.work w.store.stored)
  store_stays Lost done seen next w h = still w.stored w.text

  -- as a sync ends, so do both
  open_sync_stays : (o : Option ℕ) (done : Bool) (seen next : List ℕ) (w : World) → w.store.syncing ≡ o → Opened limit whole w
      → MaySync (sync_of o) done seen next w.disk
      → let v = ends_sync_by (sync_of o) done seen next (open_sync_ended o done w.store) w in SyncedStays w v ×
      (done ≡ true → StoredStays w v)
  open_sync_stays None done seen next w i h may = absurd may
  open_sync_stays (Some to) true seen next w i h may =
      let c = subst (λ o. SyncHolds limit whole w.text w.disk.mark w.disk.since w.disk.failing w.synced w.store.stored o) i h.sync in
      (record { later = c.low; same = refl }, λ _. still w.stored w.text)
  open_sync_stays (Some to) false seen next w i h may = (still w.synced w.text, λ e. absurd (clash e))

  sync_stays : (stage : Stage) (done : Bool) (seen next : List ℕ) (w : World) → HoldsAt limit whole stage w
      → MaySync (syncing_at stage w.store) done seen next w.disk
      → SyncedStays w (ends_sync stage done seen next w) × (done ≡ true → StoredStays w (ends_sync stage done seen next w))
  sync_stays Dirty done seen next w h may = absurd may
  sync_stays Trimming done seen next w h may = absurd may
  sync_stays Trimmed done seen next w h may = absurd may
  sync_stays Rewriting done seen next w h may = absurd may
  sync_stays Settling true seen next w h may = (still w.synced w.text, λ _. still w.stored w.text)
  sync_stays Settling false seen next w h may = (still w.synced w.text, λ e. absurd (clash e))
  sync_stays Unnamed done seen next w h may = absurd may
  sync_stays Naming true seen next w h may =
      let r = h.repair in
      let le : w.synced ≤ w.store.accepted = omega (arith, h.closed.marks.order, r.kept) in (
        record { later = le; same = take_take w.synced w.store.accepted w.text le },
        λ _. record { later = r.kept; same = take_take w.stored w.store.accepted w.text r.kept },
      )
  sync_stays Naming false seen next w h may = (still w.synced w.text, λ e. absurd (clash e))
  sync_stays Open done seen next w h may = open_sync_stays w.store.syncing done seen next w refl h may
  sync_stays Lost done seen next w h may = absurd may

  -- one event more
  module _ (front : List ℕ → Bool) (growth : ℕ) (none : whole [] ≡ true) where
    abbrev Next : World → Event → World
    Next w event = after whole front limit growth w event

    goes_on : (w : World) (event : Event) → Holds limit whole w → MayHappen whole front limit growth w event
        → Holds limit whole (Next w event)
    goes_on w (Accepts piece) h may = accepts limit whole w.store.stage w piece refl h may.0 may.1 may.2
    goes_on w (BeginsStore closing) h may = store_begins limit whole w.store.stage closing growth w refl h
    goes_on w (BeginsGrowth to) h may = growth_begins limit whole w.store.stage to w refl h
    goes_on w (EndsStore done seen next) h may = store_ends limit whole w.store.stage done w seen next refl h may.0 may.1
    goes_on w BeginsSync h may = sync_begins limit whole w.store.stage w refl h
    goes_on w (EndsSync done seen next) h may = sync_ends limit whole w.store.stage done w seen next h may
    goes_on w (Forgets seen next) h may = forgets_more limit whole w.store.stage w seen next h may
    goes_on w (IsKilled c next) h may =
        let k = closed_at limit whole w.store.stage w h in
        let here = read_part limit whole w.store.stage w w.disk.seen c k k.seen may.0 in
        opens limit whole front growth none w.text w.stored w.synced (record w.disk { seen = c; next = next; failing = false }) c
        k.marks k.lasts here
        (read_part limit whole w.store.stage w w.disk.next next k k.next may.1) here
    goes_on w (LosesPower c) h may =
        let k = closed_at limit whole w.store.stage w h in
        let m = k.marks in
        let here = k.lasts c may in
        opens limit whole front growth none w.text w.synced w.synced
        (record { kept = c; calls = []; seen = c; next = c; mark = c; since = []; named = w.disk.named; failing = false }) c
        (record {
          is_printed = m.is_printed;
          order = omega arith;
          within = omega (arith, m.order, m.within);
          whole_synced = m.whole_synced;
          whole_stored = m.whole_synced;
          whole_all = m.whole_all;
          near = m.near;
        })
        (λ x left. ⊎_elim
        (λ (kept : x ≡ c). subst (λ y. Spotty w.synced (length w.text) w.text y) (sym kept) here)
        (λ (gone : (w.disk.named ≡ false) × (x ≡ [])). k.lasts x (inr gone))
        left)
        here here here

    synced_stays : (w : World) (event : Event) → Holds limit whole w → MayHappen whole front limit growth w event
        → SyncedStays w (Next w event)
    synced_stays w (Accepts piece) h may =
        (accept_stays (is_open w.store.stage) piece w (closed_at limit whole w.store.stage w h).marks).0
    synced_stays w (BeginsStore closing) h may = still w.synced w.text
    synced_stays w (BeginsGrowth to) h may = still w.synced w.text
    synced_stays w (EndsStore done seen next) h may = still w.synced w.text
    synced_stays w BeginsSync h may = still w.synced w.text
    synced_stays w (EndsSync done seen next) h may = (sync_stays w.store.stage done seen next w h may).0
    synced_stays w (Forgets seen next) h may = still w.synced w.text
    synced_stays w (IsKilled c next) h may = still w.synced w.text
    synced_stays w (LosesPower c) h may = still w.synced w.text

    stored_stays : (w : World) (event : Event) → Holds limit whole w → MayHappen whole front limit growth w event
        → KeepsMemory event → StoredStays w (Next w event)
    stored_stays w (Accepts piece) h may keeps =
        (accept_stays (is_open w.store.stage) piece w (closed_at limit whole w.store.stage w h).marks).1
    stored_stays w (BeginsStore closing) h may keeps = still w.stored w.text
    stored_stays w (BeginsGrowth to) h may keeps = still w.stored w.text
    stored_stays w (EndsStore done seen next) h may keeps = store_stays w.store.stage done seen next w h
    stored_stays w BeginsSync h may keeps = still w.stored w.text
    stored_stays w (EndsSync done seen next) h may keeps = (sync_stays w.store.stage done seen next w h may).1 keeps
    stored_stays w (Forgets seen next) h may keeps = absurd keeps
    stored_stays w (IsKilled c next) h may keeps = still w.stored w.text
    stored_stays w (LosesPower c) h may keeps = absurd keeps

    pub all_through : (w : World) (events : List Event) → Holds limit whole w → MayRun whole front limit growth w events
        → Holds limit whole (run whole front limit growth w events)
    all_through w [] h may = h
    all_through w (event ∷ events) h may = all_through (Next w event) events (goes_on w event h may.0) may.1

    pub synced_through : (w : World) (events : List Event) → Holds limit whole w → MayRun whole front limit growth w events
        → SyncedStays w (run whole front limit growth w events)
    synced_through w [] h may = still w.synced w.text
    synced_through w (event ∷ events) h may =
        let v = Next w event in
        let end = run whole front limit growth v events in
        then w.synced v.synced end.synced w.text v.text end.text (synced_stays w event h may.0)
        (synced_through v events (goes_on w event h may.0) may.1)

    pub stored_through : (w : World) (events : List Event) → Holds limit whole w → MayRun whole front limit growth w events
        → AllKeepMemory events
        → StoredStays w (run whole front limit growth w events)
    stored_through w [] h may keep = still w.stored w.text
    stored_through w (event ∷ events) h may keep =
        let v = Next w event in
        let end = run whole front limit growth v events in
        then w.stored v.stored end.stored w.text v.text end.text (stored_stays w event h may.0 keep.0)
        (stored_through v events (goes_on w event h may.0) may.1 keep.1)

    -- recovery keeps all up to a mark
    pub past : (mark : ℕ) (w : World) (c : List ℕ) → Marks limit whole w.text w.stored w.synced → mark ≤ length w.text
        → whole (take mark w.text) ≡ true
        → Spotty mark (length w.text) w.text c → IsPast whole front limit growth mark w c
    past mark w c m within is_whole sp =
        let k = keeps whole mark (length w.text) w.text c none m.is_printed within is_whole sp in
        (k.many, k.sure, k.within, k.is)

    -- no more is cut off than may be unsynced
    pub few : (mark : ℕ) (w : World) (c : List ℕ) → Marks limit whole w.text w.stored w.synced → w.synced ≤ mark
        → mark ≤ length w.text → whole (take mark w.text) ≡ true
        → Spotty mark (length w.text) w.text c → length (printed c) ≤ length (recovered whole c) + limit
    few mark w c m le within is_whole sp =
        let k = keeps whole mark (length w.text) w.text c none m.is_printed within is_whole sp in
        omega (arith, k.few, k.long, k.sure, m.near, le)

    -- what is read is a front of the text
    pub not_refused : (mark : ℕ) (w : World) (c : List ℕ) → Marks limit whole w.text w.stored w.synced
        → ((text : List ℕ) (n : ℕ) → whole text ≡ true → front (take n text) ≡ true) → Spotty mark (length w.text) w.text c
        → front (printed c) ≡ true
    not_refused mark w c m fronts sp =
        ap front (read_front mark (length w.text) w.text c m.is_printed sp) ∙ fronts w.text (length (printed c)) m.whole_all
