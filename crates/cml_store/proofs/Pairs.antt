-- What holds of a journal's file and a new one that takes its name.
use Rattle.std.proofs.Common.{◌≡◌, ℕ, ◌+◌, ◌-◌, ◌≤◌, ◌&&◌, Bool, true, false, nat_le, List, [], ◌∷◌, ◌++◌, length, take, drop, refl, sym, ◌∙◌, ap, subst, arith, append_assoc, take-append-drop}
use Rattle.std.proofs.lemmas.Bool.{and_parts, leb-true}
use Rattle.std.proofs.lemmas.List.{take-append-le}
use Rattle.std.proofs.Math.Seq.{take-append_seam, drop-append_seam, take-append-add}
use Rattle.cml_store.specs.declared.exchange.Way.{Way}
use Rattle.cml_store.specs.declared.exchange.Way.TheVariants.{Beside, Renaming, Renamed, Naming, Over, Left, Lost}
use Rattle.cml_store.specs.declared.stage.Stage.TheVariants.{Open}
use Rattle.cml_store.specs.declared.step.Step.{Step}
use Rattle.cml_store.specs.declared.step.Step.TheVariants.{SyncFolder}
use Rattle.cml_store.specs.Exchange.{Holder, Old, Either, New, holder, covers, begun_at, ended_at, cancelled_at}
use Rattle.cml_store.specs.Machine.{State, is_open, syncing_of}
use Rattle.cml_store.specs.Pair.{Pair, Happening, OnOld, OnNew, BeginsMove, EndsMove, Cancels, Reopens, is_crash, found_by, opened_at, opened_by, crossing, IsNext, IsCopied, after_pair, MayBe, run_pair, MayRunPair, pair_of}
use Rattle.cml_store.specs.Texts.{IsFrontOf}
use Rattle.cml_store.specs.World.{World, Event, Accepts, BeginsStore, BeginsGrowth, EndsStore, BeginsSync, EndsSync, Forgets, IsKilled, LosesPower, text_over, accepts_at, after, MayHappen}
use Rattle.cml_store.proofs.Holds.{clash, Holds, closed_at}
use Rattle.cml_store.proofs.Keeping.{take_take}
use Rattle.cml_store.proofs.Names.{Fits, HasHolder, has, fits_opened, fits_begun, fits_ended, fits_given, fits_found}
use Rattle.cml_store.proofs.Openings.{begins_well}
use Rattle.cml_store.proofs.Reaching.{told}
use Rattle.cml_store.proofs.Running.{runs, Grows, grows}
use Rattle.cml_store.proofs.Runs.{Stays, all_through, synced_through}

-- of a front a shorter one, and more behind
cut_front : (k : ℕ) (text all : List ℕ) → IsFrontOf text all → IsFrontOf (take k text) all
cut_front k text all f =
    (drop k text ++ f.0, f.1 ∙ ap (λ t. t ++ f.0) (sym (take-append-drop k text)) ∙ append_assoc (take k text) (drop k text) f.0)

text_front : (step : Step) (done : Bool) (s : State) (text all : List ℕ) → IsFrontOf text all
    → IsFrontOf (text_over step done s text) all
text_front SyncFolder true s text all f = cut_front s.accepted text all f
text_front step done s text all f = f

accept_front : (b : Bool) (piece : List ℕ) (w : World) (all : List ℕ) → IsFrontOf w.text all → IsFrontOf (w.text ++ piece) all
    → IsFrontOf (accepts_at b piece w).text all
accept_front true piece w all f g = g
accept_front false piece w all f g = f

-- what is taken of a front is a first part, and some of the rest
pub taken_front : (m : ℕ) (first rest text tail : List ℕ) → first ++ rest ≡ text ++ tail → length first ≤ m → m ≤ length text
    → take m text ≡ first ++ take (m - length first) rest
taken_front m first rest text tail is low high =
    let sum : length first + (m - length first) ≡ m = omega (arith, low) in
    sym (take-append-le m text tail high) ∙ ap (take m) (sym is) ∙ ap (λ k. take k (first ++ rest)) (sym sum)
    ∙ take-append-add first rest (m - length first)

module _ (whole front : List ℕ → Bool) (limit growth : ℕ) (long short : List ℕ) (none : whole [] ≡ true) where
  abbrev Next : World → Event → World
  Next w event = after whole front limit growth w event

  -- the new file has a front of the short text and what follows the long one
  pub record Joined (old new : World) : Type 0 where
    pub running : runs old.store.stage ≡ true
    pub rest : List ℕ
    pub begins : old.text ≡ long ++ rest
    pub goes : IsFrontOf new.text (short ++ rest)

  -- it has at least the short text on the disk
  pub record Covered (old new : World) : Type 0 where
    pub joined : Joined old new
    pub high : length short ≤ new.synced

  pub record Crossed (new : World) : Type 0 where
    pub high : length short ≤ new.synced
    pub begins : take (length short) new.text ≡ short

  abbrev pub AtWay : Way → World → World → Type 0
  AtWay Beside old new = Joined old new
  AtWay Renaming old new = Covered old new
  AtWay Renamed old new = Covered old new
  AtWay Naming old new = Covered old new
  AtWay Over old new = Crossed new
  AtWay Left old new = Unit {0}
  AtWay Lost old new = Covered old new

  pub record PairHolds (p : Pair) : Type 0 where
    pub old : Holds limit whole p.old
    pub new : Holds limit whole p.new
    pub at : AtWay p.way p.old p.new
    pub fits : Fits p.way p.name

  holds_next : (w : World) (event : Event) → Holds limit whole w → MayHappen whole front limit growth w event
      → Holds limit whole (Next w event)
  holds_next w event h may = all_through limit whole front growth none w (event ∷ []) h (may, tt)

  pub stays_next : (w : World) (event : Event) → Holds limit whole w → MayHappen whole front limit growth w event
      → Stays w.synced (Next w event).synced w.text (Next w event).text
  stays_next w event h may = synced_through limit whole front growth none w (event ∷ []) h (may, tt)

  -- ---- the old file ----

  joined_old : (old v new : World) → Joined old new → Grows old v → Joined v new
  joined_old old v new j g = record {
    running = g.running;
    rest = j.rest ++ g.more;
    begins = g.text ∙ ap (λ t. t ++ g.more) j.begins ∙ append_assoc long j.rest g.more;
    goes = (
      j.goes.0 ++ g.more,
      sym (append_assoc short j.rest g.more) ∙ ap (λ t. t ++ g.more) j.goes.1 ∙ append_assoc new.text j.goes.0 g.more,
    );
  }

  covered_old : (old v new : World) → Covered old new → Grows old v → Covered v new
  covered_old old v new c g = record { joined = joined_old old v new c.joined g; high = c.high }

  on_old : (way : Way) (old new : World) (event : Event) → is_crash event ≡ false → AtWay way old new
      → AtWay way (Next old event) new
  on_old Beside old new event e j = joined_old old (Next old event) new j (grows whole front limit growth old event j.running e)
  on_old Renaming old new event e c =
      covered_old old (Next old event) new c (grows whole front limit growth old event c.joined.running e)
  on_old Renamed old new event e c =
      covered_old old (Next old event) new c (grows whole front limit growth old event c.joined.running e)
  on_old Naming old new event e c =
      covered_old old (Next old event) new c (grows whole front limit growth old event c.joined.running e)
  on_old Over old new event e c = c
  on_old Left old new event e c = tt
  on_old Lost old new event e c =
      covered_old old (Next old event) new c (grows whole front limit growth old event c.joined.running e)

  -- ---- the new file ----

  next_front : (w : World) (old all : List ℕ) (event : Event) → short ++ drop (length long) old ≡ all → is_crash event ≡ false
      → IsNext long short old w.text event → IsFrontOf w.text all → IsFrontOf (Next w event).text all
  next_front w old all (Accepts piece) is e next f =
      accept_front (is_open w.store.stage) piece w all f (subst (λ x. IsFrontOf (w.text ++ piece) x) is next)
  next_front w old all (BeginsStore closing) is e next f = f
  next_front w old all (BeginsGrowth to) is e next f = f
  next_front w old all (EndsStore done seen then) is e next f = f
  next_front w old all BeginsSync is e next f = f
  next_front w old all (EndsSync done seen then) is e next f = text_front (syncing_of w.store) done w.store w.text all f
  next_front w old all (Forgets seen then) is e next f = f
  next_front w old all (IsKilled c then) is e next f = absurd (clash (sym e))
  next_front w old all (LosesPower c) is e next f = absurd (clash (sym e))

  joined_new : (old new : World) (event : Event) → is_crash event ≡ false → IsNext long short old.text new.text event
      → Joined old new → Joined old (Next new event)
  joined_new old new event e next j = record {
    running = j.running;
    rest = j.rest;
    begins = j.begins;
    goes = next_front new old.text (short ++ j.rest) event
        (ap (λ t. short ++ drop (length long) t) j.begins ∙ ap (λ t. short ++ t) (drop-append_seam long j.rest)) e next j.goes;
  }

  covered_new : (old new : World) (event : Event) → is_crash event ≡ false → IsNext long short old.text new.text event
      → Stays new.synced (Next new event).synced new.text (Next new event).text → Covered old new → Covered old (Next new event)
  covered_new old new event e next s c =
      record { joined = joined_new old new event e next c.joined; high = omega (arith, c.high, s.later) }

  -- the new file begins with the short text
  crossed : (old new : World) → Holds limit whole new → Covered old new → Crossed new
  crossed old new h c =
      let m = (closed_at limit whole new.store.stage new h).marks in
      let j = c.joined in
      let low : length short ≤ length new.text = omega (arith, c.high, m.order, m.within) in
      record {
        high = c.high;
        begins = sym (take-append-le (length short) new.text j.goes.0 low) ∙ ap (take (length short)) (sym j.goes.1)
            ∙ take-append_seam short j.rest;
      }

  -- and goes on doing so
  crossed_more : (w v : World) → Stays w.synced v.synced w.text v.text → Crossed w → Crossed v
  crossed_more w v s c = record {
    high = omega (arith, c.high, s.later);
    begins = sym (take_take (length short) w.synced v.text c.high) ∙ ap (take (length short)) s.same
        ∙ take_take (length short) w.synced w.text c.high ∙ c.begins;
  }

  opened_new : (step : Step) (event : Event) (old new : World) → Covered old new → Crossed new
      → AtWay (opened_at step event) old new
  opened_new SyncFolder (EndsSync true seen next) old new c d = d
  opened_new step event old new c d = c

  on_new : (way : Way) (old new : World) (event : Event) → is_crash event ≡ false
      → IsCopied long short (holder way) old.text new.text event
      → MayHappen whole front limit growth new event → Holds limit whole new → AtWay way old new
      → AtWay (opened_by way (syncing_of new.store) event) old (Next new event)
  on_new Beside old new event e next may h j = joined_new old new event e next j
  on_new Renaming old new event e next may h c = covered_new old new event e next (stays_next new event h may) c
  on_new Renamed old new event e next may h c = covered_new old new event e next (stays_next new event h may) c
  on_new Naming old new event e next may h c = covered_new old new event e next (stays_next new event h may) c
  on_new Over old new event e next may h c = crossed_more new (Next new event) (stays_next new event h may) c
  on_new Left old new event e next may h c = tt
  on_new Lost old new event e next may h c =
      let d = covered_new old new event e next (stays_next new event h may) c in
      opened_new (syncing_of new.store) event old (Next new event) d
      (crossed old (Next new event) (holds_next new event h may) d)

  -- ---- the exchange ----

  -- a file that is renamed has the short text on the disk
  covers_short : (way : Way) (old new : World) → Holds limit whole new
      → covers (crossing long short way) old.store new.store ≡ true → length short ≤ new.synced
  covers_short way old new h e =
      let open_parts = and_parts (is_open old.store.stage && is_open new.store.stage) _ e in
      let is_open_new = (and_parts (is_open old.store.stage) (is_open new.store.stage) open_parts.0).1 in
      let low = leb-true (length short) new.store.synced (and_parts (nat_le (length short) new.store.synced) _ open_parts.1).0 in
      omega (arith, low, (told limit whole new.store.stage new h is_open_new).0)

  begins : (way : Way) (b : Bool) (old new : World) → (b ≡ true → length short ≤ new.synced) → AtWay way old new
      → AtWay (begun_at way b) old new
  begins Beside true old new high j = record { joined = j; high = high refl }
  begins Beside false old new high j = j
  begins Renaming b old new high c = c
  begins Renamed b old new high c = c
  begins Naming b old new high c = c
  begins Over b old new high c = c
  begins Left b old new high c = tt
  begins Lost b old new high c = c

  ends : (way : Way) (done : Bool) (old new : World) → Holds limit whole new → AtWay way old new
      → AtWay (ended_at way done) old new
  ends Beside done old new h j = j
  ends Renaming true old new h c = c
  ends Renaming false old new h c = tt
  ends Renamed done old new h c = c
  ends Naming true old new h c = crossed old new h c
  ends Naming false old new h c = c
  ends Over done old new h c = c
  ends Left done old new h c = tt
  ends Lost done old new h c = c

  cancels : (way : Way) (old new : World) → AtWay way old new → AtWay (cancelled_at way) old new
  cancels Beside old new j = tt
  cancels Renaming old new c = c
  cancels Renamed old new c = c
  cancels Naming old new c = c
  cancels Over old new c = c
  cancels Left old new c = tt
  cancels Lost old new c = c

  -- ---- after a kill or a loss of power ----

  abbrev pub AtHolder : Holder → World → World → Type 0
  AtHolder Old old new = Unit {0}
  AtHolder Either old new = Covered old new
  AtHolder New old new = Crossed new

  pub at_holder : (way : Way) (old new : World) → AtWay way old new → AtHolder (holder way) old new
  at_holder Beside old new j = tt
  at_holder Renaming old new c = c
  at_holder Renamed old new c = c
  at_holder Naming old new c = c
  at_holder Over old new c = c
  at_holder Left old new c = tt
  at_holder Lost old new c = c

  finds_new : (h : Holder) (old new : World) (event : Event) → is_crash event ≡ true → HasHolder h true
      → MayHappen whole front limit growth new event → Holds limit whole new → AtHolder h old new
      → AtWay (found_by event h) old (Next new event)
  finds_new Old old new event e has may holds c = absurd has
  finds_new Either old new (IsKilled d next) e has may holds c = record {
    joined = record { running = c.joined.running; rest = c.joined.rest; begins = c.joined.begins; goes = c.joined.goes };
    high = c.high;
  }
  finds_new Either old new (LosesPower d) e has may holds c =
      crossed_more new (Next new (LosesPower d)) (stays_next new (LosesPower d) holds may) (crossed old new holds c)
  finds_new Either old new event e has may holds c = absurd (clash e)
  finds_new New old new (IsKilled d next) e has may holds c =
      crossed_more new (Next new (IsKilled d next)) (stays_next new (IsKilled d next) holds may) c
  finds_new New old new (LosesPower d) e has may holds c =
      crossed_more new (Next new (LosesPower d)) (stays_next new (LosesPower d) holds may) c
  finds_new New old new event e has may holds c = absurd (clash e)

  reopens : (is_new : Bool) (event : Event) (p : Pair) → MayBe whole front limit growth long short p (Reopens is_new event)
      → PairHolds p → PairHolds (after_pair whole front limit growth long short p (Reopens is_new event))
  reopens false event p may h = record { old = holds_next p.old event h.old may.2; new = h.new; at = tt; fits = tt }
  reopens true event p may h = record {
    old = h.old;
    new = holds_next p.new event h.new may.2;
    at = finds_new (holder p.way) p.old p.new event may.0 (has p.way p.name true h.fits may.1) may.2 h.new
        (at_holder p.way p.old p.new h.at);
    fits = fits_found p.way event p.name may.0 h.fits may.1;
  }

  -- ---- all ----

  pub one_more : (p : Pair) (happening : Happening) → PairHolds p → MayBe whole front limit growth long short p happening
      → PairHolds (after_pair whole front limit growth long short p happening)
  one_more p (OnOld event) h may =
      record { old = holds_next p.old event h.old may.1; new = h.new; at = on_old p.way p.old p.new event may.0 h.at; fits = h.fits }
  one_more p (OnNew event) h may = record {
    old = h.old;
    new = holds_next p.new event h.new may.2;
    at = on_new p.way p.old p.new event may.0 may.1 may.2 h.new h.at;
    fits = fits_opened p.way (syncing_of p.new.store) event p.name h.fits;
  }
  one_more p BeginsMove h may = record {
    old = h.old;
    new = h.new;
    at = begins p.way (covers (crossing long short p.way) p.old.store p.new.store) p.old p.new
        (λ e. covers_short p.way p.old p.new h.new e) h.at;
    fits = fits_begun p.way (covers (crossing long short p.way) p.old.store p.new.store) p.name h.fits;
  }
  one_more p (EndsMove done) h may = record { old = h.old; new = h.new; at = ends p.way done p.old p.new h.new h.at; fits = fits_ended p.way done p.name h.fits }
  one_more p Cancels h may = record { old = h.old; new = h.new; at = cancels p.way p.old p.new h.at; fits = fits_given p.way p.name h.fits }
  one_more p (Reopens is_new event) h may = reopens is_new event p may h

  pub pair_through : (p : Pair) (happenings : List Happening) → PairHolds p
      → MayRunPair whole front limit growth long short p happenings
      → PairHolds (run_pair whole front limit growth long short p happenings)
  pair_through p [] h may = h
  pair_through p (happening ∷ happenings) h may =
      pair_through (after_pair whole front limit growth long short p happening) happenings (one_more p happening h may.0) may.1

  -- an exchange of an open file begins
  pub begins_well_beside : (w : World) (rest : List ℕ) → Holds limit whole w → w.text ≡ long ++ rest → w.store.stage ≡ Open
      → PairHolds (pair_of whole front limit growth long short w)
  begins_well_beside w rest h is is_open_old = record {
    old = h;
    new = begins_well limit whole front growth none;
    at = record { running = ap runs is_open_old; rest = rest; begins = is; goes = (short ++ rest, refl) };
    fits = tt;
  }
