-- What holds at the end of every run of an exchange.
use Rattle.std.proofs.Common.{◌≡◌, ℕ, Bool, true, false, List, [], ◌∷◌, ◌++◌, refl, sym, ◌∙◌, ap, subst}
use Rattle.cml_store.specs.declared.exchange.Way.TheVariants.{Left}
use Rattle.cml_store.specs.Exchange.{covers, begun_at, move_of, asked_at, ended_at, cancelled_at}
use Rattle.cml_store.specs.Machine.{syncing_of}
use Rattle.cml_store.specs.Pair.{Pair, IsOld, name_begun, name_ended, name_opened, Happening, OnOld, OnNew, BeginsMove, EndsMove, Cancels, Reopens, HasName, opened_by, crossing, after_pair, MayBe, run_pair, MayRunPair, pair_of, IsOfStore, IsReached}
use Rattle.cml_store.specs.World.{World, Event, after, MayHappen, fresh, run, MayRun}
use Rattle.cml_store.proofs.Holds.{Holds}
use Rattle.cml_store.proofs.Names.{still_old}
use Rattle.cml_store.proofs.Pairs.{PairHolds, begins_well_beside, pair_through}
use Rattle.cml_store.proofs.Reaching.{held}

module _ (whole front : List ℕ → Bool) (limit growth : ℕ) where
  run_more : (w : World) (events : List Event) (event : Event) → MayRun whole front limit growth w events
      → MayHappen whole front limit growth (run whole front limit growth w events) event
      → MayRun whole front limit growth w (events ++ (event ∷ []))
      × (run whole front limit growth w (events ++ (event ∷ []))
      ≡ after whole front limit growth (run whole front limit growth w events) event)
  run_more w [] event may also = ((also, tt), refl)
  run_more w (first ∷ events) event may also =
      let r = run_more (after whole front limit growth w first) events event may.1 also in ((may.0, r.0), r.1)

  store_more : (w : World) (event : Event) → IsOfStore whole front limit growth w → MayHappen whole front limit growth w event
      → IsOfStore whole front limit growth (after whole front limit growth w event)
  store_more w event s may =
      let r = run_more (fresh whole front limit growth) s.0 event s.1
      (subst (λ v. MayHappen whole front limit growth v event) (sym s.2) may) in
      (s.0 ++ (event ∷ []), r.0, r.1 ∙ ap (λ v. after whole front limit growth v event) s.2)

module _ (whole front : List ℕ → Bool) (limit growth : ℕ) (long short : List ℕ) where
  abbrev OfStores : Pair → Type 0
  OfStores p = IsOfStore whole front limit growth p.old × IsOfStore whole front limit growth p.new

  more_of : (p : Pair) (happening : Happening) → OfStores p → MayBe whole front limit growth long short p happening
      → OfStores (after_pair whole front limit growth long short p happening)
  more_of p (OnOld event) s may = (store_more whole front limit growth p.old event s.0 may.1, s.1)
  more_of p (OnNew event) s may = (s.0, store_more whole front limit growth p.new event s.1 may.2)
  more_of p BeginsMove s may = s
  more_of p (EndsMove done) s may = s
  more_of p Cancels s may = s
  more_of p (Reopens false event) s may = (store_more whole front limit growth p.old event s.0 may.2, s.1)
  more_of p (Reopens true event) s may = (s.0, store_more whole front limit growth p.new event s.1 may.2)

  all_of : (p : Pair) (happenings : List Happening) → OfStores p → MayRunPair whole front limit growth long short p happenings
      → OfStores (run_pair whole front limit growth long short p happenings)
  all_of p [] s may = s
  all_of p (happening ∷ happenings) s may =
      all_of (after_pair whole front limit growth long short p happening) happenings (more_of p happening s may.0) may.1

  pub of_stores : (p : Pair) → IsReached whole front limit growth long short p → OfStores p
  of_stores p r =
      subst (λ q. OfStores q) r.is
      (all_of (pair_of whole front limit growth long short r.begun) r.happenings (r.is_of_store, ([], tt, refl)) r.may)

  -- an exchange that was cancelled is not taken up again
  abbrev IsLeft : Pair → Type 0
  IsLeft p = (p.way ≡ Left) × (p.name ≡ IsOld)

  left_more : (p : Pair) (happening : Happening) → IsLeft p → MayBe whole front limit growth long short p happening
      → IsLeft (after_pair whole front limit growth long short p happening)
  left_more p (OnOld event) is may = is
  left_more p (OnNew event) is may = (
    ap (λ way. opened_by way (syncing_of p.new.store) event) is.0,
    ap (λ name. name_opened (syncing_of p.new.store) event name) is.1 ∙ still_old (syncing_of p.new.store) event,
  )
  left_more p BeginsMove is may =
      let covered = covers (crossing long short p.way) p.old.store p.new.store in
      (ap (λ way. begun_at way covered) is.0, ap (λ way. name_begun (asked_at way covered) p.name) is.0 ∙ is.1)
  left_more p (EndsMove done) is may =
      (ap (λ way. ended_at way done) is.0, ap (λ way. name_ended (move_of way) done p.name) is.0 ∙ is.1)
  left_more p Cancels is may = (ap cancelled_at is.0, is.1)
  left_more p (Reopens false event) is may = (refl, refl)
  left_more p (Reopens true event) is may = absurd (subst (λ name. HasName name true) is.1 may.1)

  pub stays_left : (p : Pair) (later : List Happening) → IsLeft p → MayRunPair whole front limit growth long short p later
      → IsLeft (run_pair whole front limit growth long short p later)
  stays_left p [] is may = is
  stays_left p (happening ∷ later) is may =
      stays_left (after_pair whole front limit growth long short p happening) later (left_more p happening is may.0) may.1

  pub reached : (none : whole [] ≡ true) (p : Pair) → IsReached whole front limit growth long short p
      → PairHolds whole front limit growth long short none p
  reached none p r =
      let start = pair_of whole front limit growth long short r.begun in
      let h : Holds limit whole r.begun =
      subst (λ w. Holds limit whole w) r.is_of_store.2 (held whole front limit growth r.is_of_store.0 none r.is_of_store.1) in
      subst (λ q. PairHolds whole front limit growth long short none q) r.is
      (pair_through whole front limit growth long short none start r.happenings
      (begins_well_beside whole front limit growth long short none r.begun r.rest h r.text r.is_open) r.may)
