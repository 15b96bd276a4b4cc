use Rattle.std.proofs.Common.{◌≡◌, ℕ, Bool, true, false, List, [], ◌∷◌, refl, sym, ◌∙◌, ap, subst, cond}
use Rattle.cml_store.specs.declared.stage.Stage.TheVariants.{Lost}
use Rattle.cml_store.specs.declared.step.Step.TheVariants.{Nothing}
use Rattle.cml_store.specs.Disk.{MayEnd}
use Rattle.cml_store.specs.Machine.{is_open, rests, storing_at, storing_of, syncing_at}
use Rattle.cml_store.specs.World.{World, Event, Accepts, BeginsStore, BeginsGrowth, EndsStore, BeginsSync, EndsSync, Forgets, IsKilled, LosesPower, IsInside, AllInside, store_started, sync_started, MaySync, accepts_at, begins_store, begins_growth, begins_sync, after, MayHappen, run, MayRun}
use Rattle.cml_store.proofs.laws.refused_is_untouched.Goals as goal

both : (b : Bool) → cond b Nothing Nothing ≡ Nothing
both true = refl
both false = refl

module _ (whole front : List ℕ → Bool) (limit growth : ℕ) where
  same : (w : World) (event : Event) → w.store.stage ≡ Lost → storing_of w.store ≡ Nothing → IsInside event
      → MayHappen whole front limit growth w event
      → after whole front limit growth w event ≡ w
  same w (Accepts piece) e none inside may = ap (λ z. accepts_at (is_open z) piece w) e
  same w (BeginsStore closing) e none inside may =
      ap (λ z. begins_store z closing growth w) e
      ∙ ap (λ step. record w { disk = store_started w.text (cond (rests (storing_at Lost w.store)) step Nothing) w.disk }) none
      ∙ ap (λ step. record w { disk = store_started w.text step w.disk }) (both (rests (storing_at Lost w.store)))
  same w (BeginsGrowth to) e none inside may =
      ap (λ z. begins_growth z to w) e
      ∙ ap (λ step. record w { disk = store_started w.text (cond (rests (storing_at Lost w.store)) step Nothing) w.disk }) none
      ∙ ap (λ step. record w { disk = store_started w.text step w.disk }) (both (rests (storing_at Lost w.store)))
  same w (EndsStore done seen next) e none inside may =
      absurd (subst (λ step. MayEnd w.text step done w.disk.seen seen) none may.0)
  same w BeginsSync e none inside may =
      ap (λ z. begins_sync z w) e
      ∙ ap (λ z. record w { disk = sync_started w.text (syncing_at z w.store) (storing_at Lost w.store) w.disk }) e
  same w (EndsSync done seen next) e none inside may =
      absurd (subst (λ z. MaySync (syncing_at z w.store) done seen next w.disk) e may)
  same w (Forgets seen next) e none inside may = absurd inside
  same w (IsKilled c next) e none inside may = absurd inside
  same w (LosesPower c) e none inside may = absurd inside

  untouched : (w : World) (events : List Event) → w.store.stage ≡ Lost → storing_of w.store ≡ Nothing → AllInside events
      → MayRun whole front limit growth w events → (run whole front limit growth w events).disk ≡ w.disk
  untouched w [] e none inside may = refl
  untouched w (event ∷ events) e none inside may =
      let is = same w event e none inside.0 may.0 in
      subst (λ v. (run whole front limit growth v events).disk ≡ w.disk) (sym is)
      (untouched w events e none inside.1 (subst (λ v. MayRun whole front limit growth v events) is may.1))

pub returns : goal.returns
returns c whole front limit growth w events is_lost none inside may =
    untouched whole front limit growth w events is_lost none inside may
