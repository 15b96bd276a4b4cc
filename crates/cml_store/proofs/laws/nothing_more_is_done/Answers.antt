use Rattle.std.proofs.Common.{◌≡◌, refl, ◌∙◌, ap, cond}
use Rattle.cml_store.specs.declared.step.Step.{Step}
use Rattle.cml_store.specs.declared.step.Step.TheVariants.{Nothing, Cut, Grow, Store, Sync, SyncFolder}
use Rattle.cml_store.specs.Machine.{is_open, rests, storing_of, storing_begun_at, syncing_of, syncing_begun_at, syncing_ended_at}
use Rattle.cml_store.proofs.laws.nothing_more_is_done.Goals as goal

resting : (step : Step) → cond (rests step) step Nothing ≡ Nothing
resting Nothing = refl
resting (Cut to) = refl
resting (Grow to) = refl
resting (Store from to) = refl
resting Sync = refl
resting SyncFolder = refl

pub returns : goal.returns
returns c closing growth s is_lost =
    let store = ap (λ z. storing_begun_at z closing growth s) is_lost in
    let sync = ap (λ z. syncing_begun_at z s) is_lost in (
      ap is_open is_lost,
      ap (λ t. cond (rests (storing_of s)) (storing_of t) Nothing) store ∙ resting (storing_of s),
      store,
      ap (λ t. cond (rests (syncing_of s)) (syncing_of t) Nothing) sync ∙ resting (syncing_of s),
      sync,
      λ done. ap (λ z. syncing_ended_at z done s) is_lost,
    )
