use Rattle.std.proofs.Common.{◌≡◌, ◌⊎◌, inl, inr, ℕ, ◌≤◌, Bool, true, false, Option, Some, None, nat_lt, refl, ◌∙◌, ap, arith, cond}
use Rattle.std.proofs.lemmas.Bool.{ltb-false}
use Rattle.cml_store.specs.declared.stage.Stage.{Stage}
use Rattle.cml_store.specs.declared.stage.Stage.TheVariants.{Dirty, Trimming, Trimmed, Rewriting, Settling, Unnamed, Naming, Open, Lost}
use Rattle.cml_store.specs.declared.stage.Work.{Work}
use Rattle.cml_store.specs.declared.stage.Work.TheVariants.{Idle, Cutting, Growing, Storing}
use Rattle.cml_store.specs.declared.step.Step.TheVariants.{Nothing, Cut, Grow, Store, Sync, SyncFolder}
use Rattle.cml_store.specs.Machine.{State, rests, step_of, storing_at, storing_of, sync_of, syncing_at, syncing_of, work_begun, open_begun, store_asked_at, open_sync_begun, sync_asked_at}
use Rattle.cml_store.proofs.laws.it_goes_on.Goals as goal

cut_is : (to : ℕ) → Cut to ≡ Nothing → ⊥
cut_is to e = cc

grow_is : (to : ℕ) → Grow to ≡ Nothing → ⊥
grow_is to e = cc

store_is : (from to : ℕ) → Store from to ≡ Nothing → ⊥
store_is from to e = cc

sync_is : Sync ≡ Nothing → ⊥
sync_is e = cc

folder_is : SyncFolder ≡ Nothing → ⊥
folder_is e = cc

-- nothing is left to be stored
all_stored : (a b : Bool) (growth : ℕ) (s : State) → nat_lt s.stored s.accepted ≡ a
    → storing_of (work_begun a b false growth s) ≡ Nothing → s.accepted ≤ s.stored
all_stored true true growth s is none = absurd (grow_is _ none)
all_stored true false growth s is none = absurd (store_is _ _ none)
all_stored false b growth s is none = ltb-false s.stored s.accepted is

-- nothing is left to be synced
all_synced : (b : Bool) (s : State) → nat_lt s.synced s.stored ≡ b → syncing_of (open_sync_begun None b s) ≡ Nothing
    → s.stored ≤ s.synced
all_synced true s is none = absurd (sync_is none)
all_synced false s is none = ltb-false s.synced s.stored is

abbrev GoesOn : State → Type 0
GoesOn s =
    (rests (storing_of s) ≡ false) ⊎ (rests (syncing_of s) ≡ false) ⊎ (s.stage ≡ Lost) ⊎ ((s.stage ≡ Open) × (s.accepted ≤ s.synced))

works : (stage : Stage) (s : State) → s.stage ≡ stage → rests (storing_at stage s) ≡ false → GoesOn s
works stage s e busy = inl (ap (λ z. rests (storing_at z s)) e ∙ busy)

syncs : (stage : Stage) (s : State) → s.stage ≡ stage → rests (syncing_at stage s) ≡ false → GoesOn s
syncs stage s e busy = inr (inl (ap (λ z. rests (syncing_at z s)) e ∙ busy))

open_goes : (work : Work) (o : Option ℕ) (growth : ℕ) (s : State) → s.stage ≡ Open → s.work ≡ work → s.syncing ≡ o
    → cond (rests (step_of work s.stored)) (storing_of (open_begun work false growth s)) Nothing ≡ Nothing
    → cond (rests (sync_of o)) (syncing_of (open_sync_begun o (nat_lt s.synced s.stored) s)) Nothing ≡ Nothing → GoesOn s
open_goes (Cutting to) o growth s e i j none nor = works Open s e (ap (λ k. rests (step_of k s.stored)) i)
open_goes (Growing to) o growth s e i j none nor = works Open s e (ap (λ k. rests (step_of k s.stored)) i)
open_goes (Storing to) o growth s e i j none nor = works Open s e (ap (λ k. rests (step_of k s.stored)) i)
open_goes Idle (Some to) growth s e i j none nor = syncs Open s e (ap (λ k. rests (sync_of k)) j)
open_goes Idle None growth s e i j none nor =
    let stored = all_stored (nat_lt s.stored s.accepted) (nat_lt s.grown s.accepted) growth s refl none in
    let synced = all_synced (nat_lt s.synced s.stored) s refl nor in
    inr (inr (inr (e, omega (arith, stored, synced))))

trimmed_goes : (b : Bool) (s : State) → storing_of (record s { stage = cond b Rewriting Trimmed }) ≡ Nothing
    → syncing_of (record s { stage = cond b Trimmed Settling }) ≡ Nothing → ⊥
trimmed_goes true s none nor = store_is _ _ none
trimmed_goes false s none nor = sync_is nor

goes : (stage : Stage) (growth : ℕ) (s : State) → s.stage ≡ stage → store_asked_at stage false growth s ≡ Nothing
    → sync_asked_at stage s ≡ Nothing → GoesOn s
goes Dirty growth s e none nor = absurd (cut_is _ none)
goes Trimming growth s e none nor = works Trimming s e refl
goes Trimmed growth s e none nor = absurd (trimmed_goes (nat_lt s.stored s.accepted) s none nor)
goes Rewriting growth s e none nor = works Rewriting s e refl
goes Settling growth s e none nor = syncs Settling s e refl
goes Unnamed growth s e none nor = absurd (folder_is nor)
goes Naming growth s e none nor = syncs Naming s e refl
goes Open growth s e none nor = open_goes s.work s.syncing growth s e refl refl none nor
goes Lost growth s e none nor = inr (inr (inl e))

pub returns : goal.returns
returns c growth s none nor = goes s.stage growth s refl none nor
