use Rattle.std.proofs.Common.{◌≡◌, ◌⊎◌, inl, inr, ⊎_elim, ℕ, Bool, true, List, [], length, ◌∙◌, arith}
use Rattle.std.proofs.lemmas.List.{take_all}
use Rattle.cml_store.specs.Disk.{MayLeave}
use Rattle.cml_store.specs.Recovery.{recovered}
use Rattle.cml_store.specs.World.{Event, fresh, run, MayRun}
use Rattle.cml_store.proofs.Reaching.{closed, synced_within}
use Rattle.cml_store.proofs.Runs.{past}
use Rattle.cml_store.proofs.laws.either_will_do.Goals as goal

-- where all is synced, all is kept
all_kept : (whole front : List ℕ → Bool) (limit growth : ℕ) (events : List Event) → whole [] ≡ true
    → MayRun whole front limit growth (fresh whole front limit growth) events
    → let w = run whole front limit growth (fresh whole front limit growth) events in
    w.synced ≡ length w.text → (c : List ℕ) → MayLeave w.disk c → recovered whole c ≡ w.text
all_kept whole front limit growth events none may all c left =
    let w = run whole front limit growth (fresh whole front limit growth) events in
    let k = closed whole front limit growth events none may in
    let p = past limit whole front growth none w.synced w c k.marks (synced_within whole front limit growth events none may)
    k.marks.whole_synced (k.lasts c left) in
    p.3 ∙ take_all p.0 w.text (omega (arith, all, p.1))

pub returns : goal.returns
returns c whole front limit growth journal beside none may also quiet still left =
    let v = run whole front limit growth (fresh whole front limit growth) journal in
    let w = run whole front limit growth (fresh whole front limit growth) beside in
    λ (which : MayLeave v.disk left ⊎ MayLeave w.disk left).
    ⊎_elim
    (λ (a : MayLeave v.disk left). inl (all_kept whole front limit growth journal none may quiet left a))
    (λ (b : MayLeave w.disk left). inr (all_kept whole front limit growth beside none also still left b))
    which
