-- `fits` compares the size, which is its own cap where it is small.
use Rattle.std.proofs.Common.{ℕ, ◌^◌, ◌<◌, Bool, true, ltb, ltb-true, lit<, arith}
use Rattle.cml_log.proofs.WalksLemmas.{List, [], ◌∷◌, ◌≡◌, refl, raw, ‵, ◌⊛◌, ◌$◌, ◌∵◌, !, qed, by, keep, split, use0, feq_i, emp}
use Rattle.cml_log.proofs.WalksLemmas.{ftrue, fact, fact_i, SProp, Val, a_type, inst_fn, enter, alloc_all, pass_all, free_all, look_at}
use Rattle.cml_log.proofs.WalksLemmas.{sets, returns, nothing, tables, proved, leaves, layout, layouts, walk_of, w64}
use mir.Val.{vbool, vint}
use base.Logic.{via, guard_i}
use prog.Memory.{size, capped}
use prog.Capped.{capped_small}
use types.Run.{bin, size_word}
use denote.Triple.Entry.{alive}
use Rattle.cml_log.specs.contracts.chunk.raw.fits as f
use Rattle.cml_log.proofs.chunk.raw.fits.Statement.{statement}
use Rattle.cml_log.proofs.chunk.raw.fits.Code as code

pub fits_spec : {M : Type 1} → statement M
fits_spec 𝓤 𝓛 𝓜 𝓡 wired X L =
    let 𝓣 = tables 𝓤 𝓛.H 𝓜 𝓡 𝓡.env in
    let En = f.ended X in
    let c = f.clauses X 𝓛 𝓜.mem 𝓡.returns in
    let inst = layouts (a_type ∷ []) (X, tt) in
    let fn = inst_fn inst code.function in
    proved 𝓛 En tt c 𝓜 𝓡 tt (f.Key.name inst) fn (code.unfolded 𝓤 𝓛.H 𝓜 𝓡 wired (X, tt)) (λ κs. tt) (λ κs. tt) (λ κs qs bounds a gh are.
    let y : (walk_of 𝓛 En tt c).Ghost = ((κs, qs, bounds, a, tt), gh) in let Post : Val → SProp 𝓤 = (walk_of 𝓛 En tt c).post y in
    qed 𝓛 ((raw (alive 𝓛 En.signature κs qs) ⊛ ‵ ftrue) ∷ raw ((c κs a).requires gh) ∷ []) ∵ split ! $ keep ! (0 ∷ []) $
    enter ! 𝓣.C 𝓣.Λ fn [] Post $ alloc_all ! (λ l. pass_all ! refl tt $
    let n : ℕ = size (layout X) in let r : Bool = ltb (capped n) 9223372036854775808 in let Told : Type 0 = r ≡ true → n < 2 ^ 63 in
    sets ! (bin ! (size_word !) (record {
      go = λ Kt h. via 𝓤 _ h (guard_i 𝓤 _ (Kt (vint w64 9223372036854775808)) (record { fits = lit< tt }));
    }) tt) refl (tt, tt) $
    use0 𝓛 (raw (fact 𝓤 Told))
    (fact_i 𝓤 Told (emp 𝓤) (λ e. let low : capped n < 9223372036854775808 = ltb-true _ _ e in capped_small n (omega (arith, low)))) $
    feq_i ! (List Val) (vbool r ∷ []) (vbool r ∷ []) refl $ nothing ! $
    returns ! (look_at ! 0 refl) $ free_all ! refl $ keep ! (3 ∷ 0 ∷ 1 ∷ 2 ∷ []) $ by ! (leaves 𝓛 En tt c y (vbool r) r tt tt)))
