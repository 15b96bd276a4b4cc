-- `new` makes a value of no bytes, which owns no block, and the fact that a content fits in memory.
use Rattle.std.proofs.Common.{ℕ, ◌^◌, ◌<◌}
use prog.Memory.{size}
use Rattle.cml_log.proofs.WalksLemmas.{[], ◌∷◌, ◌≡◌, refl, heard, flt_i, layout, raw, ‵, ◌⊛◌, ◌$◌, ◌∵◌, !, qed, by, keep}
use Rattle.cml_log.proofs.WalksLemmas.{split, fjoin, use0, emp, ftrue, flft, fact, fact_i, a_type, inst_fn, enter, alloc_all}
use Rattle.cml_log.proofs.WalksLemmas.{pass_all, free_all, look_at, get, sets, agg, no_more, and_then, returns, nothing}
use Rattle.cml_log.proofs.WalksLemmas.{tables, proved, leaves, RattleType, param, layouts}
use Rattle.cml_log.proofs.BlockValuesLemmas.{mark, Marking, marking_made}
use Rattle.cml_log.specs.contracts.chunk.raw.Blocks.{the_row}
use Rattle.cml_log.specs.contracts.chunk.raw.Blocks.new as f
use Rattle.cml_log.proofs.chunk.raw.Blocks.new.Statement.{statement}
use Rattle.cml_log.proofs.chunk.raw.Blocks.new.Code as code

pub new_spec : {M : Type 1} → statement M
new_spec 𝓤 𝓛 𝓜 𝓡 wired X L =
    let 𝓣 = tables 𝓤 𝓛.H 𝓜 𝓡 𝓡.env in
    let R : RattleType = param 0 X in
    let c = f.clauses X 𝓛 𝓜.mem 𝓡.returns in
    let inst = layouts (a_type ∷ []) (X, tt) in
    let fn = inst_fn inst code.function in
    let bare : (the_row R).Denot = record { mark = record {}; kept = [] } in
    proved 𝓛 (f.ended X) tt c 𝓜 𝓡 tt (f.Key.name inst) fn (code.unfolded 𝓤 𝓛.H 𝓜 𝓡 wired (X, tt)) (λ κs. tt)
    (λ κs. tt) (λ κs qs bounds a gh are.
    let n : ℕ = size (layout R) in let Fits : Type 0 = n < 2 ^ 63 in
    qed 𝓛 (((‵ (flft κs.0 qs.0) ⊛ ‵ ftrue) ⊛ ‵ ftrue) ∷ raw (fact 𝓤 _) ∷ raw (fact 𝓤 Fits) ∷ []) ∵ keep ! (2 ∷ 0 ∷ []) $
    heard ! Fits (λ below. split ! $ keep ! (0 ∷ []) $
    enter ! 𝓣.C 𝓣.Λ fn [] _ $ alloc_all ! (λ l. pass_all ! refl tt $
    sets ! (agg ! (no_more !)) refl (tt, tt) $ sets ! (agg ! (and_then ! (get ! refl) (no_more !))) refl (tt, (tt, tt)) $
    flt_i ! n (2 ^ 63) below $ use0 𝓛 (‵ ((Marking R).own_val (tt, tt) (mark ∷ []))) (marking_made R 𝓛) $ fjoin ! $
    use0 𝓛 (raw (fact 𝓤 (bare.kept ≡ []))) (fact_i 𝓤 (bare.kept ≡ []) (emp 𝓤) refl) $ nothing ! $
    returns ! (look_at ! 0 refl) $ free_all ! refl $ keep ! (3 ∷ 0 ∷ 2 ∷ 1 ∷ []) $
    by ! (leaves 𝓛 (f.ended X) tt c ((κs, qs, bounds, a, tt), gh) mark bare tt tt))))
