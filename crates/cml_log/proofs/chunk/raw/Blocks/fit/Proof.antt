-- `fit` reads off the blocks that a content fits in memory.
use Rattle.std.proofs.Common.{ℕ, ◌^◌, ◌<◌}
use prog.Memory.{size}
use Rattle.cml_log.proofs.WalksLemmas.{List, [], ◌∷◌, refl, raw, ‵, ◌⊛◌, ◌$◌, ◌∵◌, !, qed, by, keep, move, drop, split, fsplit, fjoin}
use Rattle.cml_log.proofs.WalksLemmas.{feq_i, use0, use1, emp, ftrue, fsep, flft, Fml, fact, fact_i, SProp, Val, vptr, vunit, a_type, named}
use Rattle.cml_log.proofs.WalksLemmas.{inst_fn, owns, types_at, enter, alloc_all, pass_all, free_all, look_at, sets, of_opd, unit_lit}
use Rattle.cml_log.proofs.WalksLemmas.{returns, nothing, heard, unhide, tables, proved, leaves, RattleType, param, layout, layouts, yes}
use Rattle.cml_log.proofs.WalksLemmas.{Stays, stay_dropped, plain, RefOf, Goes-dropped, walk_of, shr_vals, shr_Tells}
use Rattle.cml_log.proofs.BlockMemoryLemmas.{fits_seen}
use Rattle.cml_log.specs.contracts.chunk.raw.Blocks.{the_row}
use Rattle.cml_log.specs.contracts.chunk.raw.Blocks.fit as f
use Rattle.cml_log.proofs.chunk.raw.Blocks.fit.Statement.{statement}
use Rattle.cml_log.proofs.chunk.raw.Blocks.fit.Code as code

pub fit_spec : {M : Type 1} → statement M
fit_spec 𝓤 𝓛 𝓜 𝓡 wired X L =
    let 𝓣 = tables 𝓤 𝓛.H 𝓜 𝓡 𝓡.env in let R : RattleType = param 0 X in let En = f.ended X in let c = f.clauses X 𝓛 𝓜.mem 𝓡.returns in
    let inst = layouts (a_type ∷ []) (X, tt) in
    let fn = inst_fn inst code.function in
    let Row : RattleType = the_row R in
    let self = RefOf (0 ∷ []) tt (plain (λ _. Row)) (λ _. tt) in
    let hs : Stays En.signature.params En.kept = (stay_dropped self yes, tt) in
    proved 𝓛 En hs c 𝓜 𝓡 (Goes-dropped 𝓛 2 self yes (λ κs x w. refl), tt) (f.Key.name inst) fn (code.unfolded 𝓤 𝓛.H 𝓜 𝓡 wired (X, tt))
    (λ κs. (shr_vals, tt)) (λ κs. (shr_Tells (named 0) κs.0 Row, tt)) (λ κs qs bounds a gh are.
    let κ = κs.0 in
    let b = a.0.ref_ptr.0 in
    let o = a.0.ref_ptr.1 in
    let d : Row.Denot = a.0.now in
    let others : Fml = fsep (flft κs.1.0 qs.1.0) ftrue in
    let n : ℕ = size (layout R) in let Fits : Type 0 = n < 2 ^ 63 in
    let y : (walk_of 𝓛 En hs c).Ghost = ((κs, qs, bounds, a, (vptr b o ∷ [], tt)), gh) in
    let Post : Val → SProp 𝓤 = (walk_of 𝓛 En hs c).post y in
    qed 𝓛 (((‵ (flft κ qs.0) ⊛ ‵ others) ⊛ ‵ (owns (types_at En.signature.params κs) a y.0.4)) ∷ raw ((c κs a).requires gh) ∷ []) ∵
    keep ! (0 ∷ []) $
    split ! $ move ! (1 ∷ []) $ fsplit ! $ fsplit ! $ keep ! (1 ∷ 3 ∷ []) $ unhide ! $ fsplit ! $ drop ! $
    use1 𝓛 (raw (fact 𝓤 Fits)) (fits_seen R 𝓛 κ d.kept) $ heard ! Fits (λ below.
    -- [the tokens]
    enter ! 𝓣.C 𝓣.Λ fn (vptr b o ∷ []) Post $ alloc_all ! (λ l. pass_all ! refl ((tt, tt), tt) $
    sets ! (of_opd ! (unit_lit !)) refl (tt, tt) $ use0 𝓛 (raw (fact 𝓤 Fits)) (fact_i 𝓤 Fits (emp 𝓤) below) $
    feq_i ! (List Val) (vunit ∷ []) (vunit ∷ []) refl $ nothing ! $ nothing ! $ fjoin ! $
    returns ! (look_at ! 0 refl) $ free_all ! refl $ keep ! (3 ∷ 0 ∷ 1 ∷ 2 ∷ []) $ by ! (leaves 𝓛 En hs c y vunit tt (tt, tt) (tt, tt)))))
