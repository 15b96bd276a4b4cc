-- `of` makes a value of no bytes, for the item that it is shown.
use Rattle.cml_log.proofs.WalksLemmas.{[], ◌∷◌, ◌≡◌, refl, raw, ‵, ◌⊛◌, ◌$◌, ◌∵◌, !, qed, by, keep, split, fjoin}
use Rattle.cml_log.proofs.WalksLemmas.{use0, emp, ftrue, fsep, flft, Fml, fact, fact_i, SProp, Val, vptr, a_type, named}
use Rattle.cml_log.proofs.WalksLemmas.{inst_fn, owns, types_at, enter, alloc_all, pass_all, free_all, look_at, get, sets, agg, no_more}
use Rattle.cml_log.proofs.WalksLemmas.{and_then, returns, nothing, tables, proved, leaves, RattleType, param, layouts, yes}
use Rattle.cml_log.proofs.WalksLemmas.{Stays, stay_dropped, plain, RefOf, Goes-dropped, walk_of, shr_vals, shr_Tells}
use Rattle.cml_log.proofs.BlockValuesLemmas.{mark, Leaving, leaving_made}
use Rattle.cml_log.specs.contracts.row.gone.Gone.{the_row}
use Rattle.cml_log.specs.contracts.row.gone.Gone.of as f
use Rattle.cml_log.proofs.row.gone.Gone.of.Statement.{statement}
use Rattle.cml_log.proofs.row.gone.Gone.of.Code as code

pub of_spec : {M : Type 1} → statement M
of_spec 𝓤 𝓛 𝓜 𝓡 wired X L =
    let 𝓣 = tables 𝓤 𝓛.H 𝓜 𝓡 𝓡.env in let R : RattleType = param 0 X in let En = f.ended X in let c = f.clauses X 𝓛 𝓜.mem 𝓡.returns in
    let inst = layouts (a_type ∷ []) (X, tt) in
    let fn = inst_fn inst code.function in
    let shown = RefOf (0 ∷ []) tt (plain (λ _. R)) (λ _. tt) in
    let hs : Stays En.signature.params En.kept = (stay_dropped shown yes, tt) in
    proved 𝓛 En hs c 𝓜 𝓡 (Goes-dropped 𝓛 2 shown yes (λ κs x w. refl), tt) (f.Key.name inst) fn (code.unfolded 𝓤 𝓛.H 𝓜 𝓡 wired (X, tt))
    (λ κs. (shr_vals, tt)) (λ κs. (shr_Tells (named 0) κs.0 R, tt)) (λ κs qs bounds a gh are.
    let κ = κs.0 in
    let b = a.0.ref_ptr.0 in
    let o = a.0.ref_ptr.1 in
    let others : Fml = fsep (flft κs.1.0 qs.1.0) ftrue in
    let gone : (the_row R).Denot = record { mark = record {}; item = a.0.now } in
    let Is : Type 0 = gone.item ≡ a.0.now in
    let y : (walk_of 𝓛 En hs c).Ghost = ((κs, qs, bounds, a, (vptr b o ∷ [], tt)), gh) in
    let Post : Val → SProp 𝓤 = (walk_of 𝓛 En hs c).post y in
    qed 𝓛 (((‵ (flft κ qs.0) ⊛ ‵ others) ⊛ ‵ (owns (types_at En.signature.params κs) a y.0.4)) ∷ raw ((c κs a).requires gh) ∷ []) ∵
    keep ! (0 ∷ []) $ split ! $ keep ! (0 ∷ []) $
    -- [the tokens]
    enter ! 𝓣.C 𝓣.Λ fn (vptr b o ∷ []) Post $ alloc_all ! (λ l. pass_all ! refl ((tt, tt), tt) $
    sets ! (agg ! (no_more !)) refl (tt, tt) $ sets ! (agg ! (and_then ! (get ! refl) (no_more !))) refl (tt, (tt, tt)) $
    nothing ! $ use0 𝓛 (‵ ((Leaving R).own_val (tt, tt) (mark ∷ []))) (leaving_made R 𝓛) $ fjoin ! $
    use0 𝓛 (raw (fact 𝓤 Is)) (fact_i 𝓤 Is (emp 𝓤) refl) $ nothing ! $ nothing ! $ fjoin ! $
    returns ! (look_at ! 0 refl) $ free_all ! refl $ keep ! (3 ∷ 0 ∷ 2 ∷ 1 ∷ []) $
    by ! (leaves 𝓛 En hs c y mark gone (tt, tt) (tt, tt))))
