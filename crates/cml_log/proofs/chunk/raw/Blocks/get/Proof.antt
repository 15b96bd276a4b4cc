-- `get` lends one content for as long as the blocks are lent.
use Rattle.cml_log.proofs.WalksLemmas.{List, [], ◌∷◌, ◌≡◌, refl, Option, Some, None, slice_index_or, raw, ‵, ◌⊛◌, ◌$◌, ◌∵◌, !, at_ret}
use Rattle.cml_log.proofs.WalksLemmas.{qed, by, keep, move, drop, split, fsplit, fjoin, feq_i, use0, use1, rewrite, emp, ftrue, fsep}
use Rattle.cml_log.proofs.WalksLemmas.{fat, flft, Fml, full_share, fact, fact_i, SProp, Val, vptr, a_type, named, inst_fn, owns}
use Rattle.cml_log.proofs.WalksLemmas.{types_at, enter, alloc_all, pass_all, free_all, look_at, get, get_in, through, sets, sets_last}
use Rattle.cml_log.proofs.WalksLemmas.{take_at, give_at, of_opd, addr, fld, stop, sub, whole, first, blocks, exec, env, tail, returns}
use Rattle.cml_log.proofs.WalksLemmas.{nothing, heard, hide, unhide, tables, proved, leaves, RattleType, param, layout, layouts, yes}
use Rattle.cml_log.proofs.WalksLemmas.{Stays, stay_dropped, plain, RefOf, Goes-dropped, walk_of, shr_vals, shr_Tells, in_block_says}
use Rattle.cml_log.proofs.WalksLemmas.{Ptr, InBlock, block_of, count_of, at_block, IsKept, block_at, block_lent}
use Rattle.cml_log.proofs.BlockMemoryLemmas.{block_seen}
use Rattle.cml_log.proofs.chunk.raw.Address.TheLaws as address_laws
use Rattle.cml_log.specs.contracts.chunk.raw.Address.{the_row as Address}
use Rattle.cml_log.specs.contracts.chunk.raw.Blocks.{the_row}
use Rattle.cml_log.specs.contracts.chunk.raw.Blocks.get as f
use Rattle.cml_log.proofs.chunk.raw.Blocks.get.Statement.{statement}
use Rattle.cml_log.proofs.chunk.raw.Blocks.get.Code as code

pub get_spec : {M : Type 1} → statement M
get_spec 𝓤 𝓛 𝓜 𝓡 wired X L =
    let 𝓣 = tables 𝓤 𝓛.H 𝓜 𝓡 𝓡.env in let R : RattleType = param 0 X in let En = f.ended X in let c = f.clauses X 𝓛 𝓜.mem 𝓡.returns in
    let inst = layouts (a_type ∷ []) (X, tt) in
    let fn = inst_fn inst code.function in
    let Row : RattleType = the_row R in
    let self = RefOf (0 ∷ []) tt (plain (λ _. Row)) (λ _. tt) in
    let hs : Stays En.signature.params En.kept = (stay_dropped self yes, (stay_dropped (plain (λ _. Address)) yes, tt)) in
    proved 𝓛 En hs c 𝓜 𝓡 (Goes-dropped 𝓛 2 self yes (λ κs x w. refl), (Goes-dropped 𝓛 2 (plain (λ _. Address)) yes (λ κs x w. refl), tt))
    (f.Key.name inst) fn (code.unfolded 𝓤 𝓛.H 𝓜 𝓡 wired (X, tt))
    (λ κs. (shr_vals, ((λ d. address_laws.lowered d ∷ []), tt)))
    (λ κs. (shr_Tells (named 0) κs.0 Row, (address_laws.lowers.val_is, tt))) (λ κs qs bounds a gh are.
    let κ = κs.0 in
    let b = a.0.ref_ptr.0 in
    let o = a.0.ref_ptr.1 in
    let d : Row.Denot = a.0.now in
    let address = a.1.0 in
    let others : Fml = fsep (flft κs.1.0 qs.1.0) ftrue in
    let at : Ptr = address.at in
    let n = address.number in
    let Asked : Type 0 = IsKept d.kept n at in
    let w : Val = address_laws.lowered address in
    let pb = block_of at in let po = count_of at in let there : Val = vptr pb po in
    let y : (walk_of 𝓛 En hs c).Ghost = ((κs, qs, bounds, a, (vptr b o ∷ [], (w ∷ [], tt))), gh) in
    let Post : Val → SProp 𝓤 = (walk_of 𝓛 En hs c).post y in
    qed 𝓛 (((‵ (flft κ qs.0) ⊛ ‵ others) ⊛ ‵ (owns (types_at En.signature.params κs) a y.0.4)) ∷ raw (fact 𝓤 _) ∷ raw (fact 𝓤 Asked) ∷ []) ∵
    keep ! (2 ∷ 0 ∷ []) $ heard ! Asked (λ asked. let content_is : Type 0 = block_at d.kept n ≡ Some (at, asked.0) in
    split ! $ move ! (1 ∷ []) $ fsplit ! $ fsplit ! $ keep ! (1 ∷ 3 ∷ []) $ unhide ! $ fsplit ! $ drop ! $
    use1 𝓛 (‵ (block_lent R (slice_index_or d.kept n None) κ)) (block_seen R 𝓛 κ d.kept n) $
    rewrite ! 0 (λ (slot : Option (Ptr × X.Denot)). ‵ (block_lent R slot κ)) asked.1 refl $
    fsplit ! $ use1 𝓛 (raw (fact 𝓤 (InBlock at))) (in_block_says 𝓛 at) $ heard ! (InBlock at) (λ inside. hide ! $
    -- [a `&` to the content; the tokens]
    enter ! 𝓣.C 𝓣.Λ fn (vptr b o ∷ w ∷ []) Post $
    alloc_all ! (λ l. pass_all ! refl ((tt, tt), (((address_laws.the_row_laws.lawful 𝓛).typed address (w ∷ []) are.1.0).0, tt)) $
    take_at ! 2 $ rewrite ! 0 (λ (p : Ptr). ‵ (fat full_share (layout Address) (l 2) 0 (address_laws.lowered (record address { at = p }))))
    (at_block at inside) refl $ give_at ! 2 $
    first ! $ blocks ! $ sets ! (of_opd ! (get_in ! (fld ! refl (stop !)) (sub ! 0 refl (whole !)))) refl (tt, tt) $
    sets_last ! (addr ! (through ! refl (stop !))) refl (tt, tt) $ exec ! 𝓣.C 𝓣.Λ (env fn.locals l) (tail fn.body) (at_ret _ Post) $
    sets ! (of_opd ! (get ! refl)) refl (tt, tt) $
    feq_i ! (List Val) (there ∷ []) (there ∷ []) refl $ fjoin ! $ use0 𝓛 (raw (fact 𝓤 content_is)) (fact_i 𝓤 content_is (emp 𝓤) asked.1) $
    nothing ! $ nothing ! $ fjoin ! $ nothing ! $ fjoin ! $
    returns ! (look_at ! 0 refl) $ free_all ! refl $ keep ! (3 ∷ 0 ∷ 2 ∷ 1 ∷ []) $
    by ! (leaves 𝓛 En hs c y there (record { ref_ptr = (pb, po); now = asked.0 }) (tt, (tt, tt)) (tt, (tt, tt)))))))
