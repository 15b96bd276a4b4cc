-- `take` cuts the right out of the blocks.
use Rattle.cml_log.proofs.WalksLemmas.{List, [], ◌∷◌, ◌≡◌, refl, Option, Some, None, slice_index_or, slice_set, raw, ‵, ◌⊛◌, ◌$◌, ◌∵◌, ! }
use Rattle.cml_log.proofs.WalksLemmas.{qed, by, keep, move, split, join, fsplit, fsplit3, fjoin, fjoin3, feq_i, use0, use1, rewrite, emp}
use Rattle.cml_log.proofs.WalksLemmas.{ftrue, fsep, flft, Fml, fact, fact_i, SProp, Val, vptr, a_type, named, inst_fn, owns, types_at}
use Rattle.cml_log.proofs.WalksLemmas.{enter, alloc_all, pass_all, free_all, look_at, get, get_in, sets, of_opd, fld, stop, sub, whole}
use Rattle.cml_log.proofs.WalksLemmas.{agg, no_more, and_then, returns, nothing, heard, opens, closes, tables, proved, leaves, RattleType}
use Rattle.cml_log.proofs.WalksLemmas.{param, layouts, yes, Stays, stay_ref, stay_dropped, plain, Goes-ref, Goes-dropped, walk_of, mut_vals}
use Rattle.cml_log.proofs.WalksLemmas.{mut_Tells, Ptr, Ptr-Good, word, word-Good, IsKept, block_at, block_owns, blocks_own}
use Rattle.cml_log.proofs.BlockMemoryLemmas.{block_cut}
use Rattle.cml_log.proofs.BlockValuesLemmas.{Pointing, pointing_made}
use Rattle.cml_log.proofs.chunk.raw.Address.TheLaws as address_laws
use Rattle.cml_log.specs.contracts.chunk.raw.Address.{the_row as Address}
use Rattle.cml_log.specs.contracts.chunk.raw.Blocks.{the_row}
use Rattle.cml_log.specs.contracts.chunk.raw.Right.{the_row as Right}
use Rattle.cml_log.specs.contracts.chunk.raw.Blocks.take as f
use Rattle.cml_log.proofs.chunk.raw.Blocks.take.Statement.{statement}
use Rattle.cml_log.proofs.chunk.raw.Blocks.take.Code as code

pub take_spec : {M : Type 1} → statement M
take_spec 𝓤 𝓛 𝓜 𝓡 wired X L =
    let 𝓣 = tables 𝓤 𝓛.H 𝓜 𝓡 𝓡.env in let R : RattleType = param 0 X in let En = f.ended X in let c = f.clauses X 𝓛 𝓜.mem 𝓡.returns in
    let inst = layouts (a_type ∷ []) (X, tt) in let fn = inst_fn inst code.function in let Row : RattleType = the_row R in
    let hs : Stays En.signature.params En.kept = (stay_ref (0 ∷ []) tt (plain (λ _. Row)), (stay_dropped (plain (λ _. Address)) yes, tt)) in
    proved 𝓛 En hs c 𝓜 𝓡 (Goes-ref 𝓛 2 0 tt (plain (λ _. Row)), (Goes-dropped 𝓛 2 (plain (λ _. Address)) yes (λ κs x w. refl), tt))
    (f.Key.name inst) fn (code.unfolded 𝓤 𝓛.H 𝓜 𝓡 wired (X, tt))
    (λ κs. (mut_vals, ((λ d. address_laws.lowered d ∷ []), tt)))
    (λ κs. (mut_Tells (named 0) κs.0 Row, (address_laws.lowers.val_is, tt))) (λ κs qs bounds a gh are.
    let κ = κs.0 in
    let b = a.0.ref_ptr.0 in
    let o = a.0.ref_ptr.1 in
    let old : Row.Denot = a.0.now in
    let address = a.1.0 in
    let others : Fml = fsep (flft κs.1.0 qs.1.0) ftrue in
    let at : Ptr = address.at in
    let n = address.number in
    let Asked : Type 0 = IsKept old.kept n at in
    let w : Val = address_laws.lowered address in
    let y : (walk_of 𝓛 En hs c).Ghost = ((κs, qs, bounds, a, (vptr b o ∷ [], (w ∷ [], tt))), gh) in
    let Post : Val → SProp 𝓤 = (walk_of 𝓛 En hs c).post y in
    let new : Row.Denot = record { mark = old.mark; kept = slice_set old.kept n None } in
    let kept_is : Type 0 = new.kept ≡ slice_set old.kept n None in
    qed 𝓛 (((‵ (flft κ qs.0) ⊛ ‵ others) ⊛ ‵ (owns (types_at En.signature.params κs) a y.0.4)) ∷ raw (fact 𝓤 _) ∷ raw (fact 𝓤 Asked) ∷ []) ∵
    keep ! (2 ∷ 0 ∷ []) $ heard ! Asked (λ asked. let right : (Right R).Denot = record { at = at; content = asked.0 } in
    let content_is : Type 0 = block_at old.kept n ≡ Some (at, asked.0) in
    split ! $ split ! $ move ! (2 ∷ []) $ fsplit ! $ fsplit3 ! $ keep ! (1 ∷ 2 ∷ 4 ∷ 5 ∷ []) $
    enter ! 𝓣.C 𝓣.Λ fn (vptr b o ∷ w ∷ []) Post $
    alloc_all ! (λ l. pass_all ! refl ((tt, tt), (((address_laws.the_row_laws.lawful 𝓛).typed address (w ∷ []) are.1.0).0, tt)) $
    opens ! tt Row {h = old} b o (λ vs. move ! (1 ∷ []) $ fsplit ! $ move ! (1 ∷ []) $
    use1 𝓛 (‵ (block_owns R (slice_index_or old.kept n None)) ⊛ ‵ (blocks_own R new.kept)) (block_cut R 𝓛 old.kept n) $ split ! $
    rewrite ! 0 (λ (slot : Option (Ptr × X.Denot)). ‵ (block_owns R slot)) asked.1 refl $
    -- [the right; the other blocks; the mark; the cell; the open borrow, in three; the tokens]
    move ! (2 ∷ 1 ∷ []) $ fjoin ! $ move ! (2 ∷ 0 ∷ 3 ∷ 4 ∷ 5 ∷ []) $ closes ! tt Row new vs b o $
    feq_i ! (List Val) (vptr b o ∷ []) (vptr b o ∷ []) refl $ fjoin3 ! $ nothing ! $ nothing ! $ fjoin ! $ move ! (1 ∷ 0 ∷ []) $
    fjoin ! $ move ! (1 ∷ 3 ∷ []) $ join ! $
    sets ! (of_opd ! (get_in ! (fld ! refl (stop !)) (sub ! 0 refl (whole !)))) refl (Ptr-Good at) $
    sets ! (agg ! (and_then ! (get ! refl) (no_more !))) refl (word-Good [] at) $
    move ! (2 ∷ []) $ use0 𝓛 (‵ ((Pointing R).own_val (at, tt) (word at ∷ []))) (pointing_made R 𝓛 at) $ fjoin ! $
    use0 𝓛 (raw (fact 𝓤 kept_is)) (fact_i 𝓤 kept_is (emp 𝓤) refl) $
    use0 𝓛 (raw (fact 𝓤 content_is)) (fact_i 𝓤 content_is (emp 𝓤) asked.1) $ join ! $
    returns ! (look_at ! 0 refl) $ free_all ! refl $ keep ! (2 ∷ 3 ∷ 1 ∷ 0 ∷ []) $
    by ! (leaves 𝓛 En hs c y (word at) right (new, (tt, tt)) (tt, (tt, tt)))))))
