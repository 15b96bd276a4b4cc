-- `put` adds the right to the blocks.
use Rattle.cml_log.proofs.WalksLemmas.{List, [], ◌∷◌, ◌++◌, ◌≡◌, refl, length, Some, raw, ‵, ◌⊛◌, ◌$◌, ◌∵◌, !, qed, by, keep, move}
use Rattle.cml_log.proofs.WalksLemmas.{split, join, fsplit, fsplit3, fjoin, fjoin3, feq_i, use0, use2, emp, ftrue, fsep, flft, Fml, fact}
use Rattle.cml_log.proofs.WalksLemmas.{fact_i, SProp, Val, vptr, vint, w64, a_type, named, inst_fn, owns, types_at, enter, alloc_all}
use Rattle.cml_log.proofs.WalksLemmas.{pass_all, free_all, look_at, get, get_in, sets, of_opd, fld, stop, sub, whole, agg, no_more}
use Rattle.cml_log.proofs.WalksLemmas.{and_then, returns, nothing, opens, closes, tables, proved, leaves, RattleType, param, param_laws}
use Rattle.cml_log.proofs.WalksLemmas.{layouts, yes, no, Stays, stay_ref, stay_dropped, plain, Goes-ref, Goes-dropped, walk_of, mut_vals}
use Rattle.cml_log.proofs.WalksLemmas.{mut_Tells, uint_vals, uint_Tells, ptr_val, Ptr-Good, word, word-Good, blocks_own}
use denote.Builtin.{u64}
use mir.Syntax.{ty_ptr}
use mir.Val.{has_ty}
use Rattle.std_alloc.proofs.ResultValues.{and_tt}
use Rattle.cml_log.proofs.BlockMemoryLemmas.{block_push}
use Rattle.cml_log.proofs.BlockValuesLemmas.{both, address_made}
use Rattle.cml_log.proofs.chunk.raw.Right.TheLaws as right_laws
use Rattle.cml_log.specs.contracts.chunk.raw.Address.{the_row as Address}
use Rattle.cml_log.specs.contracts.chunk.raw.Blocks.{the_row}
use Rattle.cml_log.specs.contracts.chunk.raw.Right.{the_row as Right}
use Rattle.cml_log.specs.contracts.chunk.raw.Blocks.put as f
use Rattle.cml_log.proofs.chunk.raw.Blocks.put.Statement.{statement}
use Rattle.cml_log.proofs.chunk.raw.Blocks.put.Code as code

pub put_spec : {M : Type 1} → statement M
put_spec 𝓤 𝓛 𝓜 𝓡 wired X L =
    let 𝓣 = tables 𝓤 𝓛.H 𝓜 𝓡 𝓡.env in
    let R : RattleType = param 0 X in
    let LR = param_laws 0 X L in
    let En = f.ended X in
    let c = f.clauses X 𝓛 𝓜.mem 𝓡.returns in
    let inst = layouts (a_type ∷ []) (X, tt) in let fn = inst_fn inst code.function in let Row : RattleType = the_row R in
    let hs : Stays En.signature.params En.kept =
    (stay_ref (0 ∷ []) tt (plain (λ _. Row)), (stay_dropped (plain (λ _. u64)) yes, (stay_dropped (plain (λ _. Right R)) no, tt))) in
    proved 𝓛 En hs c 𝓜 𝓡 (
      Goes-ref 𝓛 2 0 tt (plain (λ _. Row)),
      (Goes-dropped 𝓛 2 (plain (λ _. u64)) yes (λ κs x w. refl), (Goes-dropped 𝓛 2 (plain (λ _. Right R)) no (λ κs x w. refl), tt)),
    )
    (f.Key.name inst) fn (code.unfolded 𝓤 𝓛.H 𝓜 𝓡 wired (X, tt))
    (λ κs. (mut_vals, (uint_vals w64, ((λ r. right_laws.lowered R LR r ∷ []), tt))))
    (λ κs. (mut_Tells (named 0) κs.0 Row, (uint_Tells w64, ((right_laws.lowers R LR).val_is, tt)))) (λ κs qs bounds a gh are.
    let κ = κs.0 in
    let b = a.0.ref_ptr.0 in
    let o = a.0.ref_ptr.1 in
    let old : Row.Denot = a.0.now in
    let number = a.1.0 in
    let right = a.1.1.0 in
    let others : Fml = fsep (flft κs.1.0 qs.1.0) ftrue in
    let new : Row.Denot = record { mark = old.mark; kept = old.kept ++ Some (right.at, right.content) ∷ [] } in
    let address : Address.Denot = record { at = right.at; number = number } in
    let Asked : Type 0 = number ≡ length old.kept in
    let us : List Val = vptr b o ∷ vint w64 number ∷ word right.at ∷ [] in
    let made : Val = both (ptr_val right.at) (vint w64 number) in
    let y : (walk_of 𝓛 En hs c).Ghost = ((κs, qs, bounds, a, (vptr b o ∷ [], (vint w64 number ∷ [], (word right.at ∷ [], tt)))), gh) in
    let Post : Val → SProp 𝓤 = (walk_of 𝓛 En hs c).post y in
    qed 𝓛 (((‵ (flft κ qs.0) ⊛ ‵ others) ⊛ ‵ (owns (types_at En.signature.params κs) a y.0.4)) ∷ raw (fact 𝓤 _) ∷ raw (fact 𝓤 Asked) ∷ []) ∵
    keep ! (0 ∷ []) $ split ! $ split ! $ move ! (2 ∷ []) $ fsplit3 ! $ move ! (2 ∷ []) $ fsplit ! $ fsplit ! $
    keep ! (3 ∷ 5 ∷ 6 ∷ 1 ∷ []) $ fsplit3 ! $ keep ! (1 ∷ 2 ∷ 3 ∷ 4 ∷ 5 ∷ []) $
    enter ! 𝓣.C 𝓣.Λ fn us Post $
    alloc_all ! (λ l. pass_all ! refl ((tt, tt), ((tt, record { fits = are.1.0.1 }), (word-Good [] right.at, tt))) $
    opens ! tt Row {h = old} b o (λ vs. move ! (1 ∷ []) $ fsplit ! $ move ! (1 ∷ 7 ∷ []) $
    use2 𝓛 (‵ (blocks_own R new.kept)) (block_push R 𝓛 old.kept (Some (right.at, right.content))) $ move ! (1 ∷ 0 ∷ []) $ fjoin ! $
    move ! (1 ∷ 0 ∷ []) $ closes ! tt Row new vs b o $
    feq_i ! (List Val) (vptr b o ∷ []) (vptr b o ∷ []) refl $ fjoin3 ! $ nothing ! $ nothing ! $ fjoin ! $ nothing ! $ fjoin ! $
    move ! (1 ∷ 0 ∷ []) $ fjoin ! $ move ! (1 ∷ 2 ∷ []) $ join ! $
    sets ! (of_opd ! (get_in ! (fld ! refl (stop !)) (sub ! 0 refl (whole !)))) refl (Ptr-Good right.at) $
    let kept_is : Type 0 = new.kept ≡ old.kept ++ Some (right.at, right.content) ∷ [] in let good = Ptr-Good right.at in
    sets ! (agg ! (and_then ! (get ! refl) (and_then ! (get ! refl) (no_more !)))) refl
    (and_tt (has_ty ty_ptr (ptr_val right.at)) good.0, (good.1, (record { fits = are.1.0.1 }, tt))) $
    use0 𝓛 (raw (fact 𝓤 kept_is)) (fact_i 𝓤 kept_is (emp 𝓤) refl) $
    use0 𝓛 (raw (fact 𝓤 (number ≡ number))) (fact_i 𝓤 (number ≡ number) (emp 𝓤) refl) $ join ! $
    use0 𝓛 (‵ (Address.own_val address (made ∷ []))) (address_made 𝓛 right.at number are.1.0.1) $
    returns ! (look_at ! 0 refl) $ free_all ! refl $ keep ! (2 ∷ 3 ∷ 0 ∷ 1 ∷ []) $
    by ! (leaves 𝓛 En hs c y made address (new, (tt, (tt, tt))) (tt, (tt, (tt, tt)))))))
