-- `into_box` puts the allocator's handle beside the right.
use Rattle.cml_log.proofs.WalksLemmas.{List, [], ◌∷◌, ◌++◌, ◌≡◌, refl, sym, ap, ◌∙◌, subst, raw, ‵, ◌⊛◌, some, later, at_ret, ◌$◌}
use Rattle.cml_log.proofs.WalksLemmas.{◌∵◌, !, qed, by, keep, move, drop, split, split3, join, fsplit, fjoin, pick, use0, use1, await}
use Rattle.cml_log.proofs.WalksLemmas.{rewrite, feq_i, suffices, ent, id⊢, emp, never, fst∗, ftrue, flft, fact, fact_i, sem, bare}
use Rattle.cml_log.proofs.WalksLemmas.{SProp, WpFn, Val, vptr, a_type, inst_fn, owns, types_at, enter, alloc_all, pass_all, free_all}
use Rattle.cml_log.proofs.WalksLemmas.{look_at, get, get_in, sets, lands_last, of_opd, fld, stop, sub, whole, no_more, and_then, first}
use Rattle.cml_log.proofs.WalksLemmas.{blocks, exec, env, tail, returns, nothing, only, tables, proved_at, leaves, RattleType, param}
use Rattle.cml_log.proofs.WalksLemmas.{param_laws, layout, layouts, yes, no, Stays, stay_dropped, plain, Goes-blank, Goes-dropped}
use Rattle.cml_log.proofs.WalksLemmas.{walk_of, Good, Ptr, block_ptr, null_ptr, in_a_block, handle_tells, word, full_share, token}
use Rattle.cml_log.proofs.WalksLemmas.{right_owns, triple_of, Lasts, lasts, calls_at_last, fm, ◌⊑◌}
use contract.BorrowLft.{⊑_static}
use Rattle.std_alloc.proofs.BoxSteps.Form as box
use Rattle.std_alloc.proofs.BoxSteps.Steps.{box_out, box_in}
use Rattle.std_alloc.specs.contracts.boxed.Box.from_raw as callee
use Rattle.std_alloc.proofs.boxed.Box.from_raw.Met.{met}
use Rattle.cml_log.proofs.Destruct++none.drop.Code as dropping
use Rattle.cml_log.proofs.HeapBoxLemmas.{Heap, Passed, passed_laws, on_heap, allocates_met, drops_met}
use Rattle.cml_log.proofs.chunk.raw.Right.TheLaws as right_laws
use Rattle.cml_log.specs.contracts.chunk.raw.Right.{the_row}
use Rattle.cml_log.specs.contracts.chunk.raw.Right.into_box as f
use Rattle.cml_log.proofs.chunk.raw.Right.into_box.Statement.{statement}
use Rattle.cml_log.proofs.chunk.raw.Right.into_box.Code as code

pub into_box_spec : {M : Type 1} → statement M
unfolding dropping.code
into_box_spec 𝓤 𝓛 𝓜 𝓡 wired X L =
    let 𝓣 = tables 𝓤 𝓛.H 𝓜 𝓡 𝓡.env in let R : RattleType = param 0 X in let En = f.ended X in let c = f.clauses X 𝓛 𝓜.mem 𝓡.returns in
    let E : box.Bx = on_heap "cml_log::Destruct++none::drop" X L in
    let al = E.al in
    let B : RattleType = box.B E in
    let inst = layouts (a_type ∷ []) (X, tt) in
    let fn = inst_fn inst code.function in
    let hs : Stays En.signature.params En.kept = (stay_dropped (plain (λ _. the_row R)) no, (stay_dropped (plain (λ _. Heap)) yes, tt)) in
    let allocator = allocates_met 𝓤 𝓛 𝓜 𝓡 (code.calls-std_heap::GlobalAllocator::allocate 𝓡.env wired)
    (code.calls-std_heap::GlobalAllocator::deallocate 𝓡.env wired) (code.calls-std_heap::GlobalAllocator::grow 𝓡.env wired)
    (code.calls-std_heap::GlobalAllocator::shrink 𝓡.env wired) in
    let glued = drops_met 𝓤 𝓛 𝓜 𝓡 "cml_log::Destruct++none::drop" (code.calls-cml_log::Destruct++none::drop 𝓡.env wired) in
    proved_at 𝓛 En hs c 𝓜 𝓡 (
      Goes-blank 𝓛 1 (plain (λ _. the_row R)) no (λ κs x w. tt),
      (Goes-dropped 𝓛 1 (plain (λ _. Heap)) yes (λ κs x w. refl), tt),
    ) (f.Key.name inst) fn (code.unfolded 𝓤 𝓛.H 𝓜 𝓡 wired (X, tt)) (λ z are.
    let κs = z.0.0 in
    let qs = z.0.1 in
    let right = z.0.3.0 in
    let a = z.0.3.1.0 in
    let x = right.content in
    let Post : Val → SProp 𝓤 = (walk_of 𝓛 En hs c).post z in
    let Run : List Val → SProp 𝓤 = λ us. WpFn 𝓤 𝓛.H 𝓣.C 𝓣.Λ fn us Post in
    let mine = ‵ (flft κs.0 qs.0) in
    let heaps = ‵ (flft [] full_share) in
    let toks = mine ⊛ heaps ⊛ ‵ ftrue in
    let k = triple_of 𝓛 (callee.signature X Passed al.g al.d al.drops) (callee.spec X Passed al.g al.d al.drops 𝓛 𝓜.mem 𝓡.returns) in
    let Ce = callee.ended X Passed al.g al.d al.drops in
    qed 𝓛 (((mine ⊛ ‵ ftrue) ⊛ ‵ (owns (types_at En.signature.params κs) z.0.3 z.0.4)) ∷ (raw (fact 𝓤 (κs.0 ⊑ X.lives)) ⊛ ‵ ftrue) ∷ []) ∵
    split ! $ move ! (1 ∷ []) $ fsplit ! $ fsplit ! $ move ! (2 ∷ []) $ fsplit ! $
    handle_tells al ! a z.0.4.1.0 (λ h eh fits. move ! (3 ∷ []) $
    in_a_block ! right.at (λ p. right_owns R p x) (fst∗ 𝓤 (never 𝓤) (sem 𝓛 (token (bare (layout X)) null_ptr))) (λ b o e.
    let p : Ptr = block_ptr b o in let w : Val = word p in
    let y : k.Ghost = (((κs.0, ([], tt)), (qs.0, (full_share, tt)), tt, (a, (p, tt)), (h ∷ [], (vptr b o ∷ [], tt))), x) in
    -- [the box; the handle; nothing; the field; the token; what is required]
    keep ! (5 ∷ 0 ∷ 1 ∷ 4 ∷ []) $ split ! $ move ! (1 ∷ []) $ drop ! $ move ! (1 ∷ []) $
    use0 𝓛 (raw (fact 𝓤 ([] ⊑ Passed.lives))) (fact_i 𝓤 ([] ⊑ Passed.lives) (emp 𝓤) (⊑_static [])) $ join ! $ move ! (1 ∷ 0 ∷ []) $ join ! $
    nothing ! $ feq_i ! (List Val) (vptr b o ∷ []) (vptr b o ∷ []) refl $ fjoin ! $ move ! (2 ∷ 0 ∷ []) $ fjoin ! $
    move ! (2 ∷ []) $ split ! $ move ! (1 ∷ []) $ use0 𝓛 heaps (𝓛.lfts.lft-nil full_share) $ join ! $ move ! (1 ∷ 0 ∷ []) $ join ! $
    join ! $ join ! $ use1 𝓛 (raw (k.pre y)) (id⊢ 𝓤 _) $
    let er : z.0.4.0 ≡ w ∷ [] = (right_laws.lowers R (param_laws 0 X L)).val_is right z.0.4.0 are.0 ∙ ap (λ (q : Ptr). word q ∷ []) e in
    suffices ! (Run (w ∷ h ∷ []))
    (subst (λ (ws : List Val). ent 𝓤 (Run (w ∷ h ∷ [])) (Run ws)) (sym (λ i. er i ++ (eh i ++ []))) (id⊢ 𝓤 (Run (w ∷ h ∷ [])))) $
    enter ! 𝓣.C 𝓣.Λ fn (w ∷ h ∷ []) Post $ alloc_all ! (λ l. pass_all ! refl ((tt, (tt, tt)), (fits, tt)) $
    sets ! (of_opd ! (get_in ! (fld ! refl (stop !)) (sub ! 0 refl (whole !)))) refl (tt, tt) $ first ! $ blocks ! $
    calls_at_last ! (fm 𝓛 𝓜 𝓡) k
    (met 𝓤 𝓛 𝓜 𝓡 (code.calls-std_alloc::boxed::Box::from_raw 𝓡.env wired) X Passed L passed_laws al.g al.d al.drops allocator glued) y
    (and_then ! (get ! refl) (and_then ! (get ! refl) (no_more !))) (λ u.
    use1 𝓛 (later (some (λ (r : B.Denot). (toks ⊛ ‵ (B.own_val r (u ∷ [])))
    ⊛ some (λ (ls : Lasts Ce y.0.0 y.0.3). ‵ (lasts Ce y.0.0 y.0.3 ls) ⊛ (raw (fact 𝓤 (r.value ≡ x)) ⊛ raw (fact 𝓤 (r.alloc ≡ a)))))))
    (id⊢ 𝓤 (k.post y u)) $
    await ! tt $ pick ! (λ r. split ! $ move ! (1 ∷ []) $ pick ! (λ _. split3 ! $ drop ! $ move ! (2 ∷ []) $ split ! $ move ! (1 ∷ []) $
    box_out E ! r (u ∷ []) (λ pb po h' at es fits'. box_in E ! r pb po r.value at refl $
    rewrite ! 0 (λ (ws : List Val). ‵ (B.own_val r ws)) (sym es) refl $
    let good : Good (layout B) u = subst (Good (layout B)) (sym (ap only es)) (box.box_typed E h' pb po fits') in
    lands_last ! refl good $ exec ! 𝓣.C 𝓣.Λ (env fn.locals l) (tail (tail fn.body)) (at_ret _ Post) $
    sets ! (of_opd ! (get ! refl)) refl good $
    -- [the box; the tokens; its content; its allocator]
    move ! (1 ∷ []) $ split ! $ move ! (1 ∷ []) $ drop ! $ nothing ! $ move ! (1 ∷ 0 ∷ []) $ join ! $ nothing ! $
    nothing ! $ fjoin ! $ nothing ! $ fjoin ! $
    returns ! (look_at ! 0 refl) $ free_all ! refl $ keep ! (1 ∷ 0 ∷ 2 ∷ 3 ∷ []) $
    by ! (leaves 𝓛 En hs c z u r (tt, (tt, tt)) (tt, (tt, tt)))))))))))
