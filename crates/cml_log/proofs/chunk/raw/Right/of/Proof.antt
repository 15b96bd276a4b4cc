-- `of` keeps where the content lies, and forgets the allocator's handle, which has no bytes.
use Rattle.cml_log.proofs.WalksLemmas.{List, [], ◌∷◌, ◌++◌, ◌≡◌, refl, sym, ap, ◌∙◌, subst, raw, ‵, ◌⊛◌, some, later, ◌$◌, ◌∵◌, !, qed}
use Rattle.cml_log.proofs.WalksLemmas.{by, keep, move, drop, split, join, fsplit, fjoin, pick, use0, use1, await, feq_l, suffices, ent}
use Rattle.cml_log.proofs.WalksLemmas.{id⊢, emp, never, fst∗, ftrue, flft, fact, fact_i, sem, bare, SProp, WpFn, Val, a_type, dcons, dnil}
use Rattle.cml_log.proofs.WalksLemmas.{inst_fn, owns, types_at, enter, alloc_all, pass_all, free_all, look_at, get, sets, lands_as, of_opd}
use Rattle.cml_log.proofs.WalksLemmas.{agg, no_more, and_then, returns, nothing, only, tables, proved_at, leaves, RattleType, RawPtr, param}
use Rattle.cml_log.proofs.WalksLemmas.{layout, bounded, no, Stays, stay_dropped, plain, Goes-blank, walk_of, Ptr, block_ptr, null_ptr}
use Rattle.cml_log.proofs.WalksLemmas.{ptr_val, in_a_block, word, full_share, token, right_owns, triple_of, Lasts, lasts, calls_at, fm, ◌⊑◌}
use contract.BorrowLft.{⊑_static}
use Rattle.std_alloc.proofs.BoxSteps.Form as box
use Rattle.std_alloc.proofs.BoxSteps.Steps.{box_out, box_in}
use Rattle.std_alloc.specs.contracts.boxed.Box as boxes
use Rattle.std_alloc.specs.contracts.boxed.Box.into_raw as callee
use Rattle.std_alloc.proofs.boxed.Box.into_raw.Met.{met}
use Rattle.cml_log.proofs.BlockValuesLemmas.{Pointing, pointing_made}
use Rattle.cml_log.proofs.Destruct++none.drop.Code as dropping
use Rattle.cml_log.proofs.HeapBoxLemmas.{Heap, Passed, passed_laws, on_heap, allocates_met, drops_met}
use Rattle.cml_log.specs.contracts.chunk.raw.Right.{the_row}
use Rattle.cml_log.specs.contracts.chunk.raw.Right.of as f
use Rattle.cml_log.proofs.chunk.raw.Right.of.Statement.{statement}
use Rattle.cml_log.proofs.chunk.raw.Right.of.Code as code

pub of_spec : {M : Type 1} → statement M
unfolding dropping.code
of_spec 𝓤 𝓛 𝓜 𝓡 wired X L dx glue =
    let 𝓣 = tables 𝓤 𝓛.H 𝓜 𝓡 𝓡.env in let R : RattleType = param 0 X in let En = f.ended X dx in let c = f.clauses X dx 𝓛 𝓜.mem 𝓡.returns in
    let E : box.Bx = on_heap "cml_log::Destruct++none::drop" X L in
    let al = E.al in
    let B : RattleType = boxes.the_row R Heap al.g in
    let inst = bounded (a_type ∷ []) (X, tt) (dcons dx dnil) in
    let fn = inst_fn inst code.function in
    let hs : Stays En.signature.params En.kept = (stay_dropped (plain (λ _. B)) no, tt) in
    let allocator = allocates_met 𝓤 𝓛 𝓜 𝓡 (code.calls-std_heap::GlobalAllocator::allocate 𝓡.env wired)
    (code.calls-std_heap::GlobalAllocator::deallocate 𝓡.env wired) (code.calls-std_heap::GlobalAllocator::grow 𝓡.env wired)
    (code.calls-std_heap::GlobalAllocator::shrink 𝓡.env wired) in
    let glued = drops_met 𝓤 𝓛 𝓜 𝓡 "cml_log::Destruct++none::drop" (code.calls-cml_log::Destruct++none::drop 𝓡.env wired) in
    proved_at 𝓛 En hs c 𝓜 𝓡 (Goes-blank 𝓛 1 (plain (λ _. B)) no (λ κs x w. tt), tt) (f.Key.name inst) fn
    (code.unfolded 𝓤 𝓛.H 𝓜 𝓡 wired (X, tt) dx) (λ z are.
    let κs = z.0.0 in
    let qs = z.0.1 in
    let v = z.0.3.0 in
    let Post : Val → SProp 𝓤 = (walk_of 𝓛 En hs c).post z in
    let Run : List Val → SProp 𝓤 = λ us. WpFn 𝓤 𝓛.H 𝓣.C 𝓣.Λ fn us Post in
    let mine = ‵ (flft κs.0 qs.0) in
    let heaps = ‵ (flft [] full_share) in
    let toks = mine ⊛ heaps ⊛ ‵ ftrue in
    let k = triple_of 𝓛 (callee.signature X Passed al.g al.d al.drops dx) (callee.spec X Passed al.g al.d al.drops dx 𝓛 𝓜.mem 𝓡.returns) in
    let Ce = callee.ended X Passed al.g al.d al.drops dx in
    qed 𝓛 (((mine ⊛ ‵ ftrue) ⊛ ‵ (owns (types_at En.signature.params κs) z.0.3 z.0.4)) ∷ (raw (fact 𝓤 (κs.0 ⊑ X.lives)) ⊛ ‵ ftrue) ∷ []) ∵
    split ! $ move ! (1 ∷ []) $ fsplit ! $
    box_out E ! v z.0.4.0 (λ b o h e us fits. box_in E ! v b o v.value e refl $ let w : Val = box.word E h b o in
    let typed = box.box_typed E h b o fits in
    let y : k.Ghost = (((κs.0, ([], tt)), (qs.0, (full_share, tt)), tt, (v, tt), (w ∷ [], tt)), tt) in
    -- what the call requires: the tokens, of which the heap's costs nothing, with the box; and the two bounds
    fjoin ! $ move ! (1 ∷ []) $ split ! $ move ! (1 ∷ []) $ use0 𝓛 heaps (𝓛.lfts.lft-nil full_share) $ join ! $
    move ! (1 ∷ 0 ∷ []) $ join ! $ join ! $
    move ! (1 ∷ []) $ split ! $ move ! (1 ∷ []) $
    use0 𝓛 (raw (fact 𝓤 ([] ⊑ Passed.lives))) (fact_i 𝓤 ([] ⊑ Passed.lives) (emp 𝓤) (⊑_static [])) $ join ! $ move ! (1 ∷ 0 ∷ []) $
    join ! $ move ! (1 ∷ 0 ∷ []) $ join ! $
    use1 𝓛 (raw (k.pre y)) (id⊢ 𝓤 _) $
    suffices ! (Run (w ∷ [])) (subst (λ (ws : List Val). ent 𝓤 (Run (w ∷ [])) (Run ws)) (sym (λ i. us i ++ [])) (id⊢ 𝓤 (Run (w ∷ [])))) $
    enter ! 𝓣.C 𝓣.Λ fn (w ∷ []) Post $ alloc_all ! (λ l. pass_all ! refl (typed, tt) $ sets ! (of_opd ! (get ! refl)) refl typed $
    calls_at ! (fm 𝓛 𝓜 𝓡) k (met 𝓤 𝓛 𝓜 𝓡 (code.calls-std_alloc::boxed::Box::into_raw 𝓡.env wired) X Passed L passed_laws al.g al.d al.drops
    dx allocator glued glue) y (and_then ! (get ! refl) (no_more !)) (λ u.
    use1 𝓛 (later (some (λ (r : Ptr). (toks ⊛ ‵ (RawPtr.own_val r (u ∷ [])))
    ⊛ some (λ (ls : Lasts Ce y.0.0 y.0.3). ‵ (lasts Ce y.0.0 y.0.3 ls) ⊛ ‵ (right_owns R r v.value))))) (id⊢ 𝓤 (k.post y u)) $
    await ! tt $ pick ! (λ r. split ! $ move ! (1 ∷ []) $ pick ! (λ _. split ! $ drop ! $
    in_a_block ! r (λ p. right_owns R p v.value) (fst∗ 𝓤 (never 𝓤) (sem 𝓛 (token (bare (layout X)) null_ptr))) (λ pb po at.
    let p : Ptr = block_ptr pb po in
    let right : (the_row R).Denot = record { at = p; content = v.value } in
    move ! (1 ∷ []) $ split ! $ move ! (1 ∷ []) $ feq_l ! (λ eu. lands_as ! (ap only eu ∙ ap ptr_val at) refl (tt, tt) $
    sets ! (agg ! (and_then ! (get ! refl) (no_more !))) refl (tt, (tt, tt)) $
    -- [the tokens; the box]
    split ! $ move ! (1 ∷ []) $ drop ! $ nothing ! $ move ! (1 ∷ 0 ∷ []) $ join ! $ move ! (1 ∷ []) $
    use0 𝓛 (‵ ((Pointing R).own_val (p, tt) (word p ∷ []))) (pointing_made R 𝓛 p) $ fjoin ! $
    use0 𝓛 (raw (fact 𝓤 (v.value ≡ v.value))) (fact_i 𝓤 (v.value ≡ v.value) (emp 𝓤) refl) $
    nothing ! $ nothing ! $ fjoin ! $ returns ! (look_at ! 0 refl) $ free_all ! refl $ keep ! (3 ∷ 0 ∷ 2 ∷ 1 ∷ []) $
    by ! (leaves 𝓛 En hs c z (word p) right (tt, tt) (tt, tt))))))))))
