-- `into_box` says again what lies there.
use Rattle.cml_log.proofs.WalksLemmas.{List, [], ◌∷◌, ◌++◌, ◌≡◌, refl, sym, ap, subst, raw, ‵, ◌⊛◌, some, later, at_ret, ◌$◌, ◌∵◌}
use Rattle.cml_log.proofs.WalksLemmas.{ !, qed, by, keep, move, drop, split, split3, join, fsplit, fjoin, pick, use0, use1, await}
use Rattle.cml_log.proofs.WalksLemmas.{rewrite, feq_i, suffices, ent, id⊢, emp, ftrue, flft, fact, fact_i, SProp, WpFn, Val, vptr, owns}
use Rattle.cml_log.proofs.WalksLemmas.{types_at, enter, alloc_all, pass_all, free_all, look_at, get, get_in, sets, lands_last, of_opd}
use Rattle.cml_log.proofs.WalksLemmas.{fld, stop, sub, whole, no_more, and_then, first, blocks, exec, env, tail, returns, nothing}
use Rattle.cml_log.proofs.WalksLemmas.{only, tables, proved_at, leaves, layout, yes, Stays, stay_dropped, plain, Goes-dropped, walk_of}
use Rattle.cml_log.proofs.WalksLemmas.{Good, block_ptr, full_share, triple_of, Lasts, lasts, calls_at_last, fm, ◌⊑◌}
use contract.BorrowLft.{⊑_static}
use Rattle.std_alloc.proofs.BoxSteps.Form as box
use Rattle.std_alloc.proofs.BoxSteps.Steps.{box_out, box_in}
use Rattle.std_alloc.specs.contracts.boxed.Box.from_raw as callee
use Rattle.std_alloc.proofs.boxed.Box.from_raw.Met.{met}
use Rattle.cml_log.proofs.HeapBoxLemmas.{Passed, passed_laws, allocates_met, drops_met}
use Rattle.cml_c.proofs.Destruct++none.drop.Code as dropping
use Rattle.cml_c.proofs.KeeperBoxLemmas.{E, Boxed, boxed, Given, given_laws}
use Rattle.cml_c.specs.contracts.keeper.Keeper.{the_row}
use Rattle.cml_c.specs.contracts.keeper.Keeper.into_box as f
use Rattle.cml_c.proofs.keeper.Keeper.into_box.Statement.{statement}
use Rattle.cml_c.proofs.keeper.Keeper.into_box.Code as code

pub into_box_spec : {M : Type 1} → statement M
unfolding dropping.code
into_box_spec 𝓤 𝓛 𝓜 𝓡 wired =
    let 𝓣 = tables 𝓤 𝓛.H 𝓜 𝓡 𝓡.env in let c = f.clauses 𝓛 𝓜.mem 𝓡.returns in let fn = code.function in let al = E.al in
    let hs : Stays f.ended.signature.params f.ended.kept = (stay_dropped (plain (λ _. the_row)) yes, tt) in
    let allocator = allocates_met 𝓤 𝓛 𝓜 𝓡 (code.calls-std_heap::GlobalAllocator::allocate 𝓡.env wired)
    (code.calls-std_heap::GlobalAllocator::deallocate 𝓡.env wired) (code.calls-std_heap::GlobalAllocator::grow 𝓡.env wired)
    (code.calls-std_heap::GlobalAllocator::shrink 𝓡.env wired) in
    let glued = drops_met 𝓤 𝓛 𝓜 𝓡 "cml_c::Destruct++none::drop" (code.calls-cml_c::Destruct++none::drop 𝓡.env wired) in
    proved_at 𝓛 f.ended hs c 𝓜 𝓡 (Goes-dropped 𝓛 0 (plain (λ _. the_row)) yes (λ κs x w. refl), tt) f.Key.name fn
    (code.unfolded 𝓤 𝓛.H 𝓜 𝓡 wired) (λ z are.
    let κs = z.0.0 in
    let v = z.0.3.0 in
    let a = v.alloc in
    let Post : Val → SProp 𝓤 = (walk_of 𝓛 f.ended hs c).post z in
    let Run : List Val → SProp 𝓤 = λ us. WpFn 𝓤 𝓛.H 𝓣.C 𝓣.Λ fn us Post in
    let always = ‵ (flft [] full_share) in
    let costless = 𝓛.lfts.lft-nil full_share in
    let toks = always ⊛ always ⊛ ‵ ftrue in let k =
    triple_of 𝓛 (callee.signature Given Passed al.g al.d al.drops) (callee.spec Given Passed al.g al.d al.drops 𝓛 𝓜.mem 𝓡.returns) in
    let Ce = callee.ended Given Passed al.g al.d al.drops in
    qed 𝓛 ((‵ ftrue ⊛ ‵ (owns (types_at f.ended.signature.params κs) z.0.3 z.0.4)) ∷ raw ((c κs z.0.3).requires z.1) ∷ []) ∵
    split ! $ move ! (1 ∷ []) $ fsplit ! $
    use1 𝓛 (‵ (Boxed.own_val (boxed v.at a v.kept) z.0.4.0)) (id⊢ 𝓤 _) $
    box_out E ! (boxed v.at a v.kept) z.0.4.0 (λ b o h e us fits. let w : Val = box.word E h b o in
    let y : k.Ghost =
    ((([], ([], tt)), (full_share, (full_share, tt)), tt, (a, (block_ptr b o, tt)), (h ∷ [], (vptr b o ∷ [], tt))), v.kept) in
    -- what the call requires, beside what lies there, what gives its block back and the allocator, costs nothing
    fjoin ! $ use0 𝓛 (raw (fact 𝓤 ([] ⊑ Passed.lives))) (fact_i 𝓤 ([] ⊑ Passed.lives) (emp 𝓤) (⊑_static [])) $ join ! $
    use0 𝓛 (raw (fact 𝓤 ([] ⊑ Given.lives))) (fact_i 𝓤 ([] ⊑ Given.lives) (emp 𝓤) (⊑_static [])) $ join ! $
    nothing ! $ feq_i ! (List Val) (vptr b o ∷ []) (vptr b o ∷ []) refl $ fjoin ! $ move ! (2 ∷ 0 ∷ []) $ fjoin ! $
    nothing ! $ use0 𝓛 always costless $ join ! $ use0 𝓛 always costless $ join ! $ join ! $ join ! $
    use1 𝓛 (raw (k.pre y)) (id⊢ 𝓤 _) $ keep ! (0 ∷ 2 ∷ []) $
    suffices ! (Run (w ∷ [])) (subst (λ (ws : List Val). ent 𝓤 (Run (w ∷ [])) (Run ws)) (sym (λ i. us i ++ [])) (id⊢ 𝓤 (Run (w ∷ [])))) $
    enter ! 𝓣.C 𝓣.Λ fn (w ∷ []) Post $ alloc_all ! (λ l. pass_all ! refl (box.box_typed E h b o fits, tt) $
    sets ! (of_opd ! (get_in ! (fld ! refl (stop !)) (sub ! 0 refl (whole !)))) refl (tt, tt) $
    sets ! (of_opd ! (get_in ! (fld ! refl (stop !)) (sub ! 1 refl (whole !)))) refl fits $ first ! $ blocks ! $
    sets ! (of_opd ! (get ! refl)) refl (tt, tt) $
    calls_at_last ! (fm 𝓛 𝓜 𝓡) k (met 𝓤 𝓛 𝓜 𝓡 (code.calls-std_alloc::boxed::Box::from_raw 𝓡.env wired) Given Passed given_laws passed_laws
    al.g al.d al.drops allocator glued) y (and_then ! (get ! refl) (and_then ! (get ! refl) (no_more !))) (λ u.
    use1 𝓛 (later (some (λ (r : Boxed.Denot). (toks ⊛ ‵ (Boxed.own_val r (u ∷ [])))
    ⊛ some (λ (ls : Lasts Ce y.0.0 y.0.3). ‵ (lasts Ce y.0.0 y.0.3 ls) ⊛ (raw (fact 𝓤 (r.value ≡ v.kept)) ⊛ raw (fact 𝓤 (r.alloc ≡ a)))))))
    (id⊢ 𝓤 (k.post y u)) $
    await ! tt $ pick ! (λ r. split ! $ move ! (1 ∷ []) $ pick ! (λ _. split3 ! $ drop ! $ move ! (2 ∷ []) $ split ! $ move ! (1 ∷ []) $
    box_out E ! r (u ∷ []) (λ pb po h' at es fits'. box_in E ! r pb po r.value at refl $
    rewrite ! 0 (λ (ws : List Val). ‵ (Boxed.own_val r ws)) (sym es) refl $
    let good : Good (layout Boxed) u = subst (Good (layout Boxed)) (sym (ap only es)) (box.box_typed E h' pb po fits') in
    lands_last ! refl good $ exec ! 𝓣.C 𝓣.Λ (env fn.locals l) (tail (tail (tail fn.body))) (at_ret _ Post) $
    sets ! (of_opd ! (get ! refl)) refl good $
    -- [the box; the call's tokens; its content; its allocator; the tokens]
    nothing ! $ nothing ! $ fjoin ! $ returns ! (look_at ! 0 refl) $ free_all ! refl $ keep ! (5 ∷ 0 ∷ 1 ∷ 3 ∷ []) $
    by ! (leaves 𝓛 f.ended hs c z u r (tt, tt) (tt, tt)))))))))
