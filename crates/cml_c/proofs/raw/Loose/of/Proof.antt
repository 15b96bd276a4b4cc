-- `of` takes the box apart.
use Rattle.cml_log.proofs.WalksLemmas.{List, [], ◌∷◌, ◌++◌, ◌≡◌, refl, sym, ap, ◌∙◌, subst, raw, ‵, ◌⊛◌, some, later, ◌$◌, ◌∵◌, !, qed}
use Rattle.cml_log.proofs.WalksLemmas.{by, keep, move, drop, split, split3, join, fsplit, fjoin, fpick, pick, use0, use1, await, rewrite}
use Rattle.cml_log.proofs.WalksLemmas.{feq_l, suffices, ent, id⊢, emp, never, fst∗, ftrue, fsep, flft, fact, fact_i, sem, bare, SProp}
use Rattle.cml_log.proofs.WalksLemmas.{WpFn, Val, vstruct, of_list, a_type, dcons, dnil, inst_fn, owns, types_at, enter, alloc_all}
use Rattle.cml_log.proofs.WalksLemmas.{pass_all, free_all, look_at, get, get_in, sets, lands_as, of_opd, fld, stop, sub, whole, agg}
use Rattle.cml_log.proofs.WalksLemmas.{no_more, and_then, returns, nothing, only, heard, tables, proved_at, leaves, RattleType, RawPtr}
use Rattle.cml_log.proofs.WalksLemmas.{Tuple, param, layout, bounded, no, Stays, stay_dropped, plain, Goes-blank, walk_of, Ptr, block_ptr}
use Rattle.cml_log.proofs.WalksLemmas.{null_ptr, ptr_val, in_a_block, handle_tells, box_owns, triple_of, calls_at, fm}
use Rattle.std_alloc.proofs.BoxSteps.Form as box
use Rattle.std_alloc.proofs.BoxSteps.Steps.{box_out, box_in}
use Rattle.std_alloc.specs.contracts.boxed.Box.into_raw_with_allocator as callee
use Rattle.std_alloc.proofs.boxed.Box.into_raw_with_allocator.Met.{met}
use Rattle.cml_c.specs.contracts.raw.Loose.{the_row}
use Rattle.cml_c.specs.contracts.raw.Loose.of as f
use Rattle.cml_c.proofs.raw.Loose.of.Statement.{statement}
use Rattle.cml_c.proofs.raw.Loose.of.Code as code

pub of_spec : {M : Type 1} → statement M
of_spec 𝓤 𝓛 𝓜 𝓡 wired T A L LA g d dx dd allocator glue glued =
    let 𝓣 = tables 𝓤 𝓛.H 𝓜 𝓡 𝓡.env in
    let R : RattleType = param 0 T in
    let Z : RattleType = param 1 A in
    let En = f.ended T A g d dx dd in
    let c = f.clauses T A g d dx dd 𝓛 𝓜.mem 𝓡.returns in
    let E : box.Bx = record { row = T; laws = L; al = record { row = A; laws = LA; g = g; d = d; drops = dd } } in
    let B : RattleType = box.B E in
    let inst = bounded (a_type ∷ a_type ∷ []) (T, (A, tt)) (dcons d (dcons dx (dcons dd dnil))) in
    let fn = inst_fn inst code.function in
    let hs : Stays En.signature.params En.kept = (stay_dropped (plain (λ _. B)) no, tt) in
    proved_at 𝓛 En hs c 𝓜 𝓡 (Goes-blank 𝓛 2 (plain (λ _. B)) no (λ κs x w. tt), tt) (f.Key.name inst) fn
    (code.unfolded 𝓤 𝓛.H 𝓜 𝓡 wired (T, (A, tt)) d dx dd) (λ z are.
    let κs = z.0.0 in
    let qs = z.0.1 in
    let v = z.0.3.0 in
    let a = v.alloc in
    let Post : Val → SProp 𝓤 = (walk_of 𝓛 En hs c).post z in
    let Run : List Val → SProp 𝓤 = λ us. WpFn 𝓤 𝓛.H 𝓣.C 𝓣.Λ fn us Post in
    let toks = ‵ (flft κs.0 qs.0) ⊛ ‵ (flft κs.1.0 qs.1.0) ⊛ ‵ ftrue in
    qed 𝓛 ((toks ⊛ ‵ (owns (types_at En.signature.params κs) z.0.3 z.0.4)) ∷ raw ((c κs z.0.3).requires z.1) ∷ []) ∵ split ! $
    move ! (1 ∷ []) $ fsplit ! $ box_out E ! v z.0.4.0 (λ b o h e us fits. box_in E ! v b o v.value e refl $
    let w : Val = box.word E h b o in
    let typed = box.box_typed E h b o fits in
    let k = triple_of 𝓛 (callee.signature T A g d dd dx) (callee.spec T A g d dd dx 𝓛 𝓜.mem 𝓡.returns) in
    let y : k.Ghost = ((κs, qs, tt, (v, tt), (w ∷ [], tt)), tt) in let Pair = Tuple (RawPtr ∷ Z ∷ []) in
    -- what the call requires: the tokens with the box, and the two bounds
    fjoin ! $ move ! (1 ∷ 0 ∷ []) $ join ! $ join ! $ use1 𝓛 (raw (k.pre y)) (id⊢ 𝓤 _) $
    suffices ! (Run (w ∷ [])) (subst (λ (ws : List Val). ent 𝓤 (Run (w ∷ [])) (Run ws)) (sym (λ i. us i ++ [])) (id⊢ 𝓤 (Run (w ∷ [])))) $
    enter ! 𝓣.C 𝓣.Λ fn (w ∷ []) Post $ alloc_all ! (λ l. pass_all ! refl (typed, tt) $ sets ! (of_opd ! (get ! refl)) refl typed $
    calls_at ! (fm 𝓛 𝓜 𝓡) k (met 𝓤 𝓛 𝓜 𝓡 (code.calls-std_alloc::boxed::Box::into_raw_with_allocator 𝓡.env wired) T A L LA g d dd dx
    allocator glued glue) y (and_then ! (get ! refl) (no_more !)) (λ u.
    use1 𝓛 (later (some (λ (r : Ptr × A.Denot). (toks ⊛ ‵ (Pair.own_val r (u ∷ [])))
    ⊛ some (λ (_ : (Unit {0} × (Unit {0} × Unit {0})) × Unit {0}).
    ‵ (fsep (fsep ftrue (fsep ftrue ftrue)) ftrue)
    ⊛ (raw (fact 𝓤 (r.1 ≡ a)) ⊛ ‵ (box_owns (g.dealloc_token a) R r.0 v.value)))))) (id⊢ 𝓤 _) $
    await ! tt $ pick ! (λ r. split ! $ move ! (1 ∷ []) $ pick ! (λ _. split3 ! $ drop ! $ heard ! (r.1 ≡ a) (λ same.
    in_a_block ! r.0 (λ p. box_owns (g.dealloc_token a) R p v.value)
    (fst∗ 𝓤 (never 𝓤) (sem 𝓛 (g.dealloc_token a (bare (layout T)) null_ptr))) (λ pb po at.
    move ! (1 ∷ []) $ split ! $ move ! (1 ∷ []) $ fpick ! (λ vss. fsplit ! $ feq_l ! (λ eu. fsplit ! $ feq_l ! (λ ep. fsplit ! $
    rewrite ! 0 (λ (s : A.Denot). ‵ (A.own_val s vss.1.0)) same refl $ handle_tells E.al ! a vss.1.0 (λ h' eh fits'.
    let good = box.box_typed E h' pb po fits' in
    let p : Ptr = block_ptr pb po in
    let made : (the_row R Z g).Denot = record { at = p; alloc = a; content = v.value } in
    lands_as ! (ap only (eu ∙ (λ i. vstruct (of_list ((ep ∙ ap (λ (q : Ptr). ptr_val q ∷ []) at) i ++ (eh i ++ []))) ∷ []))) refl good $
    sets ! (of_opd ! (get_in ! (fld ! refl (stop !)) (sub ! 0 refl (whole !)))) refl (tt, tt) $
    sets ! (of_opd ! (get_in ! (fld ! refl (stop !)) (sub ! 1 refl (whole !)))) refl fits' $
    sets ! (of_opd ! (get ! refl)) refl fits' $ sets ! (agg ! (and_then ! (get ! refl) (and_then ! (get ! refl) (no_more !)))) refl good $
    move ! (3 ∷ 0 ∷ []) $ fsplit ! $ box_in E ! (record { ptr = p; alloc = a; value = v.value }) pb po v.value refl refl $
    use1 𝓛 (‵ ((the_row R Z g).own_val made (box.word E h' pb po ∷ []))) (id⊢ 𝓤 _) $
    use0 𝓛 (raw (fact 𝓤 (v.value ≡ v.value))) (fact_i 𝓤 (v.value ≡ v.value) (emp 𝓤) refl) $ nothing ! $ nothing ! $ fjoin ! $
    returns ! (look_at ! 0 refl) $ free_all ! refl $ keep ! (4 ∷ 0 ∷ 2 ∷ 1 ∷ []) $
    by ! (leaves 𝓛 En hs c z (box.word E h' pb po) made ((tt, (tt, tt)), tt) (tt, tt))))))))))))))
