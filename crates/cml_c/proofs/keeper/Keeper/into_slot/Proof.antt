-- `into_slot` moves two fields, and what the handle owns goes with them.
use Rattle.cml_log.proofs.WalksLemmas.{List, [], ◌∷◌, ◌++◌, ◌≡◌, refl, sym, subst, Some, raw, ‵, ◌⊛◌, ◌$◌, ◌∵◌, !, qed, by, keep}
use Rattle.cml_log.proofs.WalksLemmas.{move, split, fsplit, fjoin, use0, use1, suffices, ent, id⊢, emp, ftrue, fact, fact_i, SProp}
use Rattle.cml_log.proofs.WalksLemmas.{WpFn, Val, owns, types_at, enter, alloc_all, pass_all, free_all, look_at, get, get_in, sets}
use Rattle.cml_log.proofs.WalksLemmas.{of_opd, fld, stop, sub, whole, agg, no_more, and_then, returns, nothing, tables, proved_at}
use Rattle.cml_log.proofs.WalksLemmas.{leaves, yes, Stays, stay_dropped, plain, Goes-dropped, walk_of, block_ptr}
use Rattle.std_alloc.proofs.BoxSteps.Form as box
use Rattle.std_alloc.proofs.BoxSteps.Steps.{box_out, box_in}
use Rattle.cml_c.specs.contracts.keeper.Keeper.{the_row}
use Rattle.cml_c.specs.contracts.keeper.Share.{the_row as Slot}
use Rattle.cml_c.proofs.KeeperBoxLemmas.{E, Boxed, boxed}
use Rattle.cml_c.specs.contracts.keeper.Keeper.into_slot as f
use Rattle.cml_c.proofs.keeper.Keeper.into_slot.Statement.{statement}
use Rattle.cml_c.proofs.keeper.Keeper.into_slot.Code as code

pub into_slot_spec : {M : Type 1} → statement M
into_slot_spec 𝓤 𝓛 𝓜 𝓡 wired =
    let 𝓣 = tables 𝓤 𝓛.H 𝓜 𝓡 𝓡.env in let c = f.clauses 𝓛 𝓜.mem 𝓡.returns in let fn = code.function in
    let hs : Stays f.ended.signature.params f.ended.kept = (stay_dropped (plain (λ _. the_row)) yes, tt) in
    proved_at 𝓛 f.ended hs c 𝓜 𝓡 (Goes-dropped 𝓛 0 (plain (λ _. the_row)) yes (λ κs x w. refl), tt) f.Key.name fn
    (code.unfolded 𝓤 𝓛.H 𝓜 𝓡 wired) (λ z are.
    let κs = z.0.0 in
    let v = z.0.3.0 in
    let Post : Val → SProp 𝓤 = (walk_of 𝓛 f.ended hs c).post z in
    let Run : List Val → SProp 𝓤 = λ us. WpFn 𝓤 𝓛.H 𝓣.C 𝓣.Λ fn us Post in
    qed 𝓛 ((‵ ftrue ⊛ ‵ (owns (types_at f.ended.signature.params κs) z.0.3 z.0.4)) ∷ raw ((c κs z.0.3).requires z.1) ∷ []) ∵
    split ! $ move ! (1 ∷ []) $ fsplit ! $
    use1 𝓛 (‵ (Boxed.own_val (boxed v.at v.alloc v.kept) z.0.4.0)) (id⊢ 𝓤 _) $
    box_out E ! (boxed v.at v.alloc v.kept) z.0.4.0 (λ b o h e us fits. let w : Val = box.word E h b o in
    let good = box.box_typed E h b o fits in
    let made : Slot.Denot = record { at = block_ptr b o; alloc = v.alloc; kept = Some v.kept } in
    -- [what lies there; what gives its block back; the allocator; nothing; the token; what is required]
    keep ! (0 ∷ 1 ∷ 2 ∷ 4 ∷ []) $
    suffices ! (Run (w ∷ [])) (subst (λ (ws : List Val). ent 𝓤 (Run (w ∷ [])) (Run ws)) (sym (λ i. us i ++ [])) (id⊢ 𝓤 (Run (w ∷ [])))) $
    enter ! 𝓣.C 𝓣.Λ fn (w ∷ []) Post $ alloc_all ! (λ l. pass_all ! refl (good, tt) $
    sets ! (of_opd ! (get_in ! (fld ! refl (stop !)) (sub ! 0 refl (whole !)))) refl (tt, tt) $
    sets ! (of_opd ! (get_in ! (fld ! refl (stop !)) (sub ! 1 refl (whole !)))) refl fits $
    sets ! (agg ! (and_then ! (get ! refl) (and_then ! (get ! refl) (no_more !)))) refl good $
    box_in E ! (boxed (block_ptr b o) v.alloc v.kept) b o v.kept refl refl $ use1 𝓛 (‵ (Slot.own_val made (w ∷ []))) (id⊢ 𝓤 _) $
    use0 𝓛 (raw (fact 𝓤 (Some v.kept ≡ Some v.kept))) (fact_i 𝓤 (Some v.kept ≡ Some v.kept) (emp 𝓤) refl) $
    nothing ! $ nothing ! $ fjoin ! $ returns ! (look_at ! 0 refl) $ free_all ! refl $ keep ! (3 ∷ 0 ∷ 2 ∷ 1 ∷ []) $
    by ! (leaves 𝓛 f.ended hs c z w made (tt, tt) (tt, tt)))))
