-- `of` forgets what kind of value lies there, which the handle's type says.
use Rattle.cml_log.proofs.WalksLemmas.{List, [], ◌∷◌, ◌++◌, ◌≡◌, refl, sym, subst, raw, ‵, ◌⊛◌, ◌$◌, ◌∵◌, !, qed, by, keep, move}
use Rattle.cml_log.proofs.WalksLemmas.{split, fsplit, fjoin, use0, use1, suffices, ent, id⊢, emp, ftrue, fact, fact_i, SProp, WpFn}
use Rattle.cml_log.proofs.WalksLemmas.{Val, owns, types_at, enter, alloc_all, pass_all, free_all, look_at, get, get_in, sets, of_opd}
use Rattle.cml_log.proofs.WalksLemmas.{fld, stop, sub, whole, agg, no_more, and_then, returns, nothing, tables, proved_at, leaves}
use Rattle.cml_log.proofs.WalksLemmas.{yes, Stays, stay_dropped, plain, Goes-dropped, walk_of, block_ptr}
use Rattle.std.specs.contracts.alloc.Global.{the_row as Heap}
use Rattle.std.specs.contracts.impls.GlobalAllocator.TheImpl.{ghosts}
use Rattle.std_alloc.proofs.BoxSteps.Form as box
use Rattle.std_alloc.proofs.BoxSteps.Steps.{box_out, box_in}
use Rattle.cml_c.specs.contracts.keeper.Keeper.{the_row}
use Rattle.cml_c.specs.contracts.raw.Loose.{the_row as Loose}
use Rattle.cml_c.proofs.KeeperBoxLemmas.{Room, E, Boxed, boxed}
use Rattle.cml_c.specs.contracts.keeper.Keeper.of as f
use Rattle.cml_c.proofs.keeper.Keeper.of.Statement.{statement}
use Rattle.cml_c.proofs.keeper.Keeper.of.Code as code

pub of_spec : {M : Type 1} → statement M
of_spec 𝓤 𝓛 𝓜 𝓡 wired =
    let 𝓣 = tables 𝓤 𝓛.H 𝓜 𝓡 𝓡.env in let c = f.clauses 𝓛 𝓜.mem 𝓡.returns in let fn = code.function in
    let hs : Stays f.ended.signature.params f.ended.kept = (stay_dropped (plain (λ _. Loose Room Heap ghosts)) yes, tt) in
    proved_at 𝓛 f.ended hs c 𝓜 𝓡 (Goes-dropped 𝓛 0 (plain (λ _. Loose Room Heap ghosts)) yes (λ κs x w. refl), tt) f.Key.name fn
    (code.unfolded 𝓤 𝓛.H 𝓜 𝓡 wired) (λ z are.
    let κs = z.0.0 in
    let v = z.0.3.0 in
    let a = v.alloc in
    let Post : Val → SProp 𝓤 = (walk_of 𝓛 f.ended hs c).post z in
    let Run : List Val → SProp 𝓤 = λ us. WpFn 𝓤 𝓛.H 𝓣.C 𝓣.Λ fn us Post in
    qed 𝓛 ((‵ ftrue ⊛ ‵ (owns (types_at f.ended.signature.params κs) z.0.3 z.0.4)) ∷ raw ((c κs z.0.3).requires z.1) ∷ []) ∵
    split ! $ move ! (1 ∷ []) $ fsplit ! $
    use1 𝓛 (‵ (Boxed.own_val (boxed v.at a v.content) z.0.4.0)) (id⊢ 𝓤 _) $
    box_out E ! (boxed v.at a v.content) z.0.4.0 (λ b o h e us fits. let w : Val = box.word E h b o in
    let made : the_row.Denot = record { at = block_ptr b o; alloc = a; kept = v.content } in
    let good = box.box_typed E h b o fits in
    -- [what lies there; what gives its block back; the allocator; nothing; the token; what is required]
    keep ! (0 ∷ 1 ∷ 2 ∷ 4 ∷ []) $
    suffices ! (Run (w ∷ [])) (subst (λ (ws : List Val). ent 𝓤 (Run (w ∷ [])) (Run ws)) (sym (λ i. us i ++ [])) (id⊢ 𝓤 (Run (w ∷ [])))) $
    enter ! 𝓣.C 𝓣.Λ fn (w ∷ []) Post $ alloc_all ! (λ l. pass_all ! refl (good, tt) $
    sets ! (of_opd ! (get_in ! (fld ! refl (stop !)) (sub ! 0 refl (whole !)))) refl (tt, tt) $
    sets ! (of_opd ! (get_in ! (fld ! refl (stop !)) (sub ! 1 refl (whole !)))) refl fits $
    sets ! (of_opd ! (get ! refl)) refl (tt, tt) $
    sets ! (agg ! (and_then ! (get ! refl) (and_then ! (get ! refl) (no_more !)))) refl good $
    box_in E ! (boxed (block_ptr b o) a v.content) b o v.content refl refl $ use1 𝓛 (‵ (the_row.own_val made (w ∷ []))) (id⊢ 𝓤 _) $
    use0 𝓛 (raw (fact 𝓤 (v.content ≡ v.content))) (fact_i 𝓤 (v.content ≡ v.content) (emp 𝓤) refl) $
    nothing ! $ nothing ! $ fjoin ! $ returns ! (look_at ! 0 refl) $ free_all ! refl $ keep ! (3 ∷ 0 ∷ 2 ∷ 1 ∷ []) $
    by ! (leaves 𝓛 f.ended hs c z w made (tt, tt) (tt, tt)))))
