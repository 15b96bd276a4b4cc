-- `add_all` opens the entries and closes them with these after the others.
use Rattle.cml_board.proofs.GhostEntriesLemmas.{List, [], ◌∷◌, ◌++◌, ◌≡◌, refl, raw, ‵, ◌⊛◌, ◌$◌, ◌∵◌, !, qed, by, keep, move, split}
use Rattle.cml_board.proofs.GhostEntriesLemmas.{fsplit, fsplit3, join, fjoin, fjoin3, feq_i, use0, use1, id⊢, emp, ftrue, fsep, flft, Fml, fact}
use Rattle.cml_board.proofs.GhostEntriesLemmas.{fact_i, SProp, Val, vptr, vunit, a_type, named, inst_fn, owns, types_at, enter, alloc_all}
use Rattle.cml_board.proofs.GhostEntriesLemmas.{pass_all, free_all, look_at, sets, of_opd, unit_lit, returns, nothing, opens, closes, tables}
use Rattle.cml_board.proofs.GhostEntriesLemmas.{proved, leaves, RattleType, param, layouts, yes, Stays, stay_ref, stay_dropped, plain, RefOf}
use Rattle.cml_board.proofs.GhostEntriesLemmas.{Goes-ref, Goes-dropped, walk_of, mut_vals, mut_Tells, shr_vals, shr_Tells}
use Rattle.std.specs.contracts.alloc.Global.{the_row as Global}
use Rattle.std.specs.contracts.impls.GlobalAllocator.TheImpl.{ghosts}
use Rattle.std.specs.contracts.vec.Vec.{the_row as Vec}
use Rattle.cml_board.specs.contracts.ghost_entries.GhostEntries.{the_row}
use Rattle.cml_board.specs.contracts.ghost_entries.GhostEntries.add_all as f
use Rattle.cml_board.proofs.ghost_entries.GhostEntries.add_all.Statement.{statement}
use Rattle.cml_board.proofs.ghost_entries.GhostEntries.add_all.Code as code

pub add_all_spec : {M : Type 1} → statement M
add_all_spec 𝓤 𝓛 𝓜 𝓡 wired X L =
    let 𝓣 = tables 𝓤 𝓛.H 𝓜 𝓡 𝓡.env in let R : RattleType = param 0 X in let En = f.ended X in let c = f.clauses X 𝓛 𝓜.mem 𝓡.returns in
    let inst = layouts (a_type ∷ []) (X, tt) in let fn = inst_fn inst code.function in let Row : RattleType = the_row R in
    let Entries : RattleType = Vec R Global ghosts in let lent = RefOf (1 ∷ []) tt (plain (λ _. Entries)) (λ _. tt) in
    let hs : Stays En.signature.params En.kept = (stay_ref (0 ∷ []) tt (plain (λ _. Row)), (stay_dropped lent yes, tt)) in
    proved 𝓛 En hs c 𝓜 𝓡 (Goes-ref 𝓛 3 0 tt (plain (λ _. Row)), (Goes-dropped 𝓛 3 lent yes (λ κs x w. refl), tt)) (f.Key.name inst) fn
    (code.unfolded 𝓤 𝓛.H 𝓜 𝓡 wired (X, tt))
    (λ κs. (mut_vals, (shr_vals, tt))) (λ κs. (mut_Tells (named 0) κs.0 Row, (shr_Tells (named 1) κs.1.0 Entries, tt)))
    (λ κs qs bounds a gh are.
    let b = a.0.ref_ptr.0 in let o = a.0.ref_ptr.1 in let old : Row.Denot = a.0.now in let vs = shr_vals a.1.0 in
    let others : Fml = fsep (flft κs.1.0 qs.1.0) (fsep (flft κs.1.1.0 qs.1.1.0) ftrue) in
    let new : Row.Denot = record { mark = old.mark; items = old.items ++ a.1.0.now.items } in
    let y : (walk_of 𝓛 En hs c).Ghost = ((κs, qs, bounds, a, (vptr b o ∷ [], (vs, tt))), gh) in
    let Post : Val → SProp 𝓤 = (walk_of 𝓛 En hs c).post y in
    qed 𝓛 (((‵ (flft κs.0 qs.0) ⊛ ‵ others) ⊛ ‵ (owns (types_at En.signature.params κs) a y.0.4)) ∷ raw (fact 𝓤 _) ∷ ‵ ftrue ∷ []) ∵
    keep ! (0 ∷ []) $
    split ! $ split ! $ move ! (2 ∷ []) $ fsplit ! $ fsplit3 ! $ keep ! (1 ∷ 2 ∷ 4 ∷ 5 ∷ []) $
    enter ! 𝓣.C 𝓣.Λ fn (vptr b o ∷ vptr a.1.0.ref_ptr.0 a.1.0.ref_ptr.1 ∷ []) Post $
    alloc_all ! (λ l. pass_all ! refl ((tt, tt), ((tt, tt), tt)) $
    opens ! tt Row {h = old} b o (λ us. move ! (1 ∷ []) $ use1 𝓛 (‵ (Row.own_val new us)) (id⊢ 𝓤 _) $
    move ! (1 ∷ 0 ∷ []) $ closes ! tt Row new us b o $
    -- [the entries behind the reference; the tokens]
    feq_i ! (List Val) (vptr b o ∷ []) (vptr b o ∷ []) refl $ fjoin3 ! $ nothing ! $ nothing ! $ fjoin ! $ move ! (1 ∷ 0 ∷ []) $
    fjoin ! $ move ! (1 ∷ 2 ∷ []) $ join ! $
    sets ! (of_opd ! (unit_lit !)) refl (tt, tt) $ use0 𝓛 (raw (fact 𝓤 (new.items ≡ old.items ++ a.1.0.now.items)))
    (fact_i 𝓤 (new.items ≡ old.items ++ a.1.0.now.items) (emp 𝓤) refl) $
    feq_i ! (List Val) (vunit ∷ []) (vunit ∷ []) refl $
    returns ! (look_at ! 0 refl) $ free_all ! refl $ keep ! (2 ∷ 3 ∷ 0 ∷ 1 ∷ []) $
    by ! (leaves 𝓛 En hs c y vunit tt (new, (tt, tt)) (tt, (tt, tt))))))
