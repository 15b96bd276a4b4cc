-- `none` makes a value of no bytes, which names no entry.
use Rattle.cml_board.proofs.GhostEntriesLemmas.{[], ◌∷◌, ◌≡◌, refl, raw, ‵, ◌⊛◌, ◌$◌, ◌∵◌, !, qed, by, keep, split, fjoin, use0, emp}
use Rattle.cml_board.proofs.GhostEntriesLemmas.{ftrue, flft, fact, fact_i, a_type, inst_fn, enter, alloc_all, pass_all, free_all}
use Rattle.cml_board.proofs.GhostEntriesLemmas.{look_at, get, sets, agg, no_more, and_then, returns, nothing, tables, proved, leaves}
use Rattle.cml_board.proofs.GhostEntriesLemmas.{RattleType, param, layouts, mark, Marked, mark_made}
use Rattle.cml_board.specs.contracts.ghost_entries.GhostEntries.{the_row}
use Rattle.cml_board.specs.contracts.ghost_entries.GhostEntries.none as f
use Rattle.cml_board.proofs.ghost_entries.GhostEntries.none.Statement.{statement}
use Rattle.cml_board.proofs.ghost_entries.GhostEntries.none.Code as code

pub none_spec : {M : Type 1} → statement M
none_spec 𝓤 𝓛 𝓜 𝓡 wired X L =
    let 𝓣 = tables 𝓤 𝓛.H 𝓜 𝓡 𝓡.env in
    let R : RattleType = param 0 X in
    let c = f.clauses X 𝓛 𝓜.mem 𝓡.returns in
    let inst = layouts (a_type ∷ []) (X, tt) in
    let fn = inst_fn inst code.function in
    let bare : (the_row R).Denot = record { mark = record {}; items = [] } in
    proved 𝓛 (f.ended X) tt c 𝓜 𝓡 tt (f.Key.name inst) fn (code.unfolded 𝓤 𝓛.H 𝓜 𝓡 wired (X, tt)) (λ κs. tt)
    (λ κs. tt) (λ κs qs bounds a gh are.
    qed 𝓛 (((‵ (flft κs.0 qs.0) ⊛ ‵ ftrue) ⊛ ‵ ftrue) ∷ raw (fact 𝓤 _) ∷ ‵ ftrue ∷ []) ∵ keep ! (0 ∷ []) $ split ! $ keep ! (0 ∷ []) $
    enter ! 𝓣.C 𝓣.Λ fn [] _ $ alloc_all ! (λ l. pass_all ! refl tt $
    sets ! (agg ! (no_more !)) refl (tt, tt) $ sets ! (agg ! (and_then ! (get ! refl) (no_more !))) refl (tt, (tt, tt)) $
    nothing ! $ use0 𝓛 (‵ ((Marked R).own_val (tt, tt) (mark ∷ []))) (mark_made R 𝓛) $ fjoin ! $
    use0 𝓛 (raw (fact 𝓤 (bare.items ≡ []))) (fact_i 𝓤 (bare.items ≡ []) (emp 𝓤) refl) $ nothing ! $
    returns ! (look_at ! 0 refl) $ free_all ! refl $ keep ! (3 ∷ 0 ∷ 2 ∷ 1 ∷ []) $
    by ! (leaves 𝓛 (f.ended X) tt c ((κs, qs, bounds, a, tt), gh) mark bare tt tt)))
