-- `zero` makes a value of no bytes.
use Rattle.cml_log.proofs.WalksLemmas.{[], ◌∷◌, refl, raw, ‵, ◌$◌, ◌∵◌, !, qed, by, keep, fjoin, use0, emp, ftrue, fact, fact_i}
use Rattle.cml_log.proofs.WalksLemmas.{enter, alloc_all, pass_all, free_all, look_at, get, sets, agg, no_more, and_then}
use Rattle.cml_log.proofs.WalksLemmas.{returns, nothing, tables, proved, leaves, ◌≡◌}
use Rattle.cml_log.proofs.BlockValuesLemmas.{mark, count_made, Counting}
use denote.Triple.Entry.{on_entry}
use Rattle.cml_log.specs.{Counter}
use Rattle.cml_log.specs.contracts.chunk.raw.Counter.zero as f
use Rattle.cml_log.proofs.chunk.raw.Counter.zero.Statement.{statement}
use Rattle.cml_log.proofs.chunk.raw.Counter.zero.Code as code

pub zero_spec : {M : Type 1} → statement M
zero_spec 𝓤 𝓛 𝓜 𝓡 wired =
    let 𝓣 = tables 𝓤 𝓛.H 𝓜 𝓡 𝓡.env in let c = f.clauses 𝓛 𝓜.mem 𝓡.returns in let none : Counter = record { mark = record {}; count = 0 } in
    proved 𝓛 f.ended tt c 𝓜 𝓡 tt f.Key.name code.function (code.unfolded 𝓤 𝓛.H 𝓜 𝓡 wired) (λ κs. tt) (λ κs. tt) (λ κs qs bounds a gh are.
    qed 𝓛 (raw (on_entry 𝓛 f.signature κs qs a tt) ∷ ‵ ftrue ∷ []) ∵ keep ! [] $
    enter ! 𝓣.C 𝓣.Λ code.function [] _ $ alloc_all ! (λ l. pass_all ! refl tt $
    sets ! (agg ! (no_more !)) refl (tt, tt) $ sets ! (agg ! (and_then ! (get ! refl) (no_more !))) refl (tt, (tt, tt)) $
    nothing ! $ use0 𝓛 (‵ (Counting.own_val (tt, tt) (mark ∷ []))) (count_made 𝓛) $ fjoin ! $
    use0 𝓛 (raw (fact 𝓤 (0 ≡ 0))) (fact_i 𝓤 (0 ≡ 0) (emp 𝓤) refl) $ nothing ! $ nothing ! $
    returns ! (look_at ! 0 refl) $ free_all ! refl $ keep ! (1 ∷ 0 ∷ 3 ∷ 2 ∷ []) $
    by ! (leaves 𝓛 f.ended tt c ((κs, qs, bounds, a, tt), gh) mark none tt tt)))
