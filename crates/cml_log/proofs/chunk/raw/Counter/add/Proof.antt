-- `add` opens the count and closes it at the next number.
use Rattle.cml_log.proofs.WalksLemmas.{List, [], ◌∷◌, ◌+◌, ◌≡◌, refl, raw, ‵, ◌⊛◌, ◌$◌, ◌∵◌, !, qed, by, keep, move, split, fsplit, fsplit3}
use Rattle.cml_log.proofs.WalksLemmas.{fjoin, fjoin3, feq_i, use0, use1, id⊢, emp, ftrue, flft, fact, fact_i, named, Val, vunit, vptr, owns}
use Rattle.cml_log.proofs.WalksLemmas.{enter, alloc_all, pass_all, free_all, look_at, sets, of_opd, unit_lit, returns, nothing, opens}
use Rattle.cml_log.proofs.WalksLemmas.{closes, tables, proved, leaves, Stays, stay_ref, plain, Goes-ref, mut_vals, mut_Tells, types_at}
use Rattle.cml_log.specs.{Counter}
use Rattle.cml_log.specs.contracts.chunk.raw.Counter.{the_row}
use Rattle.cml_log.specs.contracts.chunk.raw.Counter.add as f
use Rattle.cml_log.proofs.chunk.raw.Counter.add.Statement.{statement}
use Rattle.cml_log.proofs.chunk.raw.Counter.add.Code as code

abbrev stayed : Stays f.ended.signature.params f.ended.kept
stayed = (stay_ref (0 ∷ []) tt (plain (λ _. the_row)), tt)

pub add_spec : {M : Type 1} → statement M
add_spec 𝓤 𝓛 𝓜 𝓡 wired =
    let 𝓣 = tables 𝓤 𝓛.H 𝓜 𝓡 𝓡.env in let c = f.clauses 𝓛 𝓜.mem 𝓡.returns in
    proved 𝓛 f.ended stayed c 𝓜 𝓡 (Goes-ref 𝓛 1 0 tt (plain (λ _. the_row)), tt) f.Key.name code.function (code.unfolded 𝓤 𝓛.H 𝓜 𝓡 wired)
    (λ κs. (mut_vals, tt)) (λ κs. (mut_Tells (named 0) κs.0 the_row, tt)) (λ κs qs bounds a gh are.
    let b = a.0.ref_ptr.0 in
    let o = a.0.ref_ptr.1 in
    let old : Counter = a.0.now in
    let new : Counter = record { mark = old.mark; count = old.count + 1 } in
    qed 𝓛 (((‵ (flft κs.0 qs.0) ⊛ ‵ ftrue) ⊛ ‵ (owns (types_at f.signature.params κs) a (mut_vals a.0, tt))) ∷ ‵ ftrue ∷ []) ∵
    split ! $ split ! $ move ! (2 ∷ []) $ fsplit ! $ fsplit3 ! $ keep ! (1 ∷ 2 ∷ 4 ∷ []) $
    enter ! 𝓣.C 𝓣.Λ code.function (vptr b o ∷ []) _ $ alloc_all ! (λ l. pass_all ! refl ((tt, tt), tt) $
    opens ! tt the_row {h = old} b o (λ us. move ! (1 ∷ []) $ use1 𝓛 (‵ (the_row.own_val new us)) (id⊢ 𝓤 _) $
    move ! (1 ∷ 0 ∷ []) $ closes ! tt the_row new us b o $
    feq_i ! (List Val) (vptr b o ∷ []) (vptr b o ∷ []) refl $ fjoin3 ! $ nothing ! $ move ! (1 ∷ 0 ∷ []) $ fjoin ! $
    nothing ! $ move ! (2 ∷ 0 ∷ []) $ fjoin ! $
    sets ! (of_opd ! (unit_lit !)) refl (tt, tt) $
    use0 𝓛 (raw (fact 𝓤 (new.count ≡ old.count + 1))) (fact_i 𝓤 (new.count ≡ old.count + 1) (emp 𝓤) refl) $
    feq_i ! (List Val) (vunit ∷ []) (vunit ∷ []) refl $
    returns ! (look_at ! 0 refl) $ free_all ! refl $ keep ! (2 ∷ 3 ∷ 0 ∷ 1 ∷ []) $
    by ! (leaves 𝓛 f.ended stayed c ((κs, qs, bounds, a, (mut_vals a.0, tt)), gh) vunit tt (new, tt) (tt, tt)))))
