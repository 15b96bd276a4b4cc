-- `get_mut` lends one content, and the blocks follow it.
use Rattle.cml_log.proofs.WalksLemmas.{List, [], ◌∷◌, ◌≡◌, refl, sym, Option, Some, None, slice_index_or, slice_set, raw, ‵, ◌⊛◌}
use Rattle.cml_log.proofs.WalksLemmas.{some, later, ◌$◌, ◌∵◌, !, at_ret, qed, by, keep, move, split, split3, join, group, fsplit}
use Rattle.cml_log.proofs.WalksLemmas.{fsplit3, fjoin, fpack, pick, await, use0, use1, use2, rewrite, done, id⊢, ent, sep, sem}
use Rattle.cml_log.proofs.WalksLemmas.{emp, never, ftrue, fsep, fat, flft, Fml, GName, Logic, full_share, fact, fact_i, SProp, Val}
use Rattle.cml_log.proofs.WalksLemmas.{vptr, a_type, named, bare, inst_fn, owns, types_at, enter, alloc_all, pass_all, free_all}
use Rattle.cml_log.proofs.WalksLemmas.{look_at, get, get_in, through, sets, sets_last, take_at, give_at, of_opd, addr, fld, stop}
use Rattle.cml_log.proofs.WalksLemmas.{sub, whole, first, blocks, exec, env, tail, returns, nothing, heard, opens, tables, proved}
use Rattle.cml_log.proofs.WalksLemmas.{leaves, RattleType, param, layout, layouts, yes, no, Stays, stay_dropped, plain, mut_ref_to}
use Rattle.cml_log.proofs.WalksLemmas.{Goes-dropped, Goes-spent_ref, walk_of, mem, cell_at, lone, mut_vals, mut_Tells, MutRef, Ptr}
use Rattle.cml_log.proofs.WalksLemmas.{block_ptr, in_a_block, lies_at, token, IsKept, block_at, block_owns, blocks_own}
use Prim.Native.Nat.{ℕ}
use seplogic.Ra.Ura.{Ura}
use denote.Memory.{part_of}
use denote.Follow.{follows, lends_Part}
use Rattle.cml_log.specs.{with_content}
use Rattle.cml_log.proofs.BlockMemoryLemmas.{block_cut, block_glue}
use Rattle.cml_log.proofs.BlockValuesLemmas.{Marking}
use Rattle.cml_log.proofs.chunk.raw.Address.TheLaws as address_laws
use Rattle.cml_log.specs.contracts.chunk.raw.Address.{the_row as Address}
use Rattle.cml_log.specs.contracts.chunk.raw.Blocks.{the_row}
use Rattle.cml_log.specs.contracts.chunk.raw.Blocks.get_mut as f
use Rattle.cml_log.proofs.chunk.raw.Blocks.get_mut.Statement.{statement}
use Rattle.cml_log.proofs.chunk.raw.Blocks.get_mut.Code as code

module _ (R : RattleType) {M : Type 1} {𝓤 : Ura M} (𝓛 : Logic 𝓤) (d : (the_row R).Denot) (n : ℕ) (at : Ptr) (b o : ℕ) (vs : List Val) where
  -- all but the content
  abbrev Rest : Fml
  Rest = fsep (token (bare (lone R.mir)) at)
      (fsep (blocks_own R (slice_set d.kept n None)) (fsep ((Marking R).own_val (tt, tt) vs) (cell_at full_share (the_row R).mir vs b o)))

  back : (pb po : ℕ) → at ≡ block_ptr pb po → (w : R.Denot)
      → ent 𝓤 (sep 𝓤 (sem 𝓛 ((mem R).own_at w pb po)) (sem 𝓛 Rest)) (sem 𝓛 ((mem (the_row R)).own_at (with_content d n at w) b o))
  unfolding part_of
  back pb po e w = let new = with_content d n at w in
      qed 𝓛 (‵ (lies_at R full_share (block_ptr pb po) w) ∷ ‵ Rest ∷ []) ∵
      rewrite ! 0 (λ (p : Ptr). ‵ (lies_at R full_share p w)) (sym e) refl $
      move ! (1 ∷ []) $ fsplit ! $ move ! (2 ∷ 0 ∷ []) $ fjoin ! $ move ! (1 ∷ []) $ fsplit3 ! $ move ! (3 ∷ 0 ∷ []) $
      use2 𝓛 (‵ (blocks_own R new.kept)) (block_glue R 𝓛 d.kept n (Some (at, w))) $ move ! (1 ∷ 0 ∷ []) $
      fjoin ! $ move ! (1 ∷ 0 ∷ []) $ fjoin ! $
      fpack ! (List Val) (λ us. fsep (cell_at full_share (the_row R).mir us b o) ((the_row R).own_val new us)) vs $ done !

pub get_mut_spec : {M : Type 1} → statement M
get_mut_spec 𝓤 𝓛 𝓜 𝓡 wired X L =
    let 𝓣 = tables 𝓤 𝓛.H 𝓜 𝓡 𝓡.env in let R : RattleType = param 0 X in let En = f.ended X in let c = f.clauses X 𝓛 𝓜.mem 𝓡.returns in
    let inst = layouts (a_type ∷ []) (X, tt) in let fn = inst_fn inst code.function in let Row : RattleType = the_row R in
    let hs : Stays En.signature.params En.kept =
    (stay_dropped (mut_ref_to (0 ∷ []) tt (plain (λ _. Row))) no, (stay_dropped (plain (λ _. Address)) yes, tt)) in
    proved 𝓛 En hs c 𝓜 𝓡
    (Goes-spent_ref 𝓛 2 (0 ∷ []) tt (plain (λ _. Row)), (Goes-dropped 𝓛 2 (plain (λ _. Address)) yes (λ κs x w. refl), tt))
    (f.Key.name inst) fn (code.unfolded 𝓤 𝓛.H 𝓜 𝓡 wired (X, tt))
    (λ κs. (mut_vals, ((λ d. address_laws.lowered d ∷ []), tt)))
    (λ κs. (mut_Tells (named 0) κs.0 Row, (address_laws.lowers.val_is, tt))) (λ κs qs bounds a gh are.
    let κ = κs.0 in
    let q = qs.0 in
    let b = a.0.ref_ptr.0 in
    let o = a.0.ref_ptr.1 in
    let γ = a.0.ghost_name in
    let d : Row.Denot = a.0.now in
    let address = a.1.0 in
    let others : Fml = fsep (flft κs.1.0 qs.1.0) ftrue in
    let at : Ptr = address.at in
    let n = address.number in
    let Asked : Type 0 = IsKept d.kept n at in
    let w : Val = address_laws.lowered address in
    let new : X.Denot → Row.Denot = with_content d n at in
    let y : (walk_of 𝓛 En hs c).Ghost = ((κs, qs, bounds, a, (vptr b o ∷ [], (w ∷ [], tt))), gh) in
    let Post : Val → SProp 𝓤 = (walk_of 𝓛 En hs c).post y in
    qed 𝓛 (((‵ (flft κ q) ⊛ ‵ others) ⊛ ‵ (owns (types_at En.signature.params κs) a y.0.4)) ∷ raw (fact 𝓤 _) ∷ raw (fact 𝓤 Asked) ∷ []) ∵
    keep ! (2 ∷ 0 ∷ []) $ heard ! Asked (λ asked. let x : X.Denot = asked.0 in let value_is : Type 0 = block_at d.kept n ≡ Some (at, x) in
    split ! $ split ! $ move ! (2 ∷ []) $ fsplit ! $ fsplit3 ! $ keep ! (1 ∷ 2 ∷ 4 ∷ 5 ∷ []) $
    enter ! 𝓣.C 𝓣.Λ fn (vptr b o ∷ w ∷ []) Post $
    alloc_all ! (λ l. pass_all ! refl ((tt, tt), (((address_laws.the_row_laws.lawful 𝓛).typed address (w ∷ []) are.1.0).0, tt)) $
    opens ! tt Row {h = d} b o (λ vs. move ! (1 ∷ []) $ fsplit ! $ move ! (1 ∷ []) $
    use1 𝓛 (‵ (block_owns R (slice_index_or d.kept n None)) ⊛ ‵ (blocks_own R (slice_set d.kept n None))) (block_cut R 𝓛 d.kept n) $
    split ! $
    rewrite ! 0 (λ (slot : Option (Ptr × X.Denot)). ‵ (block_owns R slot)) asked.1 refl $ fsplit ! $
    in_a_block ! at (λ p. lies_at R full_share p x) (id⊢ 𝓤 (never 𝓤)) (λ pb po e. let there : Val = vptr pb po in
    let way = back R 𝓛 d n at b o vs pb po e in
    let rest : Fml = Rest R 𝓛 d n at b o vs in
    -- [the content; what gives its block back; the other blocks; the mark; the cell; the open borrow, in three; the tokens]
    take_at ! 2 $
    rewrite ! 0 (λ (p : Ptr). ‵ (fat full_share (layout Address) (l 2) 0 (address_laws.lowered (record address { at = p })))) e refl $
    give_at ! 2 $
    first ! $ blocks ! $ sets ! (of_opd ! (get_in ! (fld ! refl (stop !)) (sub ! 0 refl (whole !)))) refl (tt, tt) $
    sets_last ! (addr ! (through ! refl (stop !))) refl (tt, tt) $ exec ! 𝓣.C 𝓣.Λ (env fn.locals l) (tail fn.body) (at_ret _ Post) $
    sets ! (of_opd ! (get ! refl)) refl (tt, tt) $
    move ! (3 ∷ 4 ∷ []) $ fjoin ! $ move ! (3 ∷ 0 ∷ []) $ fjoin ! $ move ! (2 ∷ 0 ∷ []) $ fjoin ! $
    move ! (2 ∷ 3 ∷ 4 ∷ 1 ∷ 0 ∷ []) $ group ! 5 $
    use1 𝓛
    (later (some (λ (δ : GName). ‵ ((MutRef (named 0) κ R).own_val (record { ref_ptr = (pb, po); ghost_name = δ; now = x }) (there ∷ []))
    ⊛ ‵ (flft κ q) ⊛ ‵ (follows Row R γ δ new))))
    (lends_Part 𝓛 Row R new (named 0) κ q b o pb po γ (sem 𝓛 rest) way (Row.coded.code d) (Row.coded.code d) x) $
    await ! tt $ pick ! (λ δ. split3 ! $
    use0 𝓛 (raw (fact 𝓤 value_is)) (fact_i 𝓤 value_is (emp 𝓤) asked.1) $ move ! (3 ∷ 0 ∷ []) $ join ! $ move ! (2 ∷ 3 ∷ []) $ join ! $
    nothing ! $ nothing ! $ fjoin ! $ nothing ! $ fjoin ! $
    returns ! (look_at ! 0 refl) $ free_all ! refl $ keep ! (1 ∷ 0 ∷ 3 ∷ 2 ∷ []) $
    by ! (leaves 𝓛 En hs c y there (record { ref_ptr = (pb, po); ghost_name = δ; now = x }) (tt, (tt, tt)) (tt, (tt, tt)))))))))
