-- `as_mut` lends what lies there, and the handle follows it.
use Rattle.cml_log.proofs.WalksLemmas.{List, [], ◌∷◌, ◌≡◌, refl, sym, raw, ‵, ◌⊛◌, some, later, ◌$◌, ◌∵◌, !, at_ret, qed, by, keep, move}
use Rattle.cml_log.proofs.WalksLemmas.{split, split3, join, group, fsplit, fsplit3, fjoin, fpack, pick, await, use0, use1, rewrite, done}
use Rattle.cml_log.proofs.WalksLemmas.{id⊢, ent, sep, sem, emp, ftrue, fsep, flft, Fml, GName, Logic, full_share, fact, fact_i, SProp, Val}
use Rattle.cml_log.proofs.WalksLemmas.{vptr, named, bare, owns, types_at, enter, alloc_all, pass_all, free_all, look_at, get, through}
use Rattle.cml_log.proofs.WalksLemmas.{sets, sets_last, of_opd, addr, fld, stop, sub, whole, first, blocks, exec, env, tail, returns}
use Rattle.cml_log.proofs.WalksLemmas.{nothing, opens, tables, proved, leaves, no, Stays, stay_dropped, mut_ref_to, plain, Goes-spent_ref}
use Rattle.cml_log.proofs.WalksLemmas.{walk_of, mem, cell_at, lone, mut_vals, mut_Tells, MutRef, Ptr, block_ptr, lies_at}
use Prim.Native.Nat.{ℕ}
use seplogic.Ra.Ura.{Ura}
use types.Part.{look_in}
use types.Run.{load}
use denote.Memory.{part_of}
use denote.Follow.{follows, lends_Part}
use Rattle.std.specs.contracts.alloc.Global.{the_row as Heap}
use Rattle.std.specs.contracts.impls.GlobalAllocator.TheImpl.{ghosts}
use Rattle.cml_c.specs.{Owned, with_owned}
use Rattle.std_alloc.proofs.BoxSteps.Form as box
use Rattle.std_alloc.proofs.BoxSteps.Steps.{box_out, box_in}
use Rattle.cml_c.specs.contracts.handle.Handle.{the_row}
use Rattle.cml_c.proofs.HandleBoxLemmas.{Room, E, Boxed, boxed}
use Rattle.cml_c.specs.contracts.handle.Handle.as_mut as f
use Rattle.cml_c.proofs.handle.Handle.as_mut.Statement.{statement}
use Rattle.cml_c.proofs.handle.Handle.as_mut.Code as code

module _ {M : Type 1} {𝓤 : Ura M} (𝓛 : Logic 𝓤) (d : the_row.Denot) (b o pb po : ℕ) (h : Val) where
  -- all but what lies there
  abbrev Rest : Fml
  Rest = fsep (ghosts.dealloc_token d.alloc (bare (lone Room.mir)) (block_ptr pb po))
      (fsep (Heap.own_val d.alloc (h ∷ [])) (cell_at full_share the_row.mir (box.word E h pb po ∷ []) b o))

  back : d.at ≡ block_ptr pb po → (w : Owned)
      → ent 𝓤 (sep 𝓤 (sem 𝓛 ((mem Room).own_at w pb po)) (sem 𝓛 Rest)) (sem 𝓛 ((mem the_row).own_at (with_owned d w) b o))
  unfolding part_of
  back e w = let us = box.word E h pb po ∷ [] in
      qed 𝓛 (‵ (lies_at Room full_share (block_ptr pb po) w) ∷ ‵ Rest ∷ []) ∵ move ! (1 ∷ []) $ fsplit3 ! $ move ! (3 ∷ 0 ∷ []) $
      box_in E ! (boxed (block_ptr pb po) d.alloc w) pb po w refl refl $
      use1 𝓛 (‵ (the_row.own_val (record { at = block_ptr pb po; alloc = d.alloc; owned = w }) us)) (id⊢ 𝓤 _) $
      rewrite ! 0 (λ (p : Ptr). ‵ (the_row.own_val (record { at = p; alloc = d.alloc; owned = w }) us)) (sym e) refl $
      move ! (1 ∷ 0 ∷ []) $ fjoin ! $
      fpack ! (List Val) (λ vs. fsep (cell_at full_share the_row.mir vs b o) (the_row.own_val (with_owned d w) vs)) us $ done !

pub as_mut_spec : {M : Type 1} → statement M
as_mut_spec 𝓤 𝓛 𝓜 𝓡 wired =
    let 𝓣 = tables 𝓤 𝓛.H 𝓜 𝓡 𝓡.env in let c = f.clauses 𝓛 𝓜.mem 𝓡.returns in let fn = code.function in
    let hs : Stays f.ended.signature.params f.ended.kept = (stay_dropped (mut_ref_to (0 ∷ []) tt (plain (λ _. the_row))) no, tt) in
    proved 𝓛 f.ended hs c 𝓜 𝓡 (Goes-spent_ref 𝓛 1 (0 ∷ []) tt (plain (λ _. the_row)), tt) f.Key.name fn (code.unfolded 𝓤 𝓛.H 𝓜 𝓡 wired)
    (λ κs. (mut_vals, tt)) (λ κs. (mut_Tells (named 0) κs.0 the_row, tt)) (λ κs qs bounds a gh are.
    let κ = κs.0 in
    let q = qs.0 in
    let b = a.0.ref_ptr.0 in
    let o = a.0.ref_ptr.1 in
    let γ = a.0.ghost_name in
    let d : the_row.Denot = a.0.now in
    let y : (walk_of 𝓛 f.ended hs c).Ghost = ((κs, qs, bounds, a, (vptr b o ∷ [], tt)), gh) in
    let Post : Val → SProp 𝓤 = (walk_of 𝓛 f.ended hs c).post y in
    qed 𝓛 (((‵ (flft κ q) ⊛ ‵ ftrue) ⊛ ‵ (owns (types_at f.ended.signature.params κs) a y.0.4)) ∷ raw ((c κs a).requires gh) ∷ []) ∵
    split ! $ split ! $ move ! (2 ∷ []) $ fsplit ! $ fsplit3 ! $ keep ! (1 ∷ 2 ∷ 4 ∷ 5 ∷ []) $
    enter ! 𝓣.C 𝓣.Λ fn (vptr b o ∷ []) Post $ alloc_all ! (λ l. pass_all ! refl ((tt, tt), tt) $
    opens ! tt the_row {h = d} b o (λ vs. move ! (1 ∷ []) $ use1 𝓛 (‵ (Boxed.own_val (boxed d.at d.alloc d.owned) vs)) (id⊢ 𝓤 _) $
    box_out E ! (boxed d.at d.alloc d.owned) vs (λ pb po h e us fits.
    let there : Val = vptr pb po in let way = back 𝓛 d b o pb po h e in let rest : Fml = Rest 𝓛 d b o pb po h in
    rewrite ! 3 (λ (ws : List Val). ‵ (cell_at full_share the_row.mir ws b o)) us refl $
    -- [what lies there; what gives its block back; the allocator; the cell; the open borrow, in three; the tokens]
    first ! $ blocks ! $
    sets ! (of_opd ! (load ! (through ! refl (fld ! refl (stop !))) (look_in ! 3 (sub ! 0 refl (whole !))))) refl (tt, tt) $
    sets ! (of_opd ! (get ! refl)) refl (tt, tt) $ sets_last ! (addr ! (through ! refl (stop !))) refl (tt, tt) $
    exec ! 𝓣.C 𝓣.Λ (env fn.locals l) (tail fn.body) (at_ret _ Post) $ sets ! (of_opd ! (get ! refl)) refl (tt, tt) $
    move ! (2 ∷ 3 ∷ []) $ fjoin ! $ move ! (2 ∷ 0 ∷ []) $ fjoin ! $ move ! (2 ∷ 3 ∷ 4 ∷ 1 ∷ 0 ∷ []) $ group ! 5 $
    use1 𝓛 (later (some (λ (δ : GName). ‵ ((MutRef (named 0) κ Room).own_val (record { ref_ptr = (pb, po); ghost_name = δ; now = d.owned })
    (there ∷ [])) ⊛ ‵ (flft κ q) ⊛ ‵ (follows the_row Room γ δ (with_owned d)))))
    (lends_Part 𝓛 the_row Room (with_owned d) (named 0) κ q b o pb po γ (sem 𝓛 rest) way (the_row.coded.code d)
    (the_row.coded.code d) d.owned) $ await ! tt $ pick ! (λ δ. split3 ! $
    use0 𝓛 (raw (fact 𝓤 (d.owned ≡ d.owned))) (fact_i 𝓤 (d.owned ≡ d.owned) (emp 𝓤) refl) $ move ! (3 ∷ 0 ∷ []) $ join ! $ move ! (2 ∷ 3 ∷ []) $
    join ! $ nothing ! $ nothing ! $ fjoin ! $
    returns ! (look_at ! 0 refl) $ free_all ! refl $ keep ! (1 ∷ 0 ∷ 3 ∷ 2 ∷ []) $
    by ! (leaves 𝓛 f.ended hs c y there (record { ref_ptr = (pb, po); ghost_name = δ; now = d.owned }) (tt, tt) (tt, tt)))))))
