-- What recovery finds in the file that has the name.
use Rattle.std.proofs.Common.{◌≡◌, ℕ, ◌+◌, ◌-◌, ◌^◌, ◌≤◌, min, Bool, true, false, cond, List, [], ◌++◌, length, take, drop, sym, ◌∙◌, ap, arith, take-append-drop, length-append}
use Rattle.std.proofs.lemmas.List.{append-nil}
use Rattle.std.proofs.Math.Nat.{min-le_left, min-le_right}
use Rattle.std.proofs.Math.Seq.{take-append-add}
use Rattle.cml_store.specs.declared.exchange.Way.{Way}
use Rattle.cml_store.specs.Disk.{MayLeave}
use Rattle.cml_store.specs.Exchange.{Holder, Old, Either, New, holder, place, counted_at}
use Rattle.cml_store.specs.Pair.{Pair, HasName, file_of, crossing, text_at, stored_of, synced_of, StandsFor}
use Rattle.cml_store.specs.Recovery.{recovered}
use Rattle.cml_store.specs.World.{World, MayRead, IsPast}
use Rattle.cml_store.proofs.Holds.{Holds, closed_at, read_part}
use Rattle.cml_store.proofs.Names.{HasHolder, has}
use Rattle.cml_store.proofs.Pairs.{taken_front, Crossed, PairHolds, AtHolder, at_holder}
use Rattle.cml_store.proofs.Runs.{past}

-- a place counts for no more than it stands for
place_most : (taken short mark n : ℕ) → mark ≤ n → min (taken + (mark - short)) (2 ^ 64 - 1) ≤ taken + (n - short)
place_most taken short mark n le =
    omega (arith, le, min-le_left (taken + (mark - short)) (2 ^ 64 - 1))

module _ (whole front : List ℕ → Bool) (limit growth : ℕ) (long short : List ℕ) (none : whole [] ≡ true)
    (means : List ℕ → List ℕ) (same : (more : List ℕ) → means (short ++ more) ≡ means (long ++ more)) where
  abbrev Stands : ℕ → List ℕ → List ℕ → Type 0
  Stands mark text c = (n : ℕ) × (mark ≤ n) × (n ≤ length text) × (means (recovered whole c) ≡ means (take n text))

  -- in the new file
  in_new : (mark : ℕ) (rest tail : List ℕ) (w : World) (c : List ℕ) → short ++ rest ≡ w.text ++ tail → length short ≤ mark
      → IsPast whole front limit growth mark w c
      → (n : ℕ) × (length long + (mark - length short) ≤ n) × (n ≤ length (long ++ rest))
      × (means (recovered whole c) ≡ means (take n (long ++ rest)))
  in_new mark rest tail w c is low p =
      let m = p.0 in
      let more = m - length short in
      let all = ap length is in (
        length long + more,
        omega (arith, p.1),
        omega (arith, p.2, p.1, low, all, length-append short rest, length-append w.text tail, length-append long rest),
        ap means (p.3 ∙ taken_front m short rest w.text tail is (omega (arith, low, p.1)) p.2)
            ∙ same (take more rest) ∙ ap means (sym (take-append-add long rest more)),
      )

  in_crossed : (mark : ℕ) (w : World) (c : List ℕ) → Crossed whole front limit growth long short none w → length short ≤ mark
      → IsPast whole front limit growth mark w c
      → (n : ℕ) × (length long + (mark - length short) ≤ n) × (n ≤ length (long ++ drop (length short) w.text))
      × (means (recovered whole c) ≡ means (take n (long ++ drop (length short) w.text)))
  in_crossed mark w c k low p =
      let rest = drop (length short) w.text in
      in_new mark rest [] w c
      (ap (λ t. t ++ rest) (sym k.begins) ∙ take-append-drop (length short) w.text ∙ sym (append-nil w.text)) low p

  found : (h : Holder) (way : Way) (is_new : Bool) (a b : ℕ) (p : Pair) (c : List ℕ)
      → AtHolder whole front limit growth long short none h p.old p.new → HasHolder h is_new → p.new.synced ≤ b
      → IsPast whole front limit growth (cond is_new b a) (file_of is_new p) c
      → Stands (counted_at h (crossing long short way) a b) (text_at long short h p.old.text p.new.text) c
  found Old way false a b p c at who le q = (q.0, q.1, q.2, ap means q.3)
  found Old way true a b p c at who le q = absurd who
  found Either way false a b p c at has le q =
      (q.0, omega (arith, q.1, min-le_left a (place (crossing long short way) b)), q.2, ap means q.3)
  found Either way true a b p c at has le q =
      let j = at.joined in
      let s = in_new b j.rest j.goes.0 p.new c j.goes.1 (omega (arith, at.high, le)) q in (
        s.0,
        omega (arith, s.1, place_most (length long) (length short) b b (omega arith), min-le_right a (place (crossing long short way) b)),
        omega (arith, s.2, ap length j.begins),
        s.3 ∙ ap (λ t. means (take s.0 t)) (sym j.begins),
      )
  found New way false a b p c at who le q = absurd who
  found New way true a b p c at has le q =
      let s = in_crossed b p.new c at (omega (arith, at.high, le)) q in (
        s.0,
        omega (arith, s.1, place_most (length long) (length short) b b (omega arith)),
        s.2,
        s.3,
      )

  past_synced : (w : World) (c : List ℕ) → Holds limit whole w → MayLeave w.disk c → IsPast whole front limit growth w.synced w c
  past_synced w c h left =
      let k = closed_at limit whole w.store.stage w h in
      past limit whole front growth none w.synced w c k.marks (omega (arith, k.marks.order, k.marks.within))
      k.marks.whole_synced (k.lasts c left)

  past_stored : (w : World) (c : List ℕ) → Holds limit whole w → MayRead whole front limit growth w c
      → IsPast whole front limit growth w.stored w c
  past_stored w c h left =
      let k = closed_at limit whole w.store.stage w h in
      past limit whole front growth none w.stored w c k.marks k.marks.within k.marks.whole_stored
      (read_part limit whole w.store.stage w w.disk.seen c k k.seen left)

  pub lost : (p : Pair) → PairHolds whole front limit growth long short none p → (is_new : Bool) (c : List ℕ)
      → HasName p.name is_new → MayLeave (file_of is_new p).disk c
      → StandsFor whole front limit growth long short means (synced_of long short p) p c
  lost p h false c found_so left =
      found (holder p.way) p.way false p.old.synced p.new.synced p c
      (at_holder whole front limit growth long short none p.way p.old p.new h.at) (has p.way p.name false h.fits found_so) (omega arith) (past_synced p.old c h.old left)
  lost p h true c found_so left =
      found (holder p.way) p.way true p.old.synced p.new.synced p c
      (at_holder whole front limit growth long short none p.way p.old p.new h.at) (has p.way p.name true h.fits found_so) (omega arith) (past_synced p.new c h.new left)

  pub killed : (p : Pair) → PairHolds whole front limit growth long short none p → (is_new : Bool) (c : List ℕ)
      → HasName p.name is_new → MayRead whole front limit growth (file_of is_new p) c
      → StandsFor whole front limit growth long short means (stored_of long short p) p c
  killed p h false c found_so left =
      found (holder p.way) p.way false p.old.stored p.new.stored p c
      (at_holder whole front limit growth long short none p.way p.old p.new h.at) (has p.way p.name false h.fits found_so)
      (closed_at limit whole p.new.store.stage p.new h.new).marks.order (past_stored p.old c h.old left)
  killed p h true c found_so left =
      found (holder p.way) p.way true p.old.stored p.new.stored p c
      (at_holder whole front limit growth long short none p.way p.old p.new h.at) (has p.way p.name true h.fits found_so)
      (closed_at limit whole p.new.store.stage p.new h.new).marks.order (past_stored p.new c h.new left)
