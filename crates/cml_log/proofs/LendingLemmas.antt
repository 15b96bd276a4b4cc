-- Lemmas on a walk over the items from a place on.
use Rattle.std.proofs.Common.{◌≡◌, ◌≢◌, ℕ, zero, suc, ◌+◌, ◌*◌, ◌/◌, ◌%◌, ◌<◌, ◌≤◌, List, [], ◌∷◌, ◌++◌, length, drop}
use Rattle.std.proofs.Common.{Some, None, sym, ap, ◌∙◌, arith, append_assoc}
use Rattle.std.specs.List.{slice_get}
use Rattle.std.specs.Borrow.{Bor}
use Rattle.std.proofs.Math.Nat.{div-add-mod, div-mul-le_self}
use Rattle.std.proofs.lemmas.Nat.{le-div}
use Rattle.std.proofs.Math.ListN.{drop_of_length-le}
use Rattle.std.proofs.lemmas.List.{append-nil, map-append}
use Rattle.std.proofs.lemmas.Option.{same_Some}
use Rattle.cml_log.specs.{lent, Address, Cursor, Chunks, LiesAt, end_of, HoldsChunk}
use Rattle.cml_log.proofs.MovedLemmas.{next_in, next_begins}

-- a list from a place on begins with the item there
from_item : {T : Type 0} (m : ℕ) (xs : List T) (x : T) → slice_get (drop m xs) 0 ≡ Some x → drop m xs ≡ x ∷ drop (m + 1) xs
from_item zero [] x is = absurd (cc)
from_item zero (y ∷ ys) x is = ap (λ z. z ∷ ys) (same_Some y x is)
from_item (suc m) [] x is = absurd (cc)
from_item (suc m) (y ∷ ys) x is =
    let same : suc (m + 1) ≡ suc m + 1 = omega arith in from_item m ys x is ∙ ap (λ k. x ∷ drop k (y ∷ ys)) same

-- there is one before the end
pub item_there : {T : Type 0} (m : ℕ) (xs : List T) → m < length xs → slice_get (drop m xs) 0 ≢ None
item_there m [] below none = absurd (omega (arith, below))
item_there zero (y ∷ ys) below none = absurd (cc)
item_there (suc m) (y ∷ ys) below none = item_there m ys (omega (arith, below)) none

module _ {T : Type 0} (items : List (Bor T)) (xs all : List T) (m : ℕ) (before : lent items ++ drop m xs ≡ all) where
  -- one item more is lent, and one less is left
  pub lent_more : (next : ℕ) (item : Bor T) → next ≡ m + 1 → slice_get (drop m xs) 0 ≡ Some item.now
      → lent (items ++ item ∷ []) ++ drop next xs ≡ all
  lent_more next item further here =
      ap (λ n. lent (items ++ item ∷ []) ++ drop n xs) further
      ∙ ap (λ ys. ys ++ drop (m + 1) xs) (map-append (λ (one : Bor T). one.now) items (item ∷ []))
      ∙ append_assoc (lent items) (item.now ∷ []) (drop (m + 1) xs)
      ∙ ap (λ ys. lent items ++ ys) (sym (from_item m xs item.now here)) ∙ before

  -- at the end all are lent
  pub lent_all : length xs ≤ m → lent items ≡ all
  lent_all past =
      sym (append-nil (lent items)) ∙ ap (λ ys. lent items ++ ys) (sym (drop_of_length-le xs past)) ∙ before

module _ {T : Type 0} (n : ℕ) (c : Chunks T) (at : Cursor) (some : 0 < n) (holds : HoldsChunk n c at) where
  -- a place's slot is no earlier than those that were moved out
  pub slot_left : n * c.given + c.taken ≤ at.place → n * c.given + c.taken ≤ n * at.at.number + at.place % n
  slot_left left = omega (arith, left, div-add-mod at.place n, ap (λ m. n * m) holds.number)

  module _ (below : at.place + 1 ≤ end_of n c) where
    -- the chunk of a place whose next begins one isn't the last
    pub before_end : (at.place + 1) % n ≡ 0 → at.at.number < end_of n c / n
    before_end begins =
        let next = next_begins n at.place some begins in
        let whole : (at.place + 1) / n * n ≤ end_of n c = omega (arith, div-mul-le_self (at.place + 1) n, below) in
        omega (arith, le-div ((at.place + 1) / n) (end_of n c) n some whole, next, holds.number)

    -- the next place is in the same chunk
    pub holds_same : (at.place + 1) % n ≢ 0 → HoldsChunk n c (record { at = at.at; place = at.place + 1 })
    holds_same inside =
        record {
          number = holds.number ∙ sym (next_in n at.place some inside);
          kept = holds.kept;
          lies = holds.lies;
          within = below;
        }

    -- or begins the one after it
    pub holds_next : (next : Address) → (at.place + 1) % n ≡ 0 → next.number ≡ at.at.number + 1 → LiesAt c.cells next.number next.at
        → HoldsChunk n c (record { at = next; place = at.place + 1 })
    holds_next next begins numbered lies =
        record {
          number = omega (arith, numbered, holds.number, next_begins n at.place some begins);
          kept = omega (arith, numbered, holds.kept);
          lies = lies;
          within = below;
        }
