-- Lemmas on chunks that are freed from the head on.
use Rattle.std.proofs.Common.{◌≡◌, ◌⊎◌, ℕ, ◌+◌, ◌-◌, ◌*◌, ◌/◌, ◌<◌, ◌≤◌, true, length, set, drop, None, refl, sym, ap, ◌∙◌, inl, inr, arith}
use Rattle.std.proofs.Math.Nat.{mul-add, mul-one, mul-zero, mul-div-le}
use Rattle.std.proofs.lemmas.Bool.{cases_eq, cases_lt, and_parts, ltb-true, eqb-true}
use Rattle.std.proofs.lemmas.List.{get_or-set_same, get_or-set_other, get_or_past, length-set, length-drop, drop-drop}
use Rattle.cml_log.specs.{Chunks, count_of, count_at, end_of, is_idle, passed, Passed}
use Rattle.cml_log.proofs.LinkedLemmas.{product-next}

module _ {T : Type 0} (n : ℕ) where
  -- an idle chunk isn't the tail, and no cursor is in it
  pub idle_before : (c : Chunks T) → is_idle n c ≡ true → c.given < end_of n c / n
  idle_before c idle = ltb-true c.given (end_of n c / n) (and_parts _ _ idle).0

  pub idle_bare : (c : Chunks T) → is_idle n c ≡ true → count_at c.cells c.given ≡ 0
  idle_bare c idle = eqb-true (count_at c.cells c.given) 0 (and_parts _ _ idle).1

  -- a head that isn't the tail is full
  pub full_head : (c : Chunks T) → c.given < end_of n c / n → n ≤ length c.items
  full_head c before = omega (arith, product-next n c.given (end_of n c / n) before, mul-div-le (end_of n c) n)

  -- giving it back leaves the end
  pub end_of-passed : (c : Chunks T) (followed : ℕ) → c.given < end_of n c / n
      → end_of n (record (passed n c) { followed = followed }) ≡ end_of n c
  end_of-passed c followed before =
      omega (arith, full_head c before, length-drop n c.items, mul-add n c.given 1, mul-one n)

  pub count_at-passed : (c : Chunks T) (number : ℕ) → count_at c.cells c.given ≡ 0
      → count_at (set c.cells c.given None) number ≡ count_at c.cells number
  count_at-passed c number bare = elim (cases_eq number c.given) [
    | inl equal ↦
        ap (count_at (set c.cells c.given None)) equal ∙ here (cases_lt c.given (length c.cells)) ∙ sym bare
        ∙ ap (count_at c.cells) (sym equal)
    | inr differs ↦ ap count_of (get_or-set_other c.cells c.given number None None differs)
  ]
    where
      here : (c.given < length c.cells) ⊎ (length c.cells ≤ c.given) → count_at (set c.cells c.given None) c.given ≡ 0
      here (inl inside) = ap count_of (get_or-set_same c.cells c.given None None inside)
      here (inr past) =
          ap count_of (get_or_past (set c.cells c.given None) c.given None (omega (arith, past, length-set c.cells c.given None)))

  pub Passed-none : (c : Chunks T) → Passed n c c
  Passed-none c =
      record {
        later = omega arith;
        items = sym (ap (λ m. drop m c.items) (nothing c.given));
        end = refl;
        lies = λ number low. refl;
        counts = λ number. refl;
        bare = λ number low high. absurd (omega (arith, low, high));
        followed = omega arith;
        taken = inr (refl, refl);
      }
    where
      nothing : (m : ℕ) → n * (m - m) ≡ 0
      nothing m = ap (λ k. n * k) (sub_self m) ∙ mul-zero n
        where
          sub_self : (m : ℕ) → m - m ≡ 0
          sub_self m = omega arith

  -- and one more
  pub Passed-more : (old mid : Chunks T) → Passed n old mid → is_idle n mid ≡ true
      → Passed n old (record (passed n mid) { followed = mid.followed + 1 })
  Passed-more old mid went idle =
      record {
        later = omega (arith, went.later);
        items =
            ap (drop n) went.items ∙ drop-drop n (n * (mid.given - old.given)) old.items
            ∙ ap (λ m. drop m old.items) (sum went.later);
        end = end_of-passed mid (mid.followed + 1) (idle_before mid idle) ∙ went.end;
        lies = λ number low.
            get_or-set_other mid.cells mid.given number None None (λ equal. omega (arith, equal, low))
            ∙ went.lies number (omega (arith, low));
        counts = λ number. count_at-passed mid number (idle_bare mid idle) ∙ went.counts number;
        bare = λ number low high. elim (cases_lt number mid.given) [
          | inl before ↦ went.bare number low before
          | inr past ↦
              let here : number ≡ mid.given = omega (arith, past, high) in
              sym (went.counts number) ∙ ap (count_at mid.cells) here ∙ idle_bare mid idle
        ];
        followed = omega (arith, went.followed);
        taken = inl refl;
      }
    where
      sum : old.given ≤ mid.given → n * (mid.given - old.given) + n ≡ n * (mid.given + 1 - old.given)
      sum low =
          sym (ap (λ m. n * m) (later low) ∙ mul-add n (mid.given - old.given) 1 ∙ ap (λ m. n * (mid.given - old.given) + m) (mul-one n))
        where
          later : old.given ≤ mid.given → mid.given + 1 - old.given ≡ mid.given - old.given + 1
          later low = omega (arith, low)
