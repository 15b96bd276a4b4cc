-- Lemmas on how many cursors are in a chunk.
use Rattle.std.proofs.Common.{◌≡◌, ◌≢◌, ℕ, zero, suc, ◌+◌, ◌/◌, ◌<◌, ◌≤◌, ◌==◌, cond, Bool, true, false, List, [], ◌∷◌, set, map}
use Rattle.std.proofs.Common.{count_by, is_some, Option, Some, None, refl, sym, ap, ◌∙◌, arith}
use Rattle.std.proofs.lemmas.Bool.{eqb-true, eq-eqb, ne_eqb}
use Rattle.std.proofs.lemmas.List.Recursion.{is_count_by}
use Rattle.cml_log.specs.{Cursor, cursor_at, place_in, weight, standing}

-- how many of these slots have a cursor
abbrev open_count : List (Option Cursor) → ℕ
open_count [] = 0
open_count (None ∷ rest) = open_count rest
open_count (Some cursor ∷ rest) = 1 + open_count rest

open_count-is : (slots : List (Option Cursor)) → open_count slots ≡ count_by is_some slots
open_count-is = is_count_by open_count is_some refl counts
  where
    counts : (slot : Option Cursor) (rest : List (Option Cursor))
        → open_count (slot ∷ rest) ≡ cond (is_some slot) (1 + open_count rest) (open_count rest)
    counts None rest = refl
    counts (Some cursor) rest = refl

-- as many as there are places
place_count : List (Option ℕ) → ℕ
place_count [] = 0
place_count (None ∷ rest) = place_count rest
place_count (Some place ∷ rest) = 1 + place_count rest

pub count_places : (slots : List (Option Cursor)) → count_by is_some (map place_in slots) ≡ count_by is_some slots
unfolding place_count
count_places slots = sym (is_count_by place_count is_some refl counts (map place_in slots)) ∙ same slots ∙ open_count-is slots
  where
    counts : (slot : Option ℕ) (rest : List (Option ℕ))
        → place_count (slot ∷ rest) ≡ cond (is_some slot) (1 + place_count rest) (place_count rest)
    counts None rest = refl
    counts (Some place) rest = refl

    same : (slots : List (Option Cursor)) → place_count (map place_in slots) ≡ open_count slots
    same [] = refl
    same (None ∷ rest) = same rest
    same (Some cursor ∷ rest) = ap (λ n. 1 + n) (same rest)

-- where one cursor is open, there is no other
pub sole_key : (slots : List (Option Cursor)) (key other : ℕ) (cursor held : Cursor) → count_by is_some slots ≡ 1
    → cursor_at slots key ≡ Some cursor → cursor_at slots other ≡ Some held → other ≢ key → ⊥
sole_key slots key other cursor held sole found seen differs =
    omega (arith, two slots key other found seen differs, open_count-is slots, sole)
  where
    one : (slots : List (Option Cursor)) (key : ℕ) (cursor : Cursor) → cursor_at slots key ≡ Some cursor → 1 ≤ open_count slots
    one [] key cursor found = absurd (cc)
    one (None ∷ rest) zero cursor found = absurd (cc)
    one (Some held ∷ rest) zero cursor found = omega arith
    one (None ∷ rest) (suc key) cursor found = one rest key cursor found
    one (Some held ∷ rest) (suc key) cursor found = omega arith

    two : (slots : List (Option Cursor)) (key other : ℕ) → cursor_at slots key ≡ Some cursor → cursor_at slots other ≡ Some held
        → other ≢ key → 2 ≤ open_count slots
    two [] key other found seen differs = absurd (cc)
    two (slot ∷ rest) zero zero found seen differs = absurd (differs refl)
    two (None ∷ rest) zero (suc other) found seen differs = absurd (cc)
    two (None ∷ rest) (suc key) zero found seen differs = absurd (cc)
    two (None ∷ rest) (suc key) (suc other) found seen differs = two rest key other found seen (λ same. differs (ap suc same))
    two (Some first ∷ rest) zero (suc other) found seen differs = omega (arith, one rest other held seen)
    two (Some first ∷ rest) (suc key) zero found seen differs = omega (arith, one rest key cursor found)
    two (Some first ∷ rest) (suc key) (suc other) found seen differs =
        omega (arith, two rest key other found seen (λ same. differs (ap suc same)))

module _ (chunk number : ℕ) where
  pub weight-le : (slot : Option Cursor) → weight chunk number slot ≤ 1
  weight-le None = omega arith
  weight-le (Some cursor) = by (cursor.place / chunk == number)
    where
      by : (test : Bool) → cond test 1 0 ≤ 1
      by true = omega arith
      by false = omega arith

  -- a cursor is counted in its chunk
  pub stands_in : (slots : List (Option Cursor)) (key : ℕ) (cursor : Cursor) → cursor_at slots key ≡ Some cursor
      → weight chunk number (Some cursor) ≤ standing chunk number slots
  stands_in [] key cursor found = absurd (cc)
  stands_in (slot ∷ rest) zero cursor found =
      omega (arith, ap (weight chunk number) found)
  stands_in (slot ∷ rest) (suc key) cursor found = omega (arith, stands_in rest key cursor found)

  -- where a chunk counts a cursor there is one
  pub standing_found : (slots : List (Option Cursor)) → 0 < standing chunk number slots
      → (key : ℕ) × (cursor : Cursor) × (cursor_at slots key ≡ Some cursor) × (cursor.place / chunk ≡ number)
  standing_found [] some = absurd (omega (arith, some))
  standing_found (None ∷ rest) some =
      let found = standing_found rest (omega (arith, some)) in (suc found.0, found.1, found.2, found.3)
  standing_found (Some cursor ∷ rest) some = by (cursor.place / chunk == number) refl (standing_found rest)
    where
      by : (test : Bool) → (cursor.place / chunk == number) ≡ test → (0 < standing chunk number rest
          → (key : ℕ) × (held : Cursor) × (cursor_at rest key ≡ Some held) × (held.place / chunk ≡ number))
          → (key : ℕ) × (held : Cursor) × (cursor_at (Some cursor ∷ rest) key ≡ Some held) × (held.place / chunk ≡ number)
      by true is later = (0, cursor, refl, eqb-true (cursor.place / chunk) number is)
      by false is later =
          let none : weight chunk number (Some cursor) ≡ 0 = ap {B = ℕ} (λ b. cond b 1 0) is in
          let found = later (omega (arith, some, none)) in (suc found.0, found.1, found.2, found.3)

  -- changing a slot changes the count by the two weights
  pub standing-set : (slots : List (Option Cursor)) (key : ℕ) (cursor : Cursor) (slot : Option Cursor) → cursor_at slots key ≡ Some cursor
      → standing chunk number (set slots key slot) + weight chunk number (Some cursor)
      ≡ standing chunk number slots + weight chunk number slot
  standing-set [] key cursor slot found = absurd (cc)
  standing-set (here ∷ rest) zero cursor slot found = omega (arith, ap (weight chunk number) found)
  standing-set (here ∷ rest) (suc key) cursor slot found = omega (arith, standing-set rest key cursor slot found)

  -- slots that show the same under each key count the same
  pub standing-same : (some other : List (Option Cursor)) → ((key : ℕ) → cursor_at some key ≡ cursor_at other key)
      → standing chunk number some ≡ standing chunk number other
  standing-same [] [] same = refl
  standing-same [] (slot ∷ rest) same =
      omega (arith, ap (weight chunk number) (same 0), standing-same [] rest (λ key. same (suc key)))
  standing-same (slot ∷ rest) [] same =
      omega (arith, ap (weight chunk number) (same 0), standing-same rest [] (λ key. same (suc key)))
  standing-same (slot ∷ rest) (place ∷ others) same =
      omega (arith, ap (weight chunk number) (same 0), standing-same rest others (λ key. same (suc key)))

  -- one cursor more is counted once more
  pub standing-opened : (old new : List (Option Cursor)) (key : ℕ) (cursor : Cursor) → cursor_at old key ≡ None
      → cursor_at new key ≡ Some cursor → ((other : ℕ) → other ≢ key → cursor_at new other ≡ cursor_at old other)
      → standing chunk number new ≡ standing chunk number old + weight chunk number (Some cursor)
  standing-opened old [] key cursor vacant opened others = absurd (cc)
  standing-opened [] (slot ∷ rest) zero cursor vacant opened others =
      omega (arith, ap (weight chunk number) opened, standing-same rest [] (λ key. others (suc key) (λ e. omega (arith, e))))
  standing-opened (was ∷ before) (slot ∷ rest) zero cursor vacant opened others =
      omega (
        arith,
        ap (weight chunk number) opened,
        ap (weight chunk number) vacant,
        standing-same rest before (λ key. others (suc key) (λ e. omega (arith, e))),
      )
  standing-opened [] (slot ∷ rest) (suc key) cursor vacant opened others =
      omega (
        arith,
        ap (weight chunk number) (others 0 (λ e. omega (arith, e))),
        standing-opened [] rest key cursor vacant opened (λ other differs. others (suc other) (λ e. differs (omega (arith, e)))),
      )
  standing-opened (was ∷ before) (slot ∷ rest) (suc key) cursor vacant opened others =
      omega (
        arith,
        ap (weight chunk number) (others 0 (λ e. omega (arith, e))),
        standing-opened before rest key cursor vacant opened (λ other differs. others (suc other) (λ e. differs (omega (arith, e)))),
      )

  -- a chunk counts no more cursors than there are
  pub standing-le : (slots : List (Option Cursor)) → standing chunk number slots ≤ count_by is_some slots
  standing-le slots = omega (arith, below slots, open_count-is slots)
    where
      below : (slots : List (Option Cursor)) → standing chunk number slots ≤ open_count slots
      below [] = omega arith
      below (None ∷ rest) = omega (arith, below rest)
      below (Some cursor ∷ rest) = omega (arith, below rest, weight-le (Some cursor))

  -- and fewer where one is elsewhere
  pub standing-lt : (slots : List (Option Cursor)) (key : ℕ) (cursor : Cursor) → cursor_at slots key ≡ Some cursor
      → weight chunk number (Some cursor) ≡ 0 → standing chunk number slots + 1 ≤ count_by is_some slots
  standing-lt slots key cursor found none = omega (arith, below slots key found, open_count-is slots)
    where
      at_most : (slots : List (Option Cursor)) → standing chunk number slots ≤ open_count slots
      at_most [] = omega arith
      at_most (None ∷ rest) = omega (arith, at_most rest)
      at_most (Some other ∷ rest) = omega (arith, at_most rest, weight-le (Some other))

      below : (slots : List (Option Cursor)) (key : ℕ) → cursor_at slots key ≡ Some cursor
          → standing chunk number slots + 1 ≤ open_count slots
      below [] key found = absurd (cc)
      below (None ∷ rest) zero found = absurd (cc)
      below (Some other ∷ rest) zero found = omega (arith, at_most rest, ap (weight chunk number) found, none)
      below (None ∷ rest) (suc key) found = omega (arith, below rest key found)
      below (Some other ∷ rest) (suc key) found = omega (arith, below rest key found, weight-le (Some other))

-- the weight of a cursor in its chunk, and in another
pub weight-here : (chunk number : ℕ) (cursor : Cursor) → cursor.place / chunk ≡ number → weight chunk number (Some cursor) ≡ 1
weight-here chunk number cursor same = ap (λ b. cond b 1 0) (eq-eqb (cursor.place / chunk) number same)

pub weight-elsewhere : (chunk number : ℕ) (cursor : Cursor) → cursor.place / chunk ≢ number → weight chunk number (Some cursor) ≡ 0
weight-elsewhere chunk number cursor differs = ap (λ b. cond b 1 0) (ne_eqb (cursor.place / chunk) number differs)
