-- Lemmas on items that were moved out, which no cursor reads any more.
use Rattle.std.proofs.Common.{◌≡◌, ◌≢◌, ◌⊎◌, ℕ, ◌+◌, ◌*◌, ◌/◌, ◌%◌, ◌<◌, ◌≤◌, ◌&&◌, ◌==◌, true, List, length, get_or, set, map, count_by}
use Rattle.std.proofs.Common.{is_some, Option, Some, None, refl, sym, ap, ◌∙◌, inl, inr, arith, unwrap_or}
use Rattle.std.proofs.Math.Nat.{div-add-mod, mul-div-le, mul-le-mul_left, div-mul-le_self}
use Rattle.std.proofs.lemmas.Bool.{cases_eq, cases_lt, lt-ltb, eq-eqb}
use Rattle.std.proofs.lemmas.Nat.{le-div}
use Rattle.std.proofs.lemmas.List.{get_or-set_same, get_or-set_other, get_or_past, length-set}
use denote.RawPtr.{Ptr}
use Rattle.cml_log.specs.{Cursor, place_at, Chunks, count_at, end_of, is_idle, with_count, Pushed, Passed, cursor_at, place_in}
use Rattle.cml_log.specs.{HoldsChunk, IsHeld}
use Rattle.cml_log.specs.{IsAhead, IsTrim, log_of}
use Rattle.cml_log.proofs.StandingLemmas.{standing-lt, sole_key, weight-elsewhere}
use Rattle.cml_log.proofs.CursorsLemmas.{place_shows, cursor_under, end_of-pushed}

-- a place after one slot changed is that slot's, or was there before
set_or_old : (slots : List (Option Cursor)) (key : ℕ) (slot : Option Cursor) (other place : ℕ)
    → get_or (map place_in (set slots key slot)) other None ≡ Some place
    → (place_in slot ≡ Some place) ⊎ ((other ≢ key) × (get_or (map place_in slots) other None ≡ Some place))
set_or_old slots key slot other place found = elim (cases_eq other key) [
  | inl equal ↦ elim (cases_lt key (length slots)) [
    | inl inside ↦ inl (ap place_in (sym (get_or-set_same slots key slot None inside))
        ∙ ap (λ k. place_in (cursor_at (set slots key slot) k)) (sym equal) ∙ shown)
    | inr past ↦ absurd (let none : cursor_at (set slots key slot) key ≡ None = get_or_past (set slots key slot) key None
        (omega (arith, past, length-set slots key slot)) in
        let some : place_in (cursor_at (set slots key slot) key) ≡ Some place =
        ap (λ k. place_in (cursor_at (set slots key slot) k)) (sym equal) ∙ shown in
        let never : None ≡ Some place = sym (ap place_in none) ∙ some in cc)
  ]
  | inr differs ↦ inr (differs, place_shows slots other ∙ ap place_in (sym (get_or-set_other slots key other slot None differs)) ∙ shown)
]
  where
    shown : place_in (cursor_at (set slots key slot) other) ≡ Some place
    shown = sym (place_shows (set slots key slot) other) ∙ found

module _ {T : Type 0} (n : ℕ) where
  IsAhead-from : (c after : Chunks T) (slots others : List (Option Cursor)) → IsAhead n c slots → after.given ≡ c.given
      → after.taken ≡ c.taken → end_of n c ≤ end_of n after
      → ((key place : ℕ) → place_at (log_of n after others) key ≡ Some place
      → (n * c.given + c.taken ≤ place) ⊎ (place_at (log_of n c slots) key ≡ Some place))
      → IsAhead n after others
  IsAhead-from c after slots others ahead given taken later old =
      record {
        part = omega (arith, low, ahead.part, later);
        behind = λ key place found. elim (old key place found) [
          | inl below ↦ omega (arith, low, below)
          | inr before ↦ omega (arith, low, ahead.behind key place before)
        ];
      }
    where
      low : n * after.given + after.taken ≡ n * c.given + c.taken
      low = omega (arith, ap (λ m. n * m) given, taken)

  -- where nothing was moved out, the first kept chunk is after no cursor
  pub IsAhead-whole : (c : Chunks T) (slots : List (Option Cursor)) → IsHeld n c slots → c.taken ≡ 0 → IsAhead n c slots
  IsAhead-whole c slots ready none =
      record {
        part = omega (arith, none);
        behind = λ key place found.
            let under = cursor_under n c slots key place found in
            let held = ready.held key under.0 under.1 in
            let kept : c.given ≤ under.0.place / n = omega (arith, held.kept, held.number) in
            omega (arith, none, mul-le-mul_left n kept, mul-div-le under.0.place n, under.2);
      }

  pub IsAhead-passed : (before after : Chunks T) (slots : List (Option Cursor)) → IsHeld n after slots → Passed n before after
      → IsAhead n before slots → IsAhead n after slots
  IsAhead-passed before after slots ready went ahead = by went.taken
    where
      by : (after.taken ≡ 0) ⊎ ((after.given ≡ before.given) × (after.taken ≡ before.taken)) → IsAhead n after slots
      by (inl none) = IsAhead-whole after slots ready none
      by (inr same) =
          IsAhead-from before after slots slots ahead same.0 same.1 (omega (arith, went.end)) (λ key place found. inr found)

  pub IsAhead-pushed : (c after : Chunks T) (slots : List (Option Cursor)) (item : T) → IsHeld n c slots → Pushed n c after item
      → IsAhead n c slots → IsAhead n after slots
  IsAhead-pushed c after slots item ready pushed ahead =
      IsAhead-from c after slots slots ahead pushed.given pushed.taken (omega (arith, end_of-pushed n c slots ready after item pushed))
      (λ key place found. inr found)

  pub ahead_of : (c : Chunks T) (slots : List (Option Cursor)) (key : ℕ) (cursor : Cursor) → IsAhead n c slots
      → cursor_at slots key ≡ Some cursor → n * c.given + c.taken ≤ cursor.place
  ahead_of c slots key cursor ahead found = ahead.behind key cursor.place (place_shows slots key ∙ ap place_in found)

  -- how many cursors are in a chunk says nothing of their places
  pub IsAhead-recounted : (c : Chunks T) (slots : List (Option Cursor)) (number : ℕ) (at : Ptr) (count : ℕ) → IsAhead n c slots
      → IsAhead n (with_count c number at count) slots
  IsAhead-recounted c slots number at count ahead = record { part = ahead.part; behind = ahead.behind }

  -- a cursor is closed
  pub IsAhead-closed : (c : Chunks T) (slots : List (Option Cursor)) (key : ℕ) → IsAhead n c slots → IsAhead n c (set slots key None)
  IsAhead-closed c slots key ahead =
      IsAhead-from c c slots (set slots key None) ahead refl refl (omega arith) (λ other place found.
      elim (set_or_old slots key None other place found) [ inl never ↦ absurd (cc) | inr before ↦ inr before.1 ])

  -- or opened
  pub IsAhead-opened : (c : Chunks T) (slots new : List (Option Cursor)) (key : ℕ) (cursor : Cursor) → IsAhead n c slots
      → n * c.given + c.taken ≤ cursor.place → cursor_at new key ≡ Some cursor
      → ((other : ℕ) → other ≢ key → cursor_at new other ≡ cursor_at slots other) → IsAhead n c new
  IsAhead-opened c slots new key cursor ahead low opened others =
      IsAhead-from c c slots new ahead refl refl (omega arith) (λ other place found. elim (cases_eq other key) [
        | inl equal ↦
            let here : cursor.place ≡ place = ap (λ p. unwrap_or p 0)
            (sym (place_shows new key ∙ ap place_in opened) ∙ ap (place_at (log_of n c new)) (sym equal) ∙ found) in
            inl (omega (arith, low, here))
        | inr differs ↦
            inr (place_shows slots other ∙ ap place_in (sym (others other differs)) ∙ sym (place_shows new other) ∙ found)
      ])

  -- or goes on
  pub IsAhead-moved : (c : Chunks T) (slots : List (Option Cursor)) (key : ℕ) (cursor to : Cursor) → IsAhead n c slots
      → cursor_at slots key ≡ Some cursor → cursor.place ≤ to.place → IsAhead n c (set slots key (Some to))
  IsAhead-moved c slots key cursor to ahead found later =
      let mine = ahead_of c slots key cursor ahead found in
      IsAhead-from c c slots (set slots key (Some to)) ahead refl refl (omega arith) (λ other place seen.
      elim (set_or_old slots key (Some to) other place seen) [
        | inl here ↦ let same : to.place ≡ place = ap (λ p. unwrap_or p 0) here in inl (omega (arith, mine, later, same))
        | inr before ↦ inr before.1
      ])

  -- which chunk it comes into, and how many are counted in one, says nothing of its place
  pub IsAhead-stepped : (c after : Chunks T) (slots others : List (Option Cursor)) → IsAhead n c slots → after.given ≡ c.given
      → after.taken ≡ c.taken → end_of n after ≡ end_of n c → map place_in others ≡ map place_in slots → IsAhead n after others
  IsAhead-stepped c after slots others ahead given taken end same =
      IsAhead-from c after slots others ahead given taken (omega (arith, end)) (λ key place found.
      inr (ap (λ places. get_or places key None) (sym same) ∙ found))

  module _ (c : Chunks T) (slots : List (Option Cursor)) (trim : IsTrim n c slots) where
    -- that items were moved out says nothing of cursors
    pub IsTrim-taken : (taken : ℕ) → IsTrim n (record c { taken = taken }) slots
    IsTrim-taken taken =
        record {
          is_held = record {
            holds_one = trim.is_held.holds_one;
            small = trim.is_held.small;
            bounded = trim.is_held.bounded;
            held = λ key cursor found.
                let held = trim.is_held.held key cursor found in
                record { number = held.number; kept = held.kept; lies = held.lies; within = held.within };
            counts = trim.is_held.counts;
          };
          trim = trim.trim;
        }

    module _ (key : ℕ) (cursor : Cursor) (found : cursor_at slots key ≡ Some cursor) where
      mine : HoldsChunk n c cursor
      mine = trim.is_held.held key cursor found

      parts : n * cursor.at.number + cursor.place % n ≡ cursor.place
      parts = omega (arith, div-add-mod cursor.place n, ap (λ m. n * m) mine.number)

      -- a cursor's slot is no earlier than those that were moved out
      pub left_at : IsAhead n c slots → n * c.given + c.taken ≤ n * cursor.at.number + cursor.place % n
      left_at ahead = omega (arith, parts, ahead_of c slots key cursor ahead found)

      module _ (sole : count_by is_some slots ≡ 1) where
        -- the chunk of the only cursor is the first kept one
        pub sole_head : cursor.at.number ≡ c.given
        sole_head = elim (cases_eq cursor.at.number c.given) [
          | inl same ↦ same
          | inr other ↦
              let last : cursor.at.number ≤ end_of n c / n = omega (
                arith,
                mine.number,
                le-div (cursor.place / n) (end_of n c) n
                    trim.is_held.holds_one (omega (arith, div-mul-le_self cursor.place n, mine.within)),
              ) in
              let elsewhere = weight-elsewhere n c.given cursor (λ same. other (mine.number ∙ same)) in
              let none : count_at c.cells c.given ≡ 0 =
              omega (arith, trim.is_held.counts c.given, sole, standing-lt n c.given slots key cursor found elsewhere) in
              let idle : is_idle n c ≡ true =
              ap (λ b. b && (count_at c.cells c.given == 0)) (lt-ltb c.given (end_of n c / n) (omega (arith, mine.kept, other, last)))
              ∙ eq-eqb (count_at c.cells c.given) 0 none in
              absurd (let busy = trim.trim in cc)
        ]

        place_is : n * c.given + cursor.place % n ≡ cursor.place
        place_is = omega (arith, parts, ap (λ m. n * m) sole_head)

        -- its slot is no earlier than those that were moved out, and was written
        pub sole_left : IsAhead n c slots → c.taken ≤ cursor.place % n
        sole_left ahead = omega (arith, left_at ahead, ap (λ m. n * m) sole_head)

        pub sole_written : cursor.place + 1 ≤ end_of n c → cursor.place % n < length c.items
        sole_written below = omega (arith, place_is, below)

        -- once its item was moved out and it went on, it is ahead of that too
        pub IsAhead-taken : cursor.place + 1 ≤ end_of n c
            → IsAhead n (record c { taken = cursor.place % n + 1 })
            (set slots key (Some (record { at = cursor.at; place = cursor.place + 1 })))
        IsAhead-taken below =
            record {
              part = omega (arith, place_is, below);
              behind = λ other place seen.
                  elim (set_or_old slots key (Some (record { at = cursor.at; place = cursor.place + 1 })) other place seen) [
                    | inl here ↦
                        let same : cursor.place + 1 ≡ place = ap (λ p. unwrap_or p 0) here in omega (arith, place_is, same)
                    | inr before ↦
                        let under = cursor_under n c slots other place before.1 in
                        absurd (sole_key slots key other cursor under.0 sole found under.1 before.0)
                  ];
            }
