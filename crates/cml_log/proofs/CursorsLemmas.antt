-- Lemmas on cursors that hold their chunk, and on the log that is shown.
use Rattle.std.proofs.Common.{◌≡◌, ◌≢◌, ◌⊎◌, ℕ, zero, suc, ◌+◌, ◌-◌, ◌*◌, ◌/◌, ◌%◌, ◌<◌, ◌≤◌, ◌&&◌, ◌==◌, true, false, List, [], ◌∷◌}
use Rattle.std.proofs.Common.{length, get_or, set, map, drop, Option, Some, None, refl, sym, ap, ◌∙◌, inl, inr, arith, unwrap_or}
use Rattle.std.specs.List.{slice_get}
use Rattle.std.proofs.Math.Nat.{div-add-mod, mul-add, mul-div-le, mul-le-mul_left, mod-lt}
use Rattle.std.proofs.Math.ListN.{get_or-map}
use Rattle.std.proofs.lemmas.Bool.{cases_eq, cases_lt, lt-ltb, eq-eqb}
use Rattle.std.proofs.lemmas.Nat.{div-add-mod', le-div}
use Rattle.std.proofs.lemmas.List.{get_or-set_same, get_or-set_other, get_or_past, map-set, length-append, drop-drop}
use denote.RawPtr.{Ptr}
use Rattle.cml_log.specs.{Cursor, least, place_at, place_of, chunk_start, trimmed, with_item, with_place, IsTidy, Chunks, cell_at, count_of}
use Rattle.cml_log.specs.{count_at, LiesAt, end_of, is_idle, with_count, Pushed, Passed, cursor_at, place_in, standing, HoldsChunk, IsHeld}
use Rattle.cml_log.specs.{log_of, chunk_of}
use Rattle.cml_log.proofs.LeastLemmas.{least-le_end, least-le_place, least-ge, chunk_start-le}
use Rattle.cml_log.proofs.LinkedLemmas.{product-next}
use Rattle.cml_log.proofs.StandingLemmas.{stands_in, standing_found, standing-set, weight-here, weight-elsewhere}

-- a number of places within bounds is the size of a chunk unchanged
pub chunk_of-within : (n : ℕ) → 0 < n → n ≤ 1024 → chunk_of n ≡ n
chunk_of-within n low high = omega (arith, low, high)

-- the place under a key is its cursor's
pub place_shows : (slots : List (Option Cursor)) (key : ℕ) → get_or (map place_in slots) key None ≡ place_in (cursor_at slots key)
place_shows slots key = get_or-map place_in slots key None

-- a number of wholes, taken apart
product-less : (n low high : ℕ) → low ≤ high → n * (high - low) ≡ n * high - n * low
product-less n low high less =
    let whole : high ≡ low + (high - low) = omega (arith, less) in
    omega (arith, ap (λ m. n * m) whole, mul-add n low (high - low))

-- a chunk lies where it lay while a chunk's cursors are counted again
module _ (cells : List (Option (Ptr × ℕ))) (number : ℕ) (at : Ptr) (count : ℕ) (lies : LiesAt cells number at) where
  there : number < length cells
  there = elim (cases_lt number (length cells)) [
    | inl inside ↦ inside
    | inr past ↦ absurd (let none = get_or_past cells number None past in let found = lies.1 in cc)
  ]

  pub count-here : count_at (set cells number (Some (at, count))) number ≡ count
  count-here = ap count_of (get_or-set_same cells number (Some (at, count)) None there)

  pub count-other : (other : ℕ) → other ≢ number → count_at (set cells number (Some (at, count))) other ≡ count_at cells other
  count-other other differs = ap count_of (get_or-set_other cells number other (Some (at, count)) None differs)

  pub lies-recounted : (other : ℕ) (place : Ptr) → LiesAt cells other place → LiesAt (set cells number (Some (at, count))) other place
  lies-recounted other place found = elim (cases_eq other number) [
    | inl equal ↦
        let same : Some (at, lies.0) ≡ Some (place, found.0) = sym lies.1 ∙ ap (cell_at cells) (sym equal) ∙ found.1 in (
          count,
          ap (cell_at (set cells number (Some (at, count)))) equal ∙ get_or-set_same cells number (Some (at, count)) None there
              ∙ ap (λ p. Some (p, count)) (ap (pointer_or at) same),
        )
    | inr differs ↦ (found.0, get_or-set_other cells number other (Some (at, count)) None differs ∙ found.1)
  ]
    where
      pointer_or : Ptr → Option (Ptr × ℕ) → Ptr
      pointer_or default None = default
      pointer_or default (Some cell) = cell.0

-- a key that has a cursor is one of the slots
pub key_within : (slots : List (Option Cursor)) (key : ℕ) (cursor : Cursor) → cursor_at slots key ≡ Some cursor → key < length slots
key_within slots key cursor found = elim (cases_lt key (length slots)) [
  | inl inside ↦ inside
  | inr past ↦ absurd (let none = get_or_past slots key None past in cc)
]

module _ {T : Type 0} where
  -- an open key has a cursor
  pub cursor_under : (n : ℕ) (c : Chunks T) (slots : List (Option Cursor)) (key place : ℕ) → place_at (log_of n c slots) key ≡ Some place
      → (cursor : Cursor) × (cursor_at slots key ≡ Some cursor) × (cursor.place ≡ place)
  cursor_under n c slots key place found = by_slot (cursor_at slots key) refl (sym (place_shows slots key) ∙ found)
    where
      by_slot : (slot : Option Cursor) → cursor_at slots key ≡ slot → place_in slot ≡ Some place
          → (cursor : Cursor) × (cursor_at slots key ≡ Some cursor) × (cursor.place ≡ place)
      by_slot None is shows = absurd (cc)
      by_slot (Some cursor) is shows = (cursor, is, ap (λ o. unwrap_or o place) shows)

  module _ (n : ℕ) (c : Chunks T) (slots : List (Option Cursor)) (ready : IsHeld n c slots) where
    -- a cursor's chunk has a cursor
    pub entered : (key : ℕ) (cursor : Cursor) → cursor_at slots key ≡ Some cursor → 0 < count_at c.cells cursor.at.number
    entered key cursor found =
        let held = ready.held key cursor found in
        omega (
          arith,
          ready.counts cursor.at.number,
          stands_in n cursor.at.number slots key cursor found,
          weight-here n cursor.at.number cursor (sym held.number),
        )

    -- the first kept chunk is no later than that of the end
    pub given-le_end : c.given ≤ end_of n c / n
    given-le_end = elim (cases_lt (end_of n c / n) c.given) [
      | inl before ↦ absurd (omega (arith, product-next n (end_of n c / n) c.given before, end_below))
      | inr past ↦ past
    ]
      where
        -- the end is before the chunk after its own
        end_below : end_of n c < n * (end_of n c / n) + n
        end_below = omega (arith, parts, turned (end_of n c / n), rest)
          where
            parts : end_of n c / n * n + end_of n c % n ≡ end_of n c
            parts = div-add-mod' (end_of n c) n

            turned : (a : ℕ) → a * n ≡ n * a
            turned a = omega arith

            rest : end_of n c % n < n
            rest = mod-lt (end_of n c) ready.holds_one

    -- where the first kept chunk isn't idle, it is that of the least place
    pub trim_first : is_idle n c ≡ false → n * c.given ≡ chunk_start n (log_of n c slots)
    trim_first busy =
        let low = mul-le-mul_left n (le-div c.given (least (end_of n c) (map place_in slots)) n ready.holds_one (omega (arith, below))) in
        omega (arith, low, high (cases_lt c.given (end_of n c / n)))
      where
        places : List (Option ℕ)
        places = map place_in slots

        below : n * c.given ≤ least (end_of n c) places
        below = least-ge (n * c.given) (end_of n c) places (omega arith) (λ key place found.
            let under = cursor_under n c slots key place found in
            let held = ready.held key under.0 under.1 in
            let kept : c.given ≤ under.0.place / n = omega (arith, held.kept, held.number) in
            omega (arith, mul-le-mul_left n kept, mul-div-le under.0.place n, under.2))

        high : (c.given < end_of n c / n) ⊎ (end_of n c / n ≤ c.given) → n * (least (end_of n c) places / n) ≤ n * c.given
        high (inr past) =
            omega (
              arith,
              chunk_start-le n (least (end_of n c) places) (end_of n c) (least-le_end (end_of n c) places),
              mul-le-mul_left n past,
            )
        high (inl before) = elim (cases_eq (count_at c.cells c.given) 0) [
          | inl bare ↦
              let idle : is_idle n c ≡ true =
              ap (λ b. b && (count_at c.cells c.given == 0)) (lt-ltb c.given (end_of n c / n) before)
              ∙ eq-eqb (count_at c.cells c.given) 0 bare in
              absurd (let busy = busy in cc)
          | inr some ↦
              let found = standing_found n c.given slots (omega (arith, some, ready.counts c.given)) in
              let least_low = least-le_place (end_of n c) places found.0 found.1.place (place_shows slots found.0 ∙ ap place_in found.2) in
              omega (arith, chunk_start-le n (least (end_of n c) places) found.1.place least_low, ap (λ m. n * m) found.3)
        ]

    -- what such a log shows is tidy
    pub IsTidy-shown : is_idle n c ≡ false → IsTidy n (log_of n c slots)
    IsTidy-shown busy =
        record {
          first = trim_first busy;
          within = λ key place found.
              let under = cursor_under n c slots key place found in
              let held = ready.held key under.0 under.1 in
              omega (arith, held.within, under.2);
        }

    -- giving chunks back that have no cursor leaves each cursor its own
    pub IsHeld-passed : (after : Chunks T) → Passed n c after → IsHeld n after slots
    IsHeld-passed after went =
        record {
          holds_one = ready.holds_one;
          small = ready.small;
          bounded = omega (arith, ready.bounded, went.end);
          held = λ key cursor found.
              let held = ready.held key cursor found in
              let kept : after.given ≤ cursor.at.number = elim (cases_lt cursor.at.number after.given) [
                | inl before ↦ absurd (omega (arith, entered key cursor found, went.bare cursor.at.number held.kept before))
                | inr past ↦ past
              ] in
              record {
                number = held.number;
                kept = kept;
                lies = (held.lies.0, went.lies cursor.at.number kept ∙ held.lies.1);
                within = omega (arith, held.within, went.end);
              };
          counts = λ number. went.counts number ∙ ready.counts number;
        }

    -- an item more
    module _ (after : Chunks T) (item : T) (pushed : Pushed n c after item) where
      pub end_of-pushed : end_of n after ≡ end_of n c + 1
      end_of-pushed =
          omega (arith, ap (λ m. n * m) pushed.given, ap length pushed.items, length-append c.items (item ∷ []))

      pub IsHeld-pushed : end_of n c < 18446744073709551614 → IsHeld n after slots
      IsHeld-pushed below =
          record {
            holds_one = ready.holds_one;
            small = ready.small;
            bounded = omega (arith, below, end_of-pushed);
            held = λ key cursor found.
                let held = ready.held key cursor found in
                record {
                  number = held.number;
                  kept = omega (arith, held.kept, pushed.given);
                  lies = (held.lies.0, pushed.lies cursor.at.number held.lies.0 cursor.at.at held.lies.1);
                  within = omega (arith, held.within, end_of-pushed);
                };
            counts = λ number. pushed.counts number ∙ ready.counts number;
          }

      pub shown-pushed : log_of n after slots ≡ with_item (log_of n c slots) item
      shown-pushed =
          ap (λ m. record { first = n * m; kept = after.items; places = map place_in slots }) pushed.given
          ∙ ap (λ items. record { first = n * c.given; kept = items; places = map place_in slots }) pushed.items

    -- a cursor less
    module _ (key : ℕ) (cursor : Cursor) (found : cursor_at slots key ≡ Some cursor) where
      pub IsHeld-closed : IsHeld n (with_count c cursor.at.number cursor.at.at (count_at c.cells cursor.at.number - 1)) (set slots key None)
      IsHeld-closed =
          record {
            holds_one = ready.holds_one;
            small = ready.small;
            bounded = ready.bounded;
            held = λ other standing_cursor seen.
                let before = still_there other standing_cursor seen in
                let held = ready.held other standing_cursor before in
                record {
                  number = held.number;
                  kept = held.kept;
                  lies = lies-recounted c.cells cursor.at.number cursor.at.at
                      (count_at c.cells cursor.at.number - 1) mine.lies standing_cursor.at.number standing_cursor.at.at held.lies;
                  within = held.within;
                };
            counts = λ number. counted number (cases_eq number cursor.at.number);
          }
        where
          mine : HoldsChunk n c cursor
          mine = ready.held key cursor found

          still_there : (other : ℕ) (held : Cursor) → cursor_at (set slots key None) other ≡ Some held → cursor_at slots other ≡ Some held
          still_there other held seen = elim (cases_eq other key) [
            | inl equal ↦
                absurd (let none = get_or-set_same slots key None None (key_within slots key cursor found) in
                let here : cursor_at (set slots key None) key ≡ Some held = ap (cursor_at (set slots key None)) (sym equal) ∙ seen in cc)
            | inr differs ↦ sym (get_or-set_other slots key other None None differs) ∙ seen
          ]

          counted : (number : ℕ) → (number ≡ cursor.at.number) ⊎ (number ≢ cursor.at.number)
              → count_at (set c.cells cursor.at.number (Some (cursor.at.at, count_at c.cells cursor.at.number - 1))) number
              ≡ standing n number (set slots key None)
          counted number (inl equal) =
              let here = count-here c.cells cursor.at.number cursor.at.at (count_at c.cells cursor.at.number - 1) mine.lies in
              let fewer = standing-set n cursor.at.number slots key cursor None found in
              let one = weight-here n cursor.at.number cursor (sym mine.number) in
              ap (count_at (set c.cells cursor.at.number (Some (cursor.at.at, count_at c.cells cursor.at.number - 1)))) equal
              ∙ omega (arith, here, fewer, one, ready.counts cursor.at.number)
              ∙ ap (λ m. standing n m (set slots key None)) (sym equal)
          counted number (inr differs) =
              let other =
              count-other c.cells cursor.at.number cursor.at.at (count_at c.cells cursor.at.number - 1) mine.lies number differs in
              let fewer = standing-set n number slots key cursor None found in
              let none = weight-elsewhere n number cursor (λ same. differs (sym same ∙ sym mine.number)) in
              omega (arith, other, fewer, none, ready.counts number)

-- freed chunks show the log trimmed
pub shown-passed : {T : Type 0} (n : ℕ) (before after : Chunks T) (slots : List (Option Cursor)) → IsHeld n after slots
    → is_idle n after ≡ false → Passed n before after → log_of n after slots ≡ trimmed n (log_of n before slots)
shown-passed n before after slots ready busy went =
    let start : n * after.given ≡ chunk_start n (log_of n before slots) =
    trim_first n after slots ready busy ∙ ap (λ e. n * (least e (map place_in slots) / n)) went.end in
    let less : n * (after.given - before.given) ≡ chunk_start n (log_of n before slots) - n * before.given =
    product-less n before.given after.given went.later ∙ ap (λ s. s - n * before.given) start in
    ap (λ f. record { first = f; kept = after.items; places = map place_in slots }) start
    ∙ ap (λ items. record { first = chunk_start n (log_of n before slots); kept = items; places = map place_in slots })
    (went.items ∙ ap (λ m. drop m before.items) less)

module _ {T : Type 0} (n : ℕ) (c : Chunks T) (slots : List (Option Cursor)) where
  -- a slot that changes is a place that changes
  pub shown-set : (key : ℕ) (slot : Option Cursor) → log_of n c (set slots key slot) ≡ with_place (log_of n c slots) key (place_in slot)
  shown-set key slot = ap (λ places. record { first = n * c.given; kept = c.items; places = places }) (map-set place_in slots key slot)

  -- the place of a key is its cursor's
  pub place_shown : (key : ℕ) (cursor : Cursor) → cursor_at slots key ≡ Some cursor → place_of (log_of n c slots) key ≡ cursor.place
  place_shown key cursor found = ap (λ o. unwrap_or o 0) (place_shows slots key ∙ ap place_in found)

-- what a cursor reads is at its place
pub peeked : {T : Type 0} (n : ℕ) (c : Chunks T) (cursor : Cursor) → HoldsChunk n c cursor
    → slice_get (drop (n * (cursor.at.number - c.given)) c.items) (cursor.place % n)
    ≡ slice_get (drop (cursor.place - n * c.given) c.items) 0
peeked n c cursor held =
    slice_get-drop (cursor.place % n) (drop (n * (cursor.at.number - c.given)) c.items)
    ∙ ap (λ xs. slice_get xs 0) (drop-drop (cursor.place % n) (n * (cursor.at.number - c.given)) c.items)
    ∙ ap (λ m. slice_get (drop m c.items) 0) (sums (div-add-mod cursor.place n))
  where
    sums : n * (cursor.place / n) + cursor.place % n ≡ cursor.place
        → n * (cursor.at.number - c.given) + cursor.place % n ≡ cursor.place - n * c.given
    sums whole =
        omega (arith, whole, product-less n c.given cursor.at.number held.kept, mul-le-mul_left n held.kept, ap (λ m. n * m) held.number)

    slice_get-drop : {X : Type 0} (i : ℕ) (xs : List X) → slice_get xs i ≡ slice_get (drop i xs) 0
    slice_get-drop zero xs = refl
    slice_get-drop (suc i) [] = refl
    slice_get-drop (suc i) (x ∷ xs) = slice_get-drop i xs
