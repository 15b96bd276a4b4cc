-- Lemmas on the fields of a plain log.
use Rattle.std.proofs.Common.{◌≡◌, ℕ, zero, suc, ◌+◌, ◌-◌, ◌*◌, ◌/◌, ◌%◌, ◌<◌, ◌≤◌, min, List, [], ◌∷◌, ◌++◌, length, drop, Option, Some}
use Rattle.std.proofs.Common.{None, refl, sym, ap, subst, ◌∙◌, inl, inr, is_err, Bool, true, false, ◌==◌, Result, Ok, Err, OnOk, is_some}
use Rattle.std.proofs.Common.{count_by, cond, set, get_or, arith}
use Rattle.std.proofs.Math.Nat.{mul-div-le, div-eq_of_lt-le}
use Rattle.std.proofs.lemmas.Bool.{cases_eq}
use Rattle.std.proofs.lemmas.List.{length-append}
use Rattle.std.proofs.lemmas.List.Sums.{sum_by-cons}
use Rattle.std.proofs.lemmas.Bool.Decides.{nat_tests}
use Rattle.slab.specs.Slab.{Slab, get, Updates, entries_from}
use Rattle.cml_log.specs.Log.{Log}
use Rattle.cml_log.specs.{least, next_of, chunk_start, trimmed, with_item, IsOpen, place_of, owed_items, Opens, IsTidy, IsSound}
use Rattle.cml_log.proofs.LeastLemmas.{least-le_end, least-le_place, least-past_cursor, least-vacant, chunk_start-le}
use Rattle.cml_log.proofs.LogLemmas.{place_at-open, IsTrimmable, trimmed-tidy, IsTidy-trimmed, IsTidy-opened, next_of-opened}
use Rattle.cml_log.proofs.LogLemmas.{next_of-trimmed, IsTrimmable-with_item, IsTrimmable-advance, IsTrimmable-close}

-- the least of these entries' places and `end`, as a loop over a slab finds it
abbrev pub least_listed : ℕ → List (ℕ × ℕ) → ℕ
least_listed end [] = end
least_listed end (entry ∷ rest) = least_listed (min end entry.1) rest

pub least_listed-entries_from : (end key : ℕ) (slots : List (Option ℕ)) → least_listed end (entries_from key slots) ≡ least end slots
least_listed-entries_from end key [] = refl
least_listed-entries_from end key (None ∷ rest) = least_listed-entries_from end (key + 1) rest
least_listed-entries_from end key (Some place ∷ rest) = least_listed-entries_from (min end place) (key + 1) rest

-- after one more item there is room for the next place's chunk, where a full chunk took room for another
pub room-more : (chunk first len old new : ℕ) → 0 < chunk → chunk * ((first + len) / chunk + 1) ≤ first + old → old ≤ new
    → ((first + len) % chunk ≡ chunk - 1 → len + (chunk + 1) ≤ new) → chunk * ((first + len + 1) / chunk + 1) ≤ first + new
room-more chunk first len old new some room grows taken =
    elim (cases_eq ((first + len) % chunk) (chunk - 1)) [
      | inl full ↦ omega (arith, taken full, mul-div-le (first + len + 1) chunk)
      | inr open_ended ↦
          let same : (first + len + 1) / chunk ≡ (first + len) / chunk =
          div-eq_of_lt-le chunk (omega arith) (omega arith) in
          rw same (omega arith)
    ]

-- what a call promises of its success holds where it didn't fail
pub on_ok : {X E P : Type 0} (r : Result X E) → is_err r ≡ false → OnOk r P → P
on_ok (Ok x) fine promised = promised
on_ok (Err e) fine promised = absurd (cc)

-- what `make_room` promises of a full chunk, over the length before it
pub taken_room : {X E : Type 0} (r : Result X E) (chunk first count len after capacity : ℕ) → is_err r ≡ false
    → OnOk r ((first + count) % chunk ≡ chunk - 1 → after + (chunk + 1) ≤ capacity) → count ≡ len → after ≡ len
    → (first + len) % chunk ≡ chunk - 1 → len + (chunk + 1) ≤ capacity
taken_room r chunk first count len after capacity fine promised counted same full =
    omega (arith, on_ok r fine promised (ap (λ n. (first + n) % chunk) counted ∙ full))

-- what a test for an empty slab says
pub some_from_test : (n : ℕ) (b : Bool) → b ≡ false → b ≡ (n == 0) → 0 < n
some_from_test n b is test = grind (arith, nat_tests)

pub none_from_test : (n : ℕ) (b : Bool) → b ≡ true → b ≡ (n == 0) → n ≡ 0
none_from_test n b is test = grind (arith, nat_tests)

-- a list of cursors of which none is open has no place
pub vacant_from_count : (places : List (Option ℕ)) (key : ℕ) → count_by is_some places ≡ 0 → get_or places key None ≡ None
vacant_from_count [] key none = refl
vacant_from_count (None ∷ rest) zero none = refl
vacant_from_count (None ∷ rest) (suc key) none =
    vacant_from_count rest key (omega (arith, none, sum_by-cons (λ o. cond (is_some o) 1 0) None rest))
vacant_from_count (Some place ∷ rest) key none = absurd (omega (arith, none, sum_by-cons (λ o. cond (is_some o) 1 0) (Some place) rest))

-- and one that has an open cursor has it under some key
pub open_from_count : (places : List (Option ℕ)) → 0 < count_by is_some places
    → (key : ℕ) × (place : ℕ) × (get_or places key None ≡ Some place)
open_from_count [] some = absurd (omega arith)
open_from_count (None ∷ rest) some =
    let later = open_from_count rest (omega (arith, some, sum_by-cons (λ o. cond (is_some o) 1 0) None rest)) in
    (suc later.0, later.1, later.2)
open_from_count (Some place ∷ rest) some = (zero, place, refl)

module _ {T : Type 0} where
  -- trimming keeps a log sound
  pub IsSound-trimmed : (chunk : ℕ) (l : Log T) (capacity : ℕ) → 0 < chunk → chunk ≤ 1024 → IsTrimmable chunk l
      → next_of l ≤ 18446744073709551614 → chunk * (next_of l / chunk + 1) ≤ l.first + capacity → IsSound chunk (trimmed chunk l) capacity
  IsSound-trimmed chunk l capacity some small ready counted room =
      let same = next_of-trimmed chunk l ready.kept in
      record {
        holds_one = some;
        small = small;
        tidy = IsTidy-trimmed chunk l ready;
        counted = omega arith;
        room = let P : ℕ → Type 0 = λ end. chunk * (end / chunk + 1) ≤ chunk_start chunk l + capacity in
            subst P (sym same) (omega (arith, ready.kept));
      }

  -- one more cursor keeps a log sound
  pub IsSound-opened : (chunk : ℕ) (old new : Log T) (capacity later key place : ℕ) → IsSound chunk old capacity → capacity ≤ later
      → Opens old new key place → least (next_of old) old.places ≤ place → place ≤ next_of old → IsSound chunk new later
  IsSound-opened chunk old new capacity later key place sound grows opens low high =
      let same = next_of-opened old new key place opens in
      record {
        holds_one = sound.holds_one;
        small = sound.small;
        tidy = IsTidy-opened chunk old new key place sound.tidy opens low high;
        counted = omega (arith, sound.counted);
        room = let P : ℕ → Type 0 = λ end. chunk * (end / chunk + 1) ≤ new.first + later in
            subst P (sym same) (omega (arith, sound.room, opens.first));
      }

  -- the fields of a log that is seen as `now`, with the cursor moved on, may be trimmed
  pub ready_to_advance : (chunk : ℕ) (l now : Log T) (key k : ℕ) (places : List (Option ℕ)) → IsTidy chunk l → l ≡ now → key ≡ k
      → IsOpen now k → 0 < length (owed_items now k) → places ≡ set l.places key (Some (place_of l key + 1))
      → IsTrimmable chunk (record l { places = places })
  ready_to_advance chunk l now key k places tidy seen same opened owed written =
      let there : IsOpen l key = subst (λ m. IsOpen m key) (sym seen) (subst (λ n. IsOpen now n) (sym same) opened) in
      let some : 0 < length (owed_items l key) =
      subst (λ m. 0 < length (owed_items m key)) (sym seen) (subst (λ n. 0 < length (owed_items now n)) (sym same) owed) in
      subst (λ ps. IsTrimmable chunk (record l { places = ps })) (sym written) (IsTrimmable-advance chunk l key tidy there some)

  -- the same with the cursor closed
  pub ready_to_close : (chunk : ℕ) (l now : Log T) (key k : ℕ) (places : List (Option ℕ)) → IsTidy chunk l → l ≡ now → key ≡ k
      → IsOpen now k → places ≡ set l.places key None → IsTrimmable chunk (record l { places = places })
  ready_to_close chunk l now key k places tidy seen same opened written =
      let there : IsOpen l key = subst (λ m. IsOpen m key) (sym seen) (subst (λ n. IsOpen now n) (sym same) opened) in
      subst (λ ps. IsTrimmable chunk (record l { places = ps })) (sym written) (IsTrimmable-close chunk l key tidy there)

  -- a log that may be trimmed keeps nothing past the chunk of its least place
  pub starts_before : {chunk : ℕ} {l : Log T} (n : ℕ) → IsTrimmable chunk l → n ≡ chunk → l.first ≤ chunk_start n l
  starts_before {l = l} n ready same = subst (λ m. l.first ≤ chunk_start m l) (sym same) ready.kept

  -- what the trimming of the fields leaves is sound
  pub IsSound-by_trim : {chunk capacity : ℕ} {old : Log T} {places : List (Option ℕ)} (n later : ℕ) (now : Log T)
      → IsSound chunk old capacity → IsTrimmable chunk (record old { places = places }) → n ≡ chunk
      → now ≡ trimmed n (record old { places = places }) → later ≡ capacity → IsSound chunk now later
  IsSound-by_trim {chunk} {capacity} {old} {places} n later now sound ready size trims same =
      let all =
      IsSound-trimmed chunk (record old { places = places }) capacity sound.holds_one sound.small ready sound.counted sound.room in
      subst (IsSound chunk now) (sym same)
      (subst (λ l. IsSound chunk l capacity) (sym (trims ∙ ap (λ m. trimmed m (record old { places = places })) size)) all)

  -- one more item leaves a log sound, where there is room for it and a full chunk took room for another
  pub IsSound-with_item : (chunk : ℕ) (l : Log T) (item : T) (capacity later : ℕ) → IsSound chunk l capacity
      → next_of l < 18446744073709551614 → capacity ≤ later → (next_of l % chunk ≡ chunk - 1 → length l.kept + (chunk + 1) ≤ later)
      → IsSound chunk (trimmed chunk (with_item l item)) later
  IsSound-with_item chunk l item capacity later sound below grows taken =
      let longer : next_of (with_item l item) ≡ next_of l + 1 = omega (arith, length-append l.kept (item ∷ [])) in
      let room = room-more chunk l.first (length l.kept) capacity later sound.holds_one sound.room grows taken in
      IsSound-trimmed chunk (with_item l item) later sound.holds_one sound.small (IsTrimmable-with_item chunk l item sound.tidy)
      (omega arith)
      (subst (λ end. chunk * (end / chunk + 1) ≤ l.first + later) (sym longer) room)

  -- where a cursor is open, one more item leaves nothing to trim
  pub trimmed-with_item_open : (chunk : ℕ) (l : Log T) (item : T) → IsTidy chunk l → 0 < count_by is_some l.places
      → trimmed chunk (with_item l item) ≡ with_item l item
  trimmed-with_item_open chunk l item tidy some =
      let found = open_from_count l.places some in
      let order : next_of l ≤ next_of (with_item l item) = omega (arith, length-append l.kept (item ∷ [])) in
      let same = least-past_cursor (next_of l) (next_of (with_item l item)) l.places found.0 found.1 found.2
      (tidy.within found.0 found.1 found.2) order in
      trimmed-tidy chunk (with_item l item) (tidy.first ∙ ap (λ n. chunk * (n / chunk)) (sym same))

  -- where none is open, the least place is the next
  pub trimmed-with_item_closed : (chunk : ℕ) (l : Log T) (item : T) (end : ℕ) → count_by is_some l.places ≡ 0 → end ≡ next_of l + 1
      → chunk_start chunk (with_item l item) ≡ chunk * (end / chunk)
  trimmed-with_item_closed chunk l item end none next =
      let longer : next_of (with_item l item) ≡ end = omega (arith, length-append l.kept (item ∷ [])) in
      ap (λ n. chunk * (n / chunk))
      (least-vacant (next_of (with_item l item)) l.places (λ key. vacant_from_count l.places key none) ∙ longer)

  -- a tidy log keeps nothing past the chunk of a place that is no earlier than the next
  pub kept_before_end : (chunk : ℕ) (l : Log T) (end : ℕ) → IsTidy chunk l → next_of l ≤ end → l.first ≤ chunk * (end / chunk)
  kept_before_end chunk l end tidy order =
      omega (arith, tidy.first, chunk_start-le chunk (least (next_of l) l.places) end (omega (arith, least-le_end (next_of l) l.places)))

  -- a slab that took one more place, over the slab that had the log's, opens a cursor there
  pub Opens-inserted : (l : Log T) (before after : Slab ℕ) (key place : ℕ) → before.slots ≡ l.places → get before key ≡ None
      → Updates before after key (Some place) → Opens l (record l { places = after.slots }) key place
  Opens-inserted l before after key place same vacant updates =
      record {
        vacant = subst (λ ps. get_or ps key None ≡ None) same vacant;
        opened = updates.changed;
        others = λ other differs. updates.others other differs ∙ ap (λ ps. get_or ps other None) same;
        first = refl;
        kept = refl;
      }

  pub IsSound-open_cursor : (chunk : ℕ) (l now : Log T) (capacity : ℕ) (before after : Slab ℕ) (key place : ℕ) → IsSound chunk l capacity
      → l ≡ now → before.slots ≡ l.places → get before key ≡ None → Updates before after key (Some place) → place ≡ next_of now
      → IsSound chunk (record l { places = after.slots }) capacity
  IsSound-open_cursor chunk l now capacity before after key place sound seen same vacant updates next =
      let end : place ≡ next_of l = next ∙ ap (λ m. next_of m) (sym seen) in
      IsSound-opened chunk l (record l { places = after.slots }) capacity capacity key place sound (omega arith)
      (Opens-inserted l before after key place same vacant updates)
      (omega (arith, least-le_end (next_of l) l.places)) (omega arith)

  pub IsSound-copy_cursor : (chunk : ℕ) (l now : Log T) (capacity : ℕ) (before after : Slab ℕ) (source key place : ℕ)
      → IsSound chunk l capacity → l ≡ now → before.slots ≡ l.places → get before key ≡ None → Updates before after key (Some place)
      → IsOpen now source → place ≡ place_of now source → IsSound chunk (record l { places = after.slots }) capacity
  IsSound-copy_cursor chunk l now capacity before after source key place sound seen same vacant updates opened stands =
      let there : IsOpen l source = subst (λ m. IsOpen m source) (sym seen) opened in
      let at : place ≡ place_of l source = stands ∙ ap (λ m. place_of m source) (sym seen) in
      let found = place_at-open l source there in
      IsSound-opened chunk l (record l { places = after.slots }) capacity capacity key place sound (omega arith)
      (Opens-inserted l before after key place same vacant updates)
      (omega (arith, least-le_place (next_of l) l.places source (place_of l source) found))
      (omega (arith, sound.tidy.within source (place_of l source) found))

  -- a push where a cursor is open: the fields are the trimmed log, and sound
  pub IsSound-pushed_open : (chunk : ℕ) (l : Log T) (item : T) (kept : List T) (capacity later : ℕ) → IsSound chunk l capacity
      → next_of l < 18446744073709551614 → capacity ≤ later → (next_of l % chunk ≡ chunk - 1 → length l.kept + (chunk + 1) ≤ later)
      → 0 < count_by is_some l.places → kept ≡ l.kept ++ item ∷ [] → IsSound chunk (record l { kept = kept }) later
  IsSound-pushed_open chunk l item kept capacity later sound below grows taken some added =
      subst (λ ks. IsSound chunk (record l { kept = ks }) later) (sym added)
      (subst (λ m. IsSound chunk m later) (trimmed-with_item_open chunk l item sound.tidy some)
      (IsSound-with_item chunk l item capacity later sound below grows taken))

  pub pushed_open : (chunk : ℕ) (l now : Log T) (item : T) (kept : List T) → IsTidy chunk l → l ≡ now → 0 < count_by is_some l.places
      → kept ≡ l.kept ++ item ∷ [] → record l { kept = kept } ≡ trimmed chunk (with_item now item)
  pushed_open chunk l now item kept tidy seen some added =
      ap (λ ks. record l { kept = ks }) added ∙ sym (trimmed-with_item_open chunk l item tidy some)
      ∙ ap (λ m. trimmed chunk (with_item m item)) seen

  -- a push where none is open: the trimmed fields are the trimmed log
  pub pushed_closed : (chunk : ℕ) (l : Log T) (item : T) (first end : ℕ) (pushed kept : List T) → count_by is_some l.places ≡ 0 → end
      ≡ next_of l + 1 → first ≡ chunk * (end / chunk) → pushed ≡ l.kept ++ item ∷ [] → kept ≡ drop (chunk * (end / chunk) - l.first) pushed
      → record { first = first; kept = kept; places = l.places } ≡ trimmed chunk (with_item l item)
  pushed_closed chunk l item first end pushed kept none next begins added keeps =
      let start = trimmed-with_item_closed chunk l item end none next in
      let begin : first ≡ chunk_start chunk (with_item l item) = begins ∙ sym start in
      let rest : kept ≡ drop (chunk_start chunk (with_item l item) - l.first) (l.kept ++ item ∷ []) =
      keeps ∙ ap (λ ks. drop (chunk * (end / chunk) - l.first) ks) added ∙ ap (λ n. drop (n - l.first) (l.kept ++ item ∷ [])) (sym start) in
      ap (λ f. record { first = f; kept = kept; places = l.places }) begin
      ∙ ap (λ ks. record { first = chunk_start chunk (with_item l item); kept = ks; places = l.places }) rest
