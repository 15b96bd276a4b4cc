-- Lemmas on logs and the changes that calls make to them, for this crate and its callers.
use Rattle.std.proofs.Common.{◌≡◌, ◌≢◌, ℕ, ◌+◌, ◌-◌, ◌*◌, ◌/◌, ◌<◌, ◌≤◌, List, [], ◌∷◌, length, get_or, set, drop, Option, Some}
use Rattle.std.proofs.Common.{None, refl, sym, ap, ◌∙◌, inl, inr, unwrap_or, arith, IsSome}
use Rattle.std.proofs.Math.Nat.{mul-div-le}
use Rattle.std.proofs.lemmas.Bool.{cases_eq, cases_lt}
use Rattle.std.proofs.lemmas.List.{get_or-set_same, get_or-set_other, get_or_past, length-drop, length-append, drop-drop}
use Rattle.cml_log.specs.Log.{Log}
use Rattle.cml_log.specs.{least, next_of, place_at, IsOpen, place_of, owed_items, chunk_start, trimmed, with_item, with_place, Opens}
use Rattle.cml_log.specs.{IsTidy}
use Rattle.cml_log.proofs.LeastLemmas.{least-le_end, least-le_place, least-later_end, least-opened, least-set, chunk_start-le}

module _ {T : Type 0} where
  -- the log may be trimmed: its chunk's start is no earlier than what it keeps, and no cursor is
  -- past the end
  pub record IsTrimmable (chunk : ℕ) (l : Log T) : Type 0 where
    pub kept : l.first ≤ chunk_start chunk l
    pub within : (key place : ℕ) → place_at l key ≡ Some place → place ≤ next_of l

  -- an open key has a place
  pub place_at-open : (l : Log T) (key : ℕ) → IsOpen l key → place_at l key ≡ Some (place_of l key)
  place_at-open l key opened = by_slot (place_at l key) opened
    where
      by_slot : (slot : Option ℕ) → IsSome slot → slot ≡ Some (unwrap_or slot 0)
      by_slot None there = absurd (cc)
      by_slot (Some place) there = refl

  -- a key with a place is open, and `place_of` gives the place
  pub place_of-at : (l : Log T) (key place : ℕ) → place_at l key ≡ Some place → place_of l key ≡ place
  place_of-at l key place found = rw found refl

  pub IsOpen-at : (l : Log T) (key place : ℕ) → place_at l key ≡ Some place → IsOpen l key
  IsOpen-at l key place found = rw found refl

  -- the start of the least place's chunk is at most the next place
  pub chunk_start-le_next : (chunk : ℕ) (l : Log T) → chunk_start chunk l ≤ next_of l
  chunk_start-le_next chunk l =
      omega (arith, mul-div-le (least (next_of l) l.places) chunk, least-le_end (next_of l) l.places)

  -- and at most each cursor's place
  pub chunk_start-le_place : (chunk : ℕ) (l : Log T) (key place : ℕ) → place_at l key ≡ Some place → chunk_start chunk l ≤ place
  chunk_start-le_place chunk l key place found =
      omega (arith, mul-div-le (least (next_of l) l.places) chunk, least-le_place (next_of l) l.places key place found)

  -- a tidy log keeps the item at each cursor's place and all that follow
  pub first-le_place : (chunk : ℕ) (l : Log T) (key place : ℕ) → IsTidy chunk l → place_at l key ≡ Some place → l.first ≤ place
  first-le_place chunk l key place tidy found = omega (arith, tidy.first, chunk_start-le_place chunk l key place found)

  -- trimming leaves the next place
  pub next_of-trimmed : (chunk : ℕ) (l : Log T) → l.first ≤ chunk_start chunk l → next_of (trimmed chunk l) ≡ next_of l
  next_of-trimmed chunk l kept =
      let start = chunk_start-le_next chunk l in
      omega (arith, length-drop (chunk_start chunk l - l.first) l.kept)

  -- what a trimmed log keeps of a stream is the stream from its first place on
  pub kept-trimmed : (chunk : ℕ) (l : Log T) (stream : List T) → l.first ≤ chunk_start chunk l → l.kept ≡ drop l.first stream
      → (trimmed chunk l).kept ≡ drop (trimmed chunk l).first stream
  kept-trimmed chunk l stream kept shown =
      let both : l.first + (chunk_start chunk l - l.first) ≡ chunk_start chunk l = omega arith in
      ap (drop (chunk_start chunk l - l.first)) shown
      ∙ drop-drop (chunk_start chunk l - l.first) l.first stream ∙ ap (λ n. drop n stream) both

  -- a tidy log has nothing to trim
  pub trimmed-tidy : (chunk : ℕ) (l : Log T) → l.first ≡ chunk_start chunk l → trimmed chunk l ≡ l
  trimmed-tidy chunk l tidy =
      let none : chunk_start chunk l - l.first ≡ 0 = omega arith in
      rw (none, ← tidy) refl

  -- a trimmed log is tidy
  pub IsTidy-trimmed : (chunk : ℕ) (l : Log T) → IsTrimmable chunk l → IsTidy chunk (trimmed chunk l)
  IsTidy-trimmed chunk l ready =
      let same = next_of-trimmed chunk l ready.kept in
      record {
        first = ap (λ end. chunk * (least end l.places / chunk)) (sym same);
        within = λ key place found. omega (arith, same, ready.within key place found);
      }

  -- each change that trims makes a log that may be trimmed
  pub IsTrimmable-with_item : (chunk : ℕ) (l : Log T) (item : T) → IsTidy chunk l → IsTrimmable chunk (with_item l item)
  IsTrimmable-with_item chunk l item tidy =
      let longer = length-append l.kept (item ∷ []) in
      let next : next_of l ≤ next_of (with_item l item) = omega arith in
      record {
        kept = omega (arith, tidy.first, chunk_start-le chunk _ _ (least-later_end (next_of l) (next_of (with_item l item)) l.places next));
        within = λ key place found. omega (arith, tidy.within key place found);
      }

  pub IsTrimmable-with_place : (chunk : ℕ) (l : Log T) (key place : ℕ) (slot : Option ℕ) → IsTidy chunk l → place_at l key ≡ Some place
      → ((moved : ℕ) → slot ≡ Some moved → place ≤ moved) → ((moved : ℕ) → slot ≡ Some moved → moved ≤ next_of l)
      → IsTrimmable chunk (with_place l key slot)
  IsTrimmable-with_place chunk l key place slot tidy found later within =
      record {
        kept = omega (arith, tidy.first, chunk_start-le chunk _ _ (least-set (next_of l) l.places key place slot found later));
        within = λ other at seen. elim (cases_eq other key) [
          | inl same ↦
              elim (cases_lt key (length l.places)) [
                | inl inside ↦ within at (sym (get_or-set_same l.places key slot None inside)
                    ∙ ap (λ k. get_or (set l.places key slot) k None) (sym same) ∙ seen)
                | inr past ↦ absurd (let none = get_or_past l.places key None past in cc)
              ]
          | inr differs ↦ tidy.within other at (sym (get_or-set_other l.places key other slot None differs) ∙ seen)
        ];
      }

  -- an owed item is kept, so the place after it is no later than the next
  pub place_of-owed : (chunk : ℕ) (l : Log T) (key : ℕ) → IsTidy chunk l → IsOpen l key
      → 0 < length (owed_items l key) → place_of l key + 1 ≤ next_of l
  place_of-owed chunk l key tidy opened owed =
      omega (
        arith,
        length-drop (place_of l key - l.first) l.kept,
        first-le_place chunk l key (place_of l key) tidy (place_at-open l key opened),
      )

  pub length-owed_items : (chunk : ℕ) (l : Log T) (key : ℕ) → IsTidy chunk l → IsOpen l key
      → length (owed_items l key) ≡ next_of l - place_of l key
  length-owed_items chunk l key tidy opened =
      let at = place_at-open l key opened in
      omega (
        arith,
        length-drop (place_of l key - l.first) l.kept,
        first-le_place chunk l key (place_of l key) tidy at,
        tidy.within key (place_of l key) at,
      )

  pub IsTrimmable-advance : (chunk : ℕ) (l : Log T) (key : ℕ) → IsTidy chunk l → IsOpen l key → 0 < length (owed_items l key)
      → IsTrimmable chunk (with_place l key (Some (place_of l key + 1)))
  IsTrimmable-advance chunk l key tidy opened owed =
      let end = place_of-owed chunk l key tidy opened owed in
      IsTrimmable-with_place chunk l key (place_of l key) (Some (place_of l key + 1)) tidy (place_at-open l key opened)
      (λ moved is. let e : place_of l key + 1 ≡ moved = cc in omega arith)
      (λ moved is. let e : place_of l key + 1 ≡ moved = cc in omega arith)

  pub IsTrimmable-close : (chunk : ℕ) (l : Log T) (key : ℕ) → IsTidy chunk l → IsOpen l key → IsTrimmable chunk (with_place l key None)
  IsTrimmable-close chunk l key tidy opened =
      IsTrimmable-with_place chunk l key (place_of l key) None tidy (place_at-open l key opened)
      (λ moved is. absurd (cc)) (λ moved is. absurd (cc))

  -- opening a cursor leaves the next place
  pub next_of-opened : (old new : Log T) (key place : ℕ) → Opens old new key place → next_of new ≡ next_of old
  next_of-opened old new key place opens = rw (opens.first, opens.kept) refl

  -- a log with one more cursor, no lower than the least, is tidy with nothing to trim
  pub IsTidy-opened : (chunk : ℕ) (old new : Log T) (key place : ℕ) → IsTidy chunk old → Opens old new key place
      → least (next_of old) old.places ≤ place → place ≤ next_of old → IsTidy chunk new
  IsTidy-opened chunk old new key place tidy opens low high =
      let same = next_of-opened old new key place opens in
      let stays = least-opened (next_of old) old.places new.places key place opens.vacant opens.opened opens.others low in
      let ends : least (next_of new) new.places ≡ least (next_of old) old.places = ap (λ end. least end new.places) same ∙ stays in
      record {
        first = opens.first ∙ tidy.first ∙ ap (λ x. chunk * (x / chunk)) (sym ends);
        within = λ other at seen. elim (cases_eq other key) [
          | inl equal ↦
              let here : Some place ≡ Some at = sym opens.opened ∙ ap (place_at new) (sym equal) ∙ seen in
              let e : place ≡ at = cc in
              omega arith
          | inr differs ↦ omega (arith, same, tidy.within other at (sym (opens.others other differs) ∙ seen))
        ];
      }

  -- in particular one at the next place, and one at an open cursor's place
  pub IsTidy-open_cursor : (chunk : ℕ) (old new : Log T) (key : ℕ) → IsTidy chunk old → Opens old new key (next_of old) → IsTidy chunk new
  IsTidy-open_cursor chunk old new key tidy opens =
      IsTidy-opened chunk old new key (next_of old) tidy opens (least-le_end (next_of old) old.places) (omega arith)

  pub IsTidy-copy_cursor : (chunk : ℕ) (old new : Log T) (source key : ℕ) → IsTidy chunk old → IsOpen old source
      → Opens old new key (place_of old source) → IsTidy chunk new
  IsTidy-copy_cursor chunk old new source key tidy opened opens =
      let at = place_at-open old source opened in
      IsTidy-opened chunk old new key (place_of old source) tidy opens
      (least-le_place (next_of old) old.places source (place_of old source) at) (tidy.within source (place_of old source) at)

  -- a change under one key leaves each other key's place
  pub place_at-with_place_other : (l : Log T) (key other : ℕ) (slot : Option ℕ) → other ≢ key
      → place_at (with_place l key slot) other ≡ place_at l other
  place_at-with_place_other l key other slot differs = get_or-set_other l.places key other slot None differs

  -- a change under an open key is what that key then shows
  pub place_at-with_place_same : (l : Log T) (key : ℕ) (slot : Option ℕ) → IsOpen l key → place_at (with_place l key slot) key ≡ slot
  place_at-with_place_same l key slot opened =
      elim (cases_lt key (length l.places)) [
        | inl inside ↦ get_or-set_same l.places key slot None inside
        | inr past ↦ absurd (let none = get_or_past l.places key None past in let at = place_at-open l key opened in cc)
      ]
