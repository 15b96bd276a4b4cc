-- What a contract sees of a log of messages, and each change that a call makes to it.
use Rattle.std.specs.Prelude.{◌≡◌, ◌≢◌, ℕ, ◌+◌, ◌-◌, ◌*◌, ◌/◌, min, List, [], ◌∷◌, ◌++◌, length, drop, Option, Some, None, is_some}
use Rattle.std.specs.Prelude.{IsSome, count_by, map, slice_index_or, slice_set, unwrap_or, refl}
use Rattle.std.specs.Borrow.{Bor}
use Rattle.std.specs.Coded.{Coded, code_by, coded×, coded_ℕ, coded_list, coded_option}

-- the place of the first kept item, the items kept from there on, and under each key the place of
-- its cursor, or nothing where the key is vacant
pub record Log (T : Type 0) : Type 0 where
  pub first : ℕ
  pub kept : List T
  pub places : List (Option ℕ)

-- a log is stored as the tuple of its fields
abbrev pub log_code : {T : Type 0} → Coded T → Coded (Log T)
log_code {T} code =
    code_by
    (ℕ × (List T × List (Option ℕ)))
    (coded× coded_ℕ (coded× (coded_list code) (coded_list (coded_option coded_ℕ))))
    (λ l. (l.first, (l.kept, l.places)))
    (λ p. record { first = p.0; kept = p.1.0; places = p.1.1 })
    (λ _. refl)

-- the least of these places, or `end` where none is below it
abbrev pub least : ℕ → List (Option ℕ) → ℕ
least end [] = end
least end (None ∷ rest) = least end rest
least end (Some place ∷ rest) = least (min end place) rest

module _ {T : Type 0} where
  -- the items behind these references
  abbrev pub lent : List (Bor T) → List T
  lent items = map (λ item. item.now) items

  -- a log with no item and no cursor
  abbrev pub empty_log : Log T
  empty_log = record { first = 0; kept = []; places = [] }

  -- the place that the next item gets
  abbrev pub next_of : Log T → ℕ
  next_of l = l.first + length l.kept

  -- the place of a key's cursor, if it is open
  abbrev pub place_at : Log T → ℕ → Option ℕ
  place_at l key = slice_index_or l.places key None

  -- the key's cursor is open
  abbrev pub IsOpen : Log T → ℕ → Type 0
  IsOpen l key = IsSome (place_at l key)

  -- the place of an open cursor, and 0 where the key is vacant
  abbrev pub place_of : Log T → ℕ → ℕ
  place_of l key = unwrap_or (place_at l key) 0

  -- the items from a cursor's place on
  abbrev pub owed_items : Log T → ℕ → List T
  owed_items l key = drop (place_of l key - l.first) l.kept

  -- how many cursors are open
  abbrev pub cursor_count : Log T → ℕ
  cursor_count l = count_by is_some l.places

  -- how many chunks hold the places from the first kept one up to the next
  abbrev pub chunk_count : ℕ → Log T → ℕ
  chunk_count chunk l = next_of l / chunk - l.first / chunk + 1

  -- where the chunk begins that has the least place of a cursor, or the next place without cursors
  abbrev pub chunk_start : ℕ → Log T → ℕ
  chunk_start chunk l = chunk * (least (next_of l) l.places / chunk)

  -- the log without the items before that chunk
  abbrev pub trimmed : ℕ → Log T → Log T
  trimmed chunk l =
      record l {
        first = chunk_start chunk l;
        kept = drop (chunk_start chunk l - l.first) l.kept;
      }

  -- the log with one more item
  abbrev pub with_item : Log T → T → Log T
  with_item l item = record l { kept = l.kept ++ item ∷ [] }

  -- the log with this under the key: a cursor's place, or nothing
  abbrev pub with_place : Log T → ℕ → Option ℕ → Log T
  with_place l key slot = record l { places = slice_set l.places key slot }

  -- the new log has one more cursor, at this place, under a key that was vacant
  pub record Opens (old new : Log T) (key place : ℕ) : Type 0 where
    pub vacant : place_at old key ≡ None
    pub opened : place_at new key ≡ Some place
    pub others : (other : ℕ) → other ≢ key → place_at new other ≡ place_at old other
    pub first : new.first ≡ old.first
    pub kept : new.kept ≡ old.kept
