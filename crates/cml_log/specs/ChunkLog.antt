-- What a contract sees of a log in chunks, and what holds of its fields.
use Rattle.std.specs.Prelude.{◌≡◌, ℕ, ◌+◌, ◌*◌, ◌/◌, ◌<◌, ◌≤◌, ◌==◌, cond, false, List, [], ◌∷◌, map, Option, Some}
use Rattle.std.specs.Prelude.{None, slice_index_or, refl}
use Rattle.std.specs.Coded.{Coded, code_by, coded×, coded_ℕ}
use Rattle.cml_log.specs.declared.cursors.Cursor.{Cursor}
use Rattle.cml_log.specs.Log.{Log, log_code, place_at}
use Rattle.cml_log.specs.Chain.{Chunks, LiesAt, count_at, end_of, is_idle}

-- the log; how many chunks were made and freed, each counted by the call that did it alone; and
-- how many links between chunks were followed
pub record Counted (T : Type 0) : Type 0 where
  pub log : Log T
  pub made : ℕ
  pub given : ℕ
  pub followed : ℕ

-- no chunk was made or freed, and no link followed
pub record KeepsCounted {T : Type 0} (old new : Counted T) : Type 0 where
  pub made : new.made ≡ old.made
  pub given : new.given ≡ old.given
  pub followed : new.followed ≡ old.followed

-- it is stored as the tuple of these
abbrev pub counted_code : {T : Type 0} → Coded T → Coded (Counted T)
counted_code {T} code =
    code_by
    (Log T × (ℕ × (ℕ × ℕ)))
    (coded× (log_code code) (coded× coded_ℕ (coded× coded_ℕ coded_ℕ)))
    (λ c. (c.log, (c.made, (c.given, c.followed))))
    (λ p. record { log = p.0; made = p.1.0; given = p.1.1.0; followed = p.1.1.1 })
    (λ _. refl)

-- a cursor's place, or nothing where the key is vacant
abbrev pub place_in : Option Cursor → Option ℕ
place_in None = None
place_in (Some cursor) = Some cursor.place

-- the cursor under a key
abbrev pub cursor_at : List (Option Cursor) → ℕ → Option Cursor
cursor_at slots key = slice_index_or slots key None

-- 1 where the slot's cursor is in the chunk of this number, which has this many places
abbrev pub weight : ℕ → ℕ → Option Cursor → ℕ
weight chunk number None = 0
weight chunk number (Some cursor) = cond (cursor.place / chunk == number) 1 0

-- how many cursors are in the chunk of this number
abbrev pub standing : ℕ → ℕ → List (Option Cursor) → ℕ
standing chunk number [] = 0
standing chunk number (slot ∷ rest) = weight chunk number slot + standing chunk number rest

-- a cursor holds the chunk of its place, which is kept
pub record HoldsChunk {T : Type 0} (chunk : ℕ) (c : Chunks T) (cursor : Cursor) : Type 0 where
  pub number : cursor.at.number ≡ cursor.place / chunk
  pub kept : c.given ≤ cursor.at.number
  pub lies : LiesAt c.cells cursor.at.number cursor.at.at
  pub within : cursor.place ≤ end_of chunk c

module _ {T : Type 0} where
  -- each cursor holds its chunk, and each chunk counts the cursors in it
  pub record IsHeld (chunk : ℕ) (c : Chunks T) (slots : List (Option Cursor)) : Type 0 where
    pub holds_one : 0 < chunk
    pub small : chunk ≤ 1024
    pub bounded : end_of chunk c ≤ 18446744073709551614
    pub held : (key : ℕ) (cursor : Cursor) → cursor_at slots key ≡ Some cursor → HoldsChunk chunk c cursor
    pub counts : (number : ℕ) → count_at c.cells number ≡ standing chunk number slots

  -- and no chunk is kept before the least place's
  pub record IsTrim (chunk : ℕ) (c : Chunks T) (slots : List (Option Cursor)) : Type 0 where
    pub is_held : IsHeld chunk c slots
    pub trim : is_idle chunk c ≡ false

  -- the log that these chunks and cursors show
  abbrev pub log_of : ℕ → Chunks T → List (Option Cursor) → Log T
  log_of chunk c slots = record { first = chunk * c.given; kept = c.items; places = map place_in slots }

  -- no item was moved out from a cursor's place on
  pub record IsAhead (chunk : ℕ) (c : Chunks T) (slots : List (Option Cursor)) : Type 0 where
    pub part : chunk * c.given + c.taken ≤ end_of chunk c
    pub behind : (key place : ℕ) → place_at (log_of chunk c slots) key ≡ Some place → chunk * c.given + c.taken ≤ place

  -- what holds of each log in chunks
  pub record IsWhole (chunk : ℕ) (c : Chunks T) (slots : List (Option Cursor)) : Type 0 where
    pub is_trim : IsTrim chunk c slots
    pub is_ahead : IsAhead chunk c slots

  abbrev pub counted_of : ℕ → Chunks T → List (Option Cursor) → Counted T
  counted_of chunk c slots =
      record { log = log_of chunk c slots; made = c.made; given = c.given; followed = c.followed }
