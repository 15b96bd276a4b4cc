-- What the log sees of its chunks, and each change that a call makes to them.
use Rattle.std.specs.Prelude.{◌≡◌, ◌⊎◌, ℕ, ◌+◌, ◌-◌, ◌*◌, ◌/◌, ◌<◌, ◌≤◌, ◌&&◌, ◌==◌, Bool, ltb, List, [], ◌∷◌, ◌++◌, length, drop}
use Rattle.std.specs.Prelude.{Option, Some, None, slice_index_or, slice_set, refl}
use Rattle.std.specs.Coded.{Coded, code_by, coded×, coded_ℕ, coded_list, coded_option}
use denote.RawPtr.{Ptr, coded_ptr}

-- how many chunks were freed, which is the number of the first kept one; the items of those
-- kept; for each chunk ever made where it lies and how many cursors are in it, or nothing where it
-- was freed; how many were made; how many links were followed; and the first slot of the first
-- kept chunk from which on no item was moved out
pub record Chunks (T : Type 0) : Type 0 where
  pub given : ℕ
  pub items : List T
  pub cells : List (Option (Ptr × ℕ))
  pub made : ℕ
  pub followed : ℕ
  pub taken : ℕ

-- chunks are stored as the tuple of these
abbrev pub chunks_code : {T : Type 0} → Coded T → Coded (Chunks T)
chunks_code {T} code =
    code_by
    (ℕ × (List T × (List (Option (Ptr × ℕ)) × (ℕ × (ℕ × ℕ)))))
    (coded× coded_ℕ (coded× (coded_list code) (coded× (coded_list (coded_option (coded× coded_ptr coded_ℕ))) (coded× coded_ℕ
    (coded× coded_ℕ coded_ℕ)))))
    (λ c. (c.given, (c.items, (c.cells, (c.made, (c.followed, c.taken))))))
    (λ p. record {
      given = p.0;
      items = p.1.0;
      cells = p.1.1.0;
      made = p.1.1.1.0;
      followed = p.1.1.1.1.0;
      taken = p.1.1.1.1.1;
    })
    (λ _. refl)

-- the chunk of this number
abbrev pub cell_at : List (Option (Ptr × ℕ)) → ℕ → Option (Ptr × ℕ)
cell_at cells number = slice_index_or cells number None

-- how many cursors a chunk has, and none where it isn't kept
abbrev pub count_of : Option (Ptr × ℕ) → ℕ
count_of None = 0
count_of (Some cell) = cell.1

abbrev pub count_at : List (Option (Ptr × ℕ)) → ℕ → ℕ
count_at cells number = count_of (cell_at cells number)

-- the chunk of this number is kept, and lies there
abbrev pub LiesAt : List (Option (Ptr × ℕ)) → ℕ → Ptr → Type 0
LiesAt cells number at = (count : ℕ) × (cell_at cells number ≡ Some (at, count))

module _ {T : Type 0} where
  -- the place that the next item gets, in chunks of this many places
  abbrev pub end_of : ℕ → Chunks T → ℕ
  end_of chunk c = chunk * c.given + length c.items

  -- the first kept chunk has no cursor, and isn't the one that takes the next item
  abbrev pub is_idle : ℕ → Chunks T → Bool
  is_idle chunk c = ltb c.given (end_of chunk c / chunk) && (count_at c.cells c.given == 0)

  -- the chunks without the first kept one
  abbrev pub passed : ℕ → Chunks T → Chunks T
  passed chunk c =
      record c {
        given = c.given + 1;
        items = drop chunk c.items;
        cells = slice_set c.cells c.given None;
        taken = 0;
      }

  -- this many cursors are in the chunk of this number
  abbrev pub with_count : Chunks T → ℕ → Ptr → ℕ → Chunks T
  with_count c number at count = record c { cells = slice_set c.cells number (Some (at, count)) }

  -- one more item, and where it filled its chunk one more chunk, in which no cursor is
  pub record Pushed (chunk : ℕ) (old new : Chunks T) (item : T) : Type 0 where
    pub given : new.given ≡ old.given
    pub items : new.items ≡ old.items ++ item ∷ []
    pub followed : new.followed ≡ old.followed
    pub taken : new.taken ≡ old.taken
    pub lies : (number count : ℕ) (at : Ptr) → cell_at old.cells number ≡ Some (at, count) → cell_at new.cells number ≡ Some (at, count)
    pub counts : (number : ℕ) → count_at new.cells number ≡ count_at old.cells number

  -- chunks were freed from the head on, of which none had a cursor, a link followed for each
  pub record Passed (chunk : ℕ) (old new : Chunks T) : Type 0 where
    pub later : old.given ≤ new.given
    pub items : new.items ≡ drop (chunk * (new.given - old.given)) old.items
    pub end : end_of chunk new ≡ end_of chunk old
    pub lies : (number : ℕ) → new.given ≤ number → cell_at new.cells number ≡ cell_at old.cells number
    pub counts : (number : ℕ) → count_at new.cells number ≡ count_at old.cells number
    pub bare : (number : ℕ) → old.given ≤ number → number < new.given → count_at old.cells number ≡ 0
    pub followed : new.followed + old.given ≡ old.followed + new.given
    pub taken : (new.taken ≡ 0) ⊎ ((new.given ≡ old.given) × (new.taken ≡ old.taken))

  -- one chunk, in which nothing is
  pub record Begins (c : Chunks T) : Type 0 where
    pub given : c.given ≡ 0
    pub items : c.items ≡ []
    pub cells : (at : Ptr) × (c.cells ≡ Some (at, 0) ∷ [])
    pub followed : c.followed ≡ 0
    pub taken : c.taken ≡ 0
