-- Lists of objects of which one log changes, and the logs and cursors in them.
use Rattle.std.proofs.Common.{◌≡◌, ◌≢◌, ◌⊎◌, inl, inr, ℕ, zero, suc, List, [], ◌∷◌, ◌++◌, length, slice_get, slice_set}
use Rattle.std.proofs.Common.{Option, Some, None, refl, sym, ap, subst, ◌∙◌, arith}
use Rattle.std.specs.Option.{option_map, option_and_then}
use Rattle.std.proofs.lemmas.Bool.{cases_eq}
use Rattle.std.proofs.lemmas.Option.{none-some, same_Some, some_pair_parts, slice_get_past}
use Rattle.cml_board.specs.{Object, map_log, log_in, cursor_in, log_at, cursor_at, on_log}
use Rattle.cml_board.specs.declared.object.Object.TheVariants.{Mailbox, Channel, Port, Variable}
use Rattle.cml_board.proofs.ListLemmas.{slice_get-set_same, slice_get-set_other, slice_get_pushed}

-- what a push leaves at the other places
pub slice_get_pushed_other : {X : Type 0} (xs : List X) (y : X) (k : ℕ) → k ≢ length xs → slice_get (xs ++ y ∷ []) k ≡ slice_get xs k
slice_get_pushed_other [] y zero other = absurd (other refl)
slice_get_pushed_other [] y (suc k) other = refl
slice_get_pushed_other (x ∷ xs) y zero other = refl
slice_get_pushed_other (x ∷ xs) y (suc k) other = slice_get_pushed_other xs y k (λ e. other (ap suc e))

module _ {M A : Type 0} where
  log_in-map_log : (f : A → A) (object : Object M A) → log_in (map_log f object) ≡ option_map f (log_in object)
  log_in-map_log f (Mailbox log key) = refl
  log_in-map_log f (Channel log) = refl
  log_in-map_log f (Port port) = refl
  log_in-map_log f (Variable form held) = refl

  cursor_in-map_log : (f : A → A) (k : ℕ) (object : Object M A) → cursor_in k (map_log f object) ≡ cursor_in k object
  cursor_in-map_log f k (Mailbox log key) = refl
  cursor_in-map_log f k (Channel log) = refl
  cursor_in-map_log f k (Port port) = refl
  cursor_in-map_log f k (Variable form held) = refl

  -- a change to a log leaves the number of objects
  pub length-on_log : (f : A → A) (objects : List (Object M A)) (name : ℕ) → length (on_log f objects name) ≡ length objects
  length-on_log f [] name = refl
  length-on_log f (object ∷ objects) zero = refl
  length-on_log f (object ∷ objects) (suc name) = ap suc (length-on_log f objects name)

  -- and each other object
  pub get-on_log_other : (f : A → A) (objects : List (Object M A)) (name k : ℕ) → k ≢ name
      → slice_get (on_log f objects name) k ≡ slice_get objects k
  get-on_log_other f [] name k other = refl
  get-on_log_other f (object ∷ objects) zero zero other = absurd (other refl)
  get-on_log_other f (object ∷ objects) zero (suc k) other = refl
  get-on_log_other f (object ∷ objects) (suc name) zero other = refl
  get-on_log_other f (object ∷ objects) (suc name) (suc k) other = get-on_log_other f objects name k (λ e. other (ap suc e))

  pub get-on_log_same : (f : A → A) (objects : List (Object M A)) (name : ℕ)
      → slice_get (on_log f objects name) name ≡ option_map (map_log f) (slice_get objects name)
  get-on_log_same f [] name = refl
  get-on_log_same f (object ∷ objects) zero = refl
  get-on_log_same f (object ∷ objects) (suc name) = get-on_log_same f objects name

  -- an object after the change is one from before it, its log changed if it is the one
  pub get-on_log_from : (f : A → A) (objects : List (Object M A)) (name k : ℕ) (object : Object M A)
      → slice_get (on_log f objects name) k ≡ Some object
      → (old : Object M A) × (slice_get objects k ≡ Some old) × ((object ≡ old) ⊎ (object ≡ map_log f old))
  get-on_log_from f [] name k object found = absurd (none-some object found)
  get-on_log_from f (first ∷ objects) zero zero object found = (first, refl, inr (sym (same_Some _ _ found)))
  get-on_log_from f (first ∷ objects) zero (suc k) object found = (object, found, inl refl)
  get-on_log_from f (first ∷ objects) (suc name) zero object found = (object, found, inl refl)
  get-on_log_from f (first ∷ objects) (suc name) (suc k) object found = get-on_log_from f objects name k object found

  -- the other logs stay
  pub log_at-on_log_other : (f : A → A) (objects : List (Object M A)) (name k : ℕ) → k ≢ name
      → log_at (on_log f objects name) k ≡ log_at objects k
  log_at-on_log_other f objects name k other = ap (option_and_then log_in) (get-on_log_other f objects name k other)

  log_in-mapped : (f : A → A) (slot : Option (Object M A))
      → option_and_then log_in (option_map (map_log f) slot) ≡ option_map f (option_and_then log_in slot)
  log_in-mapped f None = refl
  log_in-mapped f (Some object) = log_in-map_log f object

  -- and the one is changed
  pub log_at-on_log_same : (f : A → A) (objects : List (Object M A)) (name : ℕ) (l : A)
      → log_at objects name ≡ Some l → log_at (on_log f objects name) name ≡ Some (f l)
  log_at-on_log_same f objects name l found =
      ap (option_and_then log_in) (get-on_log_same f objects name) ∙ log_in-mapped f (slice_get objects name) ∙ ap (option_map f) found

  cursor_in-mapped : (f : A → A) (k : ℕ) (slot : Option (Object M A))
      → option_and_then (cursor_in k) (option_map (map_log f) slot) ≡ option_and_then (cursor_in k) slot
  cursor_in-mapped f k None = refl
  cursor_in-mapped f k (Some object) = cursor_in-map_log f k object

  -- no object reads elsewhere
  pub cursor_at-on_log : (f : A → A) (objects : List (Object M A)) (name k : ℕ) → cursor_at (on_log f objects name) k ≡ cursor_at objects k
  cursor_at-on_log f objects name k = elim (cases_eq k name) [
    | inl same ↦
        let stays : cursor_at (on_log f objects name) name ≡ cursor_at objects name =
        ap (option_and_then (cursor_in name)) (get-on_log_same f objects name) ∙ cursor_in-mapped f name (slice_get objects name) in
        subst (λ j. cursor_at (on_log f objects name) j ≡ cursor_at objects j) (sym same) stays
    | inr other ↦ ap (option_and_then (cursor_in k)) (get-on_log_other f objects name k other)
  ]

  -- a log and a cursor stay where they are when one more object is made
  pub log_at-pushed_other : (objects : List (Object M A)) (object : Object M A) (k : ℕ)
      → k ≢ length objects → log_at (objects ++ object ∷ []) k ≡ log_at objects k
  log_at-pushed_other objects object k other = ap (option_and_then log_in) (slice_get_pushed_other objects object k other)

  pub cursor_at-pushed_other : (objects : List (Object M A)) (object : Object M A) (k : ℕ)
      → k ≢ length objects → cursor_at (objects ++ object ∷ []) k ≡ cursor_at objects k
  cursor_at-pushed_other objects object k other = ap (option_and_then (cursor_in k)) (slice_get_pushed_other objects object k other)

  -- the new object's log and cursor
  pub log_at-pushed : (objects : List (Object M A)) (object : Object M A) → log_at (objects ++ object ∷ []) (length objects) ≡ log_in object
  log_at-pushed objects object = ap (option_and_then log_in) (slice_get_pushed objects object)

  pub cursor_at-pushed : (objects : List (Object M A)) (object : Object M A)
      → cursor_at (objects ++ object ∷ []) (length objects) ≡ cursor_in (length objects) object
  cursor_at-pushed objects object = ap (option_and_then (cursor_in (length objects))) (slice_get_pushed objects object)

  -- there was none before
  pub log_at_past : (objects : List (Object M A)) → log_at objects (length objects) ≡ None
  log_at_past objects = ap (option_and_then log_in) (slice_get_past objects (length objects) (omega arith))

  pub cursor_at_past : (objects : List (Object M A)) → cursor_at objects (length objects) ≡ None
  cursor_at_past objects = ap (option_and_then (cursor_in (length objects))) (slice_get_past objects (length objects) (omega arith))

  -- another object under a name leaves the other logs and cursors
  pub log_at-set_other : (objects : List (Object M A)) (name k : ℕ) (object : Object M A)
      → k ≢ name → log_at (slice_set objects name object) k ≡ log_at objects k
  log_at-set_other objects name k object other = ap (option_and_then log_in) (slice_get-set_other objects name k object other)

  pub cursor_at-set_other : (objects : List (Object M A)) (name k : ℕ) (object : Object M A)
      → k ≢ name → cursor_at (slice_set objects name object) k ≡ cursor_at objects k
  cursor_at-set_other objects name k object other = ap (option_and_then (cursor_in k)) (slice_get-set_other objects name k object other)

  -- and has its own under that name
  pub log_at-set_same : (objects : List (Object M A)) (name : ℕ) (old object : Object M A)
      → slice_get objects name ≡ Some old → log_at (slice_set objects name object) name ≡ log_in object
  log_at-set_same objects name old object found = ap (option_and_then log_in) (slice_get-set_same objects name old object found)

  pub cursor_at-set_same : (objects : List (Object M A)) (name : ℕ) (old object : Object M A) → slice_get objects name ≡ Some old
      → cursor_at (slice_set objects name object) name ≡ cursor_in name object
  cursor_at-set_same objects name old object found =
      ap (option_and_then (cursor_in name)) (slice_get-set_same objects name old object found)

  -- an object has one cursor at most
  pub same_source : (objects : List (Object M A)) (name some other one two : ℕ) → cursor_at objects name ≡ Some (some, one)
      → cursor_at objects name ≡ Some (other, two) → some ≡ other
  same_source objects name some other one two first second = (some_pair_parts some other one two (sym first ∙ second)).0

  pub same_key : (objects : List (Object M A)) (name some other one two : ℕ) → cursor_at objects name ≡ Some (some, one)
      → cursor_at objects name ≡ Some (other, two) → one ≡ two
  same_key objects name some other one two first second = (some_pair_parts some other one two (sym first ∙ second)).1
