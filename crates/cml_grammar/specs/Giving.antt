-- Which line of a script gives which of its names.
use Rattle.std.specs.Prelude.{ℕ, ◌+◌, ◌≡◌, ◌<◌, true, Bool, List, [], ◌∷◌, length, slice_get, take, count_by, Option}
use Rattle.std.specs.Prelude.{Some, None, is_some, ◌⊎◌}
use Rattle.std.specs.Option.{option_and_then}
use Rattle.cml_grammar.specs.declared.names.Named.{Named}
use Rattle.cml_grammar.specs.declared.names.Named.TheVariants as called
use Rattle.cml_grammar.specs.declared.names.Users.TheVariants as users
use Rattle.cml_grammar.specs.Names.{Given}
use Rattle.cml_grammar.specs.Forms.{declares_of, declared_places, verb_of, step_places, fresh_word}
use Rattle.cml_grammar.specs.Script.{SourceLine}
use Rattle.cml_grammar.specs.Meaning.{seat_of_step}

-- the word in a declaration's line where a name is given
abbrev pub declared_word : List (List ℕ) → Option (List ℕ)
declared_word [] = None
declared_word (word ∷ rest) = option_and_then (λ d. fresh_word (declared_places d rest) rest) (declares_of word)

-- and in a step's line, if it gives one
abbrev pub asked_word : List (List ℕ) → Option (List ℕ)
asked_word [] = None
asked_word (thread ∷ []) = None
asked_word (thread ∷ word ∷ rest) = option_and_then (λ v. fresh_word (step_places v) rest) (verb_of word)

abbrev pub is_giving : SourceLine → Bool
is_giving line = is_some (asked_word line.words)

-- how many names are given before the k-th step: each declaration gives one, and so do some of the earlier steps
abbrev pub names_before : List SourceLine → List SourceLine → ℕ → ℕ
names_before declared asked k = length declared + count_by is_giving (take k asked)

-- a step of these words gives the name at this position, to a port of its thread
abbrev pub GivesPort : List Given → ℕ → List (List ℕ) → Type 0
GivesPort names at words =
    (word : List ℕ) × (seat : ℕ)
    × (asked_word words ≡ Some word) × (seat_of_step names words ≡ Some seat)
    × (slice_get names at ≡ Some (word, called.Port (users.One seat)))

-- a declaration of these words gives the name at this position
abbrev pub GivesDeclared : List Given → ℕ → List (List ℕ) → Type 0
GivesDeclared names at words = (word : List ℕ) × (n : Named) × (declared_word words ≡ Some word) × (slice_get names at ≡ Some (word, n))

-- the k-th step gives the i-th name
abbrev pub IsGivenAt : List SourceLine → List SourceLine → ℕ → Type 0
IsGivenAt declared asked i = (k : ℕ) × (line : SourceLine) × (slice_get asked k ≡ Some line) × (is_giving line ≡ true)
    × (i ≡ names_before declared asked k)

-- The i-th declaration gives the i-th name. After those are the names that steps give, in text order, each for a port of
-- the step's thread. There are no others.
pub record NamesAreGiven (names : List Given) (declared asked : List SourceLine) : Type 0 where
  pub total : length names ≡ length declared + count_by is_giving asked
  pub declares : (i : ℕ) (line : SourceLine) → slice_get declared i ≡ Some line → GivesDeclared names i line.words
  pub steps : (k : ℕ) (line : SourceLine) → slice_get asked k ≡ Some line → is_giving line ≡ true
      → GivesPort names (names_before declared asked k) line.words
  pub each : (i : ℕ) (g : Given) → slice_get names i ≡ Some g → (i < length declared) ⊎ IsGivenAt declared asked i
