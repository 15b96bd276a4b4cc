-- What the form of a line says of its words.
use Rattle.std.proofs.Common.{◌≡◌, ℕ, Bool, true, false, List, [], ◌∷◌, Option, Some, None, if◌then◌else◌, refl, subst}
use Rattle.std.specs.Prelude.{⊤}
use Rattle.std.specs.Option.{option_map_or}
use Rattle.cml_grammar.specs.{Declares, Verb, Given, seat_of, unknown, no_step, declaration, lane, step, form_of, step_form, declares_of}
use Rattle.cml_grammar.specs.{is_lane_word, verb_of}
use Rattle.cml_grammar.specs.Forms.{Form}

-- what the words of a line of this form are
abbrev pub IsLine : List Given → List (List ℕ) → Form → Type 0
IsLine names words (declaration what rest) = (word : List ℕ) × (words ≡ word ∷ rest) × (declares_of word ≡ Some what)
IsLine names words (lane rest) = (word : List ℕ) × (words ≡ word ∷ rest)
IsLine names words (step seat verb rest) =
    (thread : List ℕ) × (word : List ℕ) × (words ≡ thread ∷ word ∷ rest) × (seat_of names thread ≡ Some seat) × (verb_of word ≡ Some verb)
IsLine names words _ = ⊤

form_line : (names : List Given) (words : List (List ℕ)) → IsLine names words (form_of names words)
form_line names [] = tt
form_line names (word ∷ rest) = by_declares (declares_of word) refl
  where
    by_verb : (seat : ℕ) (second : List ℕ) (words : List (List ℕ)) (verb : Option Verb) → seat_of names word ≡ Some seat
        → verb_of second ≡ verb → IsLine names (word ∷ second ∷ words) (option_map_or (λ v. step seat v words) verb (no_step seat))
    by_verb seat second words None seated does = tt
    by_verb seat second words (Some verb) seated does = (word, second, refl, seated, does)

    by_step : (seat : ℕ) (words : List (List ℕ)) → seat_of names word ≡ Some seat → IsLine names (word ∷ words) (step_form seat words)
    by_step seat [] seated = tt
    by_step seat (second ∷ words) seated = by_verb seat second words (verb_of second) seated refl

    by_seat : (seat : Option ℕ) → seat_of names word ≡ seat
        → IsLine names (word ∷ rest) (option_map_or (λ s. step_form s rest) seat unknown)
    by_seat None seated = tt
    by_seat (Some seat) seated = by_step seat rest seated

    by_lane : (t : Bool)
        → IsLine names (word ∷ rest) (if t then lane rest else option_map_or (λ s. step_form s rest) (seat_of names word) unknown)
    by_lane true = (word, refl)
    by_lane false = by_seat (seat_of names word) refl

    by_declares : (what : Option Declares) → declares_of word ≡ what → IsLine names (word ∷ rest) (option_map_or (λ d. declaration d rest)
        what (if is_lane_word word then lane rest else option_map_or (λ s. step_form s rest) (seat_of names word) unknown))
    by_declares None declares = by_lane (is_lane_word word)
    by_declares (Some what) declares = (word, refl, declares)

pub line_by : (names : List Given) (words : List (List ℕ)) (form : Form) → form_of names words ≡ form → IsLine names words form
line_by names words form is = subst (IsLine names words) is (form_line names words)
