-- Words that suit their places.
use Rattle.std.specs.Prelude.{ℕ, ◌≡◌, true, false, List, [], ◌∷◌, slice_get, Some, ⊤}
use Rattle.cml_calls.specs.{is_text}
use Rattle.cml_grammar.specs.declared.forms.Place.{Place}
use Rattle.cml_grammar.specs.declared.forms.Place.TheVariants.{Fresh, Message, Capacity}
use Rattle.cml_grammar.specs.declared.names.Named.{Named}
use Rattle.cml_grammar.specs.Names.{Given, is_name, is_capacity, is_given, position_of}
use Rattle.cml_grammar.specs.Forms.{suits}

-- what is named at this position suits the place
abbrev pub IsSuitedAt : List Given → Place → ℕ → Type 0
IsSuitedAt names place at = (word : List ℕ) × (n : Named) × (slice_get names at ≡ Some (word, n)) × (suits place n ≡ true)

-- a name that is used was given, to what suits the place
abbrev pub IsUsed : List Given → Place → List ℕ → Type 0
IsUsed names place word = (at : ℕ) × (position_of names word ≡ Some at) × IsSuitedAt names place at

-- A fresh name is none of those given. A message is a text in either version, since a number's word is one.
abbrev pub Suits : List Given → Place → List ℕ → Type 0
Suits names Fresh word = (is_name word ≡ true) × (is_given names word ≡ false)
Suits names Message word = is_text word ≡ true
Suits names Capacity word = is_capacity word ≡ true
Suits names place word = IsUsed names place word

-- as many words as places, each in its place
abbrev pub AllSuit : List Given → List Place → List (List ℕ) → Type 0
AllSuit names [] [] = ⊤
AllSuit names [] (word ∷ words) = ⊥
AllSuit names (place ∷ places) [] = ⊥
AllSuit names (place ∷ places) (word ∷ words) = Suits names place word × AllSuit names places words
