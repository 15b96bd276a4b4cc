-- How a text is cut into lines, and a line into words.
use Rattle.std.specs.Prelude.{ℕ, ◌==◌, Bool, true, ◌||◌, nat_lt, List, [], ◌∷◌, length}
use Rattle.std.specs.List.{slice_split, list_any}

-- the parts of a text between line ends: each but the last is a line, and the last is what follows the last line end
abbrev pub parts_of : List ℕ → List (List ℕ)
parts_of text = slice_split (λ b. b == 10) text

-- the words of a line: what is between its spaces
abbrev pub words_of : List ℕ → List (List ℕ)
words_of line = slice_split (λ b. b == 32) line

-- a byte that no line may have
abbrev pub is_bad_byte : ℕ → Bool
is_bad_byte b = nat_lt b 32 || nat_lt 126 b

-- a line that says nothing: it is empty, or begins with `#`
abbrev pub is_skipped : List ℕ → Bool
is_skipped [] = true
is_skipped (b ∷ bs) = b == 35

-- a line of words has a space at an end or two together just where one of its words is empty
abbrev pub has_empty_word : List (List ℕ) → Bool
has_empty_word words = list_any (λ word. length word == 0) words
