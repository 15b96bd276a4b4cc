-- The text of a journal: pieces one after the other.
use Rattle.std.specs.Prelude.{◌≡◌, ◌⊎◌, ℕ, ◌+◌, ◌==◌, if◌then◌else◌, List, [], ◌∷◌, ◌++◌, length, map, Option, Some, None, codes}
use Rattle.std.specs.Fmt.{decimal}
use Rattle.std.specs.List.{flat_map}
use Rattle.std.specs.Option.{option_map}
use Rattle.std.specs.Io.KnownBytes.{Appends}
use Rattle.cml_board.specs.{Entry}
use Rattle.cml_journal.specs.declared.sum.Sum.{Sum}
use Rattle.cml_journal.specs.Sums.{Summed, and_bytes, sum_of}
use Rattle.cml_journal.specs.SumWords.{sum_word}
use Rattle.cml_journal.specs.Lines.{line_of}

-- a word and a number
abbrev pub numbered_line : List ℕ → ℕ → List ℕ
numbered_line word number = word ++ 32 ∷ decimal number

abbrev pub with_line_end : List ℕ → List ℕ
with_line_end line = line ++ 10 ∷ []

abbrev pub text_of : List (List ℕ) → List ℕ
text_of lines = flat_map with_line_end lines

-- a piece after a cut says which position is its first
abbrev pub from_lines : ℕ → List (List ℕ)
from_lines from = if from == 0 then [] else numbered_line (codes "from") from ∷ []

-- the lines before a piece's entries
abbrev pub head_lines : ℕ → ℕ → List (List ℕ)
head_lines version from = numbered_line (codes "journal") version ∷ from_lines from

-- a piece whose first entry has this position
abbrev pub piece_lines : {M : Type 0} → ℕ → (M → List ℕ) → ℕ → List (Entry M) → List (List ℕ)
piece_lines version text from entries =
    (head_lines version from ++ map (line_of text) entries) ++ numbered_line (codes "end") (from + length entries) ∷ []

-- pieces of which each begins where the one before ended
abbrev pub stream_lines : {M : Type 0} → ℕ → (M → List ℕ) → ℕ → List (List (Entry M)) → List (List ℕ)
stream_lines version text from [] = []
stream_lines version text from (entries ∷ later) =
    piece_lines version text from entries ++ stream_lines version text (from + length entries) later

-- a word, a number, and the word of a sum if there is one
abbrev pub named_line : List ℕ → ℕ → Option Sum → List ℕ
named_line word number None = numbered_line word number
named_line word number (Some sum) = numbered_line word number ++ 32 ∷ sum_word sum

-- a header of a sealed piece, with the sum of the piece before if there is one
abbrev pub sealed_header : ℕ → Option Sum → List ℕ
sealed_header version after = named_line (codes "journal") version after

-- the lines of a sealed piece before its end
abbrev pub sealed_lines : {M : Type 0} → ℕ → (M → List ℕ) → Option Sum → ℕ → List (Entry M) → List (List ℕ)
sealed_lines version text after from entries =
    (sealed_header (version + 2) after ∷ from_lines from) ++ map (line_of text) entries

-- the sum of a sealed piece: that of all these lines, each with its line end
abbrev pub piece_sum : {M : Type 0} → ℕ → (M → List ℕ) → Option Sum → ℕ → List (Entry M) → Sum
piece_sum version text after from entries = sum_of (text_of (sealed_lines version text after from entries))

-- a sealed piece has that sum in its last line
abbrev pub sealed_end : ℕ → Sum → List ℕ
sealed_end position sum = named_line (codes "end") position (Some sum)

abbrev pub sealed_piece_lines : {M : Type 0} → ℕ → (M → List ℕ) → Option Sum → ℕ → List (Entry M) → List (List ℕ)
sealed_piece_lines version text after from entries = sealed_lines version text after from entries
    ++ sealed_end (from + length entries) (piece_sum version text after from entries) ∷ []

-- sealed pieces of which each begins where the one before ended, and names its sum
abbrev pub sealed_stream_lines : {M : Type 0} → ℕ → (M → List ℕ) → Option Sum → ℕ → List (List (Entry M)) → List (List ℕ)
sealed_stream_lines version text after from [] = []
sealed_stream_lines version text after from (entries ∷ later) =
    sealed_piece_lines version text after from entries
    ++ sealed_stream_lines version text (Some (piece_sum version text after from entries)) (from + length entries) later

-- the sum of the last of these pieces
abbrev pub stream_sum : {M : Type 0} → ℕ → (M → List ℕ) → Option Sum → ℕ → List (List (Entry M)) → Option Sum
stream_sum version text after from [] = after
stream_sum version text after from (entries ∷ later) =
    stream_sum version text (Some (piece_sum version text after from entries)) (from + length entries) later

-- the text of plain pieces, or of sealed ones after any piece
abbrev pub IsTextOf : {M : Type 0} → ℕ → (M → List ℕ) → ℕ → List (List (Entry M)) → List ℕ → Type 0
IsTextOf version text from pieces bytes = (bytes ≡ text_of (stream_lines version text from pieces))
    ⊎ ((after : Option Sum) × (bytes ≡ text_of (sealed_stream_lines version text after from pieces)))

-- the text of a journal from position 0 on: plain pieces, or a chain of sealed ones
abbrev pub IsJournalOf : {M : Type 0} → ℕ → (M → List ℕ) → List (List (Entry M)) → List ℕ → Type 0
IsJournalOf version text pieces bytes = (bytes ≡ text_of (stream_lines version text 0 pieces))
    ⊎ (bytes ≡ text_of (sealed_stream_lines version text None 0 pieces))

-- of a text its front was written and summed, if it has to be, and this is left
abbrev pub WritesSummed : Option (List ℕ) → Option (List ℕ) → List ℕ → List ℕ → Option Summed → Option Summed → Type 0
WritesSummed held holds text left old new =
    (front : List ℕ) × Appends held holds front × (text ≡ front ++ left) × (new ≡ option_map (λ (s : Summed). and_bytes s front) old)
