-- The lines that a file's text gets.
use Rattle.std.specs.Prelude.{ℕ, ◌+◌, List, [], ◌∷◌, Some}
use Rattle.std.specs.List.{flat_map}
use Rattle.cml_board.specs.{Entry}
use Rattle.cml_journal.specs.{from_lines, head_lines, line_of, sealed_header, text_of, with_line_end}
use Rattle.cml_file.specs.declared.judging.More.{More}
use Rattle.cml_file.specs.declared.judging.More.TheVariants.{Entries, Plain, Sealed}

-- the lines of entries
abbrev pub lines_of : {M : Type 0} → (M → List ℕ) → List (Entry M) → List ℕ
lines_of text entries = flat_map (λ entry. with_line_end (line_of text entry)) entries

-- the lines before an entry that has this position
abbrev pub head_of : (version position : ℕ) → More → List ℕ
head_of version position Entries = []
head_of version position Plain = text_of (head_lines version position)
head_of version position (Sealed sum) = text_of (sealed_header (version + 2) (Some sum) ∷ from_lines position)
