-- What the next line of a journal may be, and what of it was found, as a person reads that.
use Rattle.std.specs.Prelude.{ℕ, ◌+◌, ◌^◌, ◌==◌, nat_lt, if◌then◌else◌, List, [], ◌++◌, length, map, take, Some, None, codes}
use Rattle.cml_grammar.specs.{is_bad_byte}
use Rattle.cml_journal.specs.Sums.{Summed, sum_by}
use Rattle.cml_journal.specs.declared.fault.What.{What}
use Rattle.cml_journal.specs.declared.fault.What.TheVariants.{TooLong}
use Rattle.cml_journal.specs.declared.reader.Form.{Form}
use Rattle.cml_journal.specs.declared.reader.Form.TheVariants.{Plain, Sealed}
use Rattle.cml_journal.specs.declared.reader.Link.{Link}
use Rattle.cml_journal.specs.declared.reader.Link.TheVariants.{Any, First, Unsealed, Behind}
use Rattle.cml_journal.specs.declared.reader.Stage.{Stage}
use Rattle.cml_journal.specs.declared.reader.Stage.TheVariants.{Waiting, Headed, Inside}
use Rattle.cml_journal.specs.Streams.{numbered_line, sealed_header, sealed_end}
use Rattle.cml_journal.specs.Feeding.{State}

-- a line between backquotes
abbrev pub quoted : List ℕ → List ℕ
quoted line = codes "`" ++ line ++ codes "`"

-- the headers without a sum
abbrev pub first_due : ℕ → List ℕ
first_due version =
    quoted (numbered_line (codes "journal") version) ++ codes " or " ++ quoted (numbered_line (codes "journal") (version + 2))

-- the headers that a piece may begin with
abbrev pub headers_due : ℕ → Link → List ℕ
headers_due version Any = first_due version ++ codes ", the last with a sum or without"
headers_due version First = first_due version
headers_due version Unsealed = quoted (numbered_line (codes "journal") version)
headers_due version (Behind sum) = quoted (sealed_header (version + 2) (Some sum))

-- the end of a piece at this position
abbrev pub end_due : Form → Summed → ℕ → List ℕ
end_due Plain summed position = quoted (numbered_line (codes "end") position)
end_due Sealed summed position = quoted (sealed_end position (sum_by summed))

-- an entry, if one more may be counted, or the end of the piece
abbrev pub due_inside : Form → Summed → ℕ → List ℕ
due_inside form summed position =
    (if nat_lt (position + 1) (2 ^ 64) then codes "an entry, or " else []) ++ end_due form summed position

-- the position of a piece's first entry
abbrev pub from_due : ℕ → List ℕ
from_due position = quoted (numbered_line (codes "from") position)

-- what a line may be at this stage, after lines that are summed so far
abbrev pub stage_due : ℕ → Summed → Stage → List ℕ
stage_due version summed (Waiting before link) = headers_due version link
stage_due version summed (Headed None form) = codes "`from` and a number, " ++ due_inside form summed 0
stage_due version summed (Headed (Some position) form) =
    if position == 0 then due_inside form summed 0 else from_due position
stage_due version summed (Inside position form) = due_inside form summed position

-- what a line may be in place of one with this fault
abbrev pub due_line : ℕ → State → What → List ℕ
due_line version state TooLong = codes "at most 4,194,304 bytes"
due_line version state what = stage_due version state.summed state.stage

-- a byte, if it is printed or a space, and else `?`
abbrev pub shown_byte : ℕ → ℕ
shown_byte byte = if is_bad_byte byte then 63 else byte

-- the first bytes of a line, as they are shown
abbrev pub shown_front : List ℕ → List ℕ
shown_front line = quoted (map shown_byte (take 80 line))

-- a line, or as much of it as is shown
abbrev pub shown_line : List ℕ → List ℕ
shown_line line = if length line == 0 then codes "an empty line"
    else shown_front line ++ (if nat_lt 80 (length line) then codes ".." else [])
