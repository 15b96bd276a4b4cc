-- A journal's text is read byte by byte.
use Rattle.std.specs.Prelude.{◌≡◌, ⊤, ℕ, ◌+◌, ◌-◌, ◌%◌, ◌^◌, ◌≤◌, ◌==◌, ◌&&◌, ◌||◌, Bool, nat_lt, nat_le, nat_eq}
use Rattle.std.specs.Prelude.{if◌then◌else◌}
use Rattle.std.specs.Prelude.{List, [], ◌∷◌, ◌++◌, length, take}
use Rattle.std.specs.Prelude.{Option, Some, None, is_some, is_none, true, false, Result, Ok, Err, codes}
use Rattle.std.specs.Option.{option_map, option_and_then, option_to_list}
use Rattle.std.specs.List.{list_any, flat_map, starts_with}
use Rattle.std.specs.Str.{bytes_eq}
use Rattle.cml_board.specs.{Entry}
use Rattle.cml_grammar.specs.{is_bad_byte}
use Rattle.cml_journal.specs.declared.sum.Sum.{Sum}
use Rattle.cml_journal.specs.Sums.{Summed, nothing_summed, and_bytes, sum_by}
use Rattle.cml_journal.specs.SumWords.{IsSum, sum_word, sum_in}
use Rattle.cml_journal.specs.declared.fault.What.{What}
use Rattle.cml_journal.specs.declared.fault.What.TheVariants.{BadNumber, BadBytes, NoHeader, OtherVersion, OtherType, Gap, WrongEnd}
use Rattle.cml_journal.specs.declared.fault.What.TheVariants.{WrongSum, TooMany, TooLong}
use Rattle.cml_journal.specs.declared.reader.Form.{Form}
use Rattle.cml_journal.specs.declared.reader.Form.TheVariants.{Plain, Sealed}
use Rattle.cml_journal.specs.declared.reader.Link.{Link}
use Rattle.cml_journal.specs.declared.reader.Link.TheVariants.{Any, First, Unsealed, Behind}
use Rattle.cml_journal.specs.declared.reader.Stage.{Stage}
use Rattle.cml_journal.specs.declared.reader.Stage.TheVariants.{Waiting, Headed, Inside}
use Rattle.cml_journal.specs.Numbers.{number_of}
use Rattle.cml_journal.specs.Lines.{line_of, HasLine}
use Rattle.cml_journal.specs.Reading.{◌>>=◌, cut, entry_in}
use Rattle.cml_journal.specs.declared.fault.Unended.{Unended}
use Rattle.cml_journal.specs.declared.fault.Unended.TheVariants.{Open, Torn, NoJournal}
use Rattle.cml_journal.specs.Streams.{numbered_line, with_line_end, text_of, sealed_stream_lines, stream_sum}

-- How far a stream is read: its stage, how many lines have ended, and how many bytes these have but for a header behind the last
-- piece (both modulo 2 ^ 64), how many bytes such a header has, what has come of the next line, within a sealed piece how far its whole
-- lines are summed, and whether a byte 0 has come, which ends the text.
pub record State : Type 0 where
  pub stage : Stage
  pub lines : ℕ
  pub kept : ℕ
  pub header : ℕ
  pub line : List ℕ
  pub summed : Summed
  pub over : Bool

-- nothing is read at this stage
abbrev pub begun_at : Stage → State
begun_at stage = record { stage = stage; lines = 0; kept = 0; header = 0; line = []; summed = nothing_summed; over = false }

-- nothing is read yet
abbrev pub fresh : State
fresh = begun_at (Waiting None Any)

-- a sealed piece from position 0 on begins a chain
abbrev pub link_at : ℕ → Link
link_at position = if position == 0 then First else Any

-- nothing is read yet, and the first piece begins at this position
abbrev pub waiting_at : ℕ → State
waiting_at position = begun_at (Waiting (Some position) (link_at position))

-- the position after the last piece, where nothing is after that
abbrev pub end_by : Stage → ℕ → Option ℕ
end_by (Waiting end link) left = if left == 0 then end else None
end_by (Headed before form) left = None
end_by (Inside position form) left = None

abbrev pub end_of : State → Option ℕ
end_of state = end_by state.stage (length state.line)

-- the first line of a journal may begin so
abbrev pub begins_journal : ℕ → List ℕ → Bool
begins_journal version line = starts_with nat_eq (numbered_line (codes "journal") version) line
    || starts_with nat_eq (numbered_line (codes "journal") (version + 2)) line

-- how a text ends that has no line: a journal's first line may begin so, or not
abbrev pub first_unended : ℕ → Link → List ℕ → Unended
first_unended version First line = if begins_journal version line then Torn 0 else NoJournal
first_unended version Any line = Torn 0
first_unended version Unsealed line = Torn 0
first_unended version (Behind sum) line = Torn 0

-- how a text ends after its last piece, or within it, after these lines and with so many bytes of the next
abbrev pub unended_behind : Option ℕ → ℕ → ℕ → Option Unended
unended_behind (Some end) lines left = if left == 0 then None else Some (Torn lines)
unended_behind None lines left = Some (Torn lines)

abbrev pub unended_within : ℕ → ℕ → Option Unended
unended_within lines left = Some (if left == 0 then Open lines else Torn lines)

abbrev pub unended_at : ℕ → Stage → ℕ → List ℕ → Option Unended
unended_at version (Waiting before link) lines line =
    if lines == 0 then Some (first_unended version link line) else unended_behind before lines (length line)
unended_at version (Headed before form) lines line = unended_within lines (length line)
unended_at version (Inside position form) lines line = unended_within lines (length line)

-- how a text ends, unless it is whole
abbrev pub unended : ℕ → State → Option Unended
unended version state = unended_at version state.stage state.lines state.line

-- the sum of the last piece, where that is sealed and nothing is after it
abbrev pub sum_behind : Stage → ℕ → Option Sum
sum_behind (Waiting end (Behind sum)) left = if left == 0 then Some sum else None
sum_behind (Waiting end Any) left = None
sum_behind (Waiting end First) left = None
sum_behind (Waiting end Unsealed) left = None
sum_behind (Headed before form) left = None
sum_behind (Inside position form) left = None

abbrev pub last_sum : State → Option Sum
last_sum state = sum_behind state.stage (length state.line)

-- the sum that guards the whole lines so far: that of the last piece, or of the lines of one that has no end yet
abbrev pub sum_within : Form → Summed → Option Sum
sum_within Plain summed = None
sum_within Sealed summed = Some (sum_by summed)

abbrev pub kept_by : Stage → Summed → Option Sum
kept_by (Waiting end link) summed = sum_behind (Waiting end link) 0
kept_by (Headed before form) summed = None
kept_by (Inside position form) summed = sum_within form summed

abbrev pub kept_sum : State → Option Sum
kept_sum state = kept_by state.stage state.summed

-- the number after this word, if the line has just these
abbrev pub numbered : List ℕ → List ℕ → Option ℕ
numbered word line = option_and_then (λ (parts : List ℕ × List ℕ). if bytes_eq parts.0 word then number_of parts.1 else None) (cut line)

-- a number, and what is after it and a space
abbrev pub number_before : List ℕ → Option (ℕ × List ℕ)
number_before text =
    option_and_then (λ (parts : List ℕ × List ℕ). option_map (λ (n : ℕ). (n, parts.1)) (number_of parts.0)) (cut text)

-- the number after this word, and what is after that
abbrev pub tailed : List ℕ → List ℕ → Option (ℕ × List ℕ)
tailed word line = option_and_then (λ (parts : List ℕ × List ℕ). if bytes_eq parts.0 word then number_before parts.1 else None) (cut line)

-- an entry that a line gave, and the stage after it
abbrev pub Step : Type 0 → Type 0
Step M = Result (Stage × Option (Entry M)) What

-- the header of a plain piece
abbrev pub plain_headed : {M : Type 0} → Option ℕ → Link → Step M
plain_headed before Any = Ok (Headed before Plain, None)
plain_headed before First = Ok (Headed before Plain, None)
plain_headed before Unsealed = Ok (Headed before Plain, None)
plain_headed before (Behind sum) = Err NoHeader

-- the header of a sealed piece, where it has the right sum or none
abbrev pub sealed_where : {M : Type 0} → Option ℕ → Bool → Step M
sealed_where before right = if right then Ok (Headed before Sealed, None) else Err WrongSum

-- the header of a sealed piece, with the sum of the piece before if there is one
abbrev pub sealed_headed : {M : Type 0} → Option ℕ → Link → Option (List ℕ) → Step M
sealed_headed before Any None = sealed_where before true
sealed_headed before Any (Some word) = sealed_where before (is_some (sum_in word))
sealed_headed before First word = sealed_where before (is_none word)
sealed_headed before Unsealed word = Err NoHeader
sealed_headed before (Behind sum) None = sealed_where before false
sealed_headed before (Behind sum) (Some word) = sealed_where before (bytes_eq word (sum_word sum))

-- the fault of a header with this number, where it isn't one that may be there: the number may be of a version with messages of
-- another type, or of no version
abbrev pub header_fault : ℕ → ℕ → What
header_fault version found =
    if found == version || found == version + 2 then NoHeader
    else if nat_le 1 found && nat_le found 4 then OtherType else OtherVersion

-- a header without a word after its version, or with one
abbrev pub headed_by : {M : Type 0} → ℕ → Option ℕ → Link → Option ℕ → Option (ℕ × List ℕ) → Step M
headed_by version before link (Some found) tail =
    if found == version then plain_headed before link
    else if found == version + 2 then sealed_headed before link None else Err (header_fault version found)
headed_by version before link None (Some found) =
    if found.0 == version + 2 then sealed_headed before link (Some found.1) else Err (header_fault version found.0)
headed_by version before link None None = Err NoHeader

-- a header of this version, or of the sealed one
unfoldable pub headed : {M : Type 0} → ℕ → Option ℕ → Link → List ℕ → Step M
headed version before link line = headed_by version before link (numbered (codes "journal") line) (tailed (codes "journal") line)

-- a piece begins at this position, which is where the one before ended
abbrev pub begun : Option ℕ → ℕ → Result ℕ What
begun None from = Ok from
begun (Some position) from = if from == position then Ok from else Err Gap

-- an entry at this position
unfoldable pub entered : {M : Type 0} → (List ℕ → Option M) → Form → ℕ → List ℕ → Step M
entered read form position line = do
  entry ← entry_in read line
  if nat_lt (position + 1) (2 ^ 64) then Ok (Inside (position + 1) form, Some entry) else Err TooMany

-- the end of a plain piece, or an entry of it
abbrev pub ended_by : {M : Type 0} → (List ℕ → Option M) → ℕ → Option ℕ → List ℕ → Step M
ended_by read position None line = entered read Plain position line
ended_by read position (Some end) line = if end == position then Ok (Waiting (Some position) Unsealed, None) else Err WrongEnd

-- the end of a sealed piece with this sum, where it has this word
abbrev pub sealed_by : {M : Type 0} → ℕ → Sum → List ℕ → Step M
sealed_by position sum word = if bytes_eq word (sum_word sum) then Ok (Waiting (Some position) (Behind sum), None) else Err WrongSum

-- the end of a sealed piece with this sum, or an entry of it
abbrev pub closed_by : {M : Type 0} → (List ℕ → Option M) → Sum → ℕ → Option (ℕ × List ℕ) → List ℕ → Step M
closed_by read sum position None line = entered read Sealed position line
closed_by read sum position (Some end) line = if end.0 == position then sealed_by position sum end.1 else Err WrongEnd

-- the end of a piece, or an entry of it
abbrev pub inside_by : {M : Type 0} → (List ℕ → Option M) → Form → Summed → ℕ → List ℕ → Step M
inside_by read Plain summed position line = ended_by read position (numbered (codes "end") line) line
inside_by read Sealed summed position line = closed_by read (sum_by summed) position (tailed (codes "end") line) line

unfoldable pub inside : {M : Type 0} → (List ℕ → Option M) → Form → Summed → ℕ → List ℕ → Step M
inside read form summed position line = inside_by read form summed position line

-- the position of a piece's first entry, or that entry where it is 0
abbrev pub from_by : {M : Type 0} → (List ℕ → Option M) → Form → Summed → Option ℕ → Option ℕ → List ℕ → Step M
from_by read form summed before None line = begun before 0 >>= λ position. inside read form summed position line
from_by read form summed before (Some from) line =
    if from == 0 then Err BadNumber else begun before from >>= λ position. Ok (Inside position form, None)

unfoldable pub behind_header : {M : Type 0} → (List ℕ → Option M) → Form → Summed → Option ℕ → List ℕ → Step M
behind_header read form summed before line = from_by read form summed before (numbered (codes "from") line) line

-- what a line of printed bytes is at a stage, after lines that are summed so far
abbrev pub line_step : {M : Type 0} → ℕ → (List ℕ → Option M) → Summed → Stage → List ℕ → Step M
line_step version read summed (Waiting before link) line = headed version before link line
line_step version read summed (Headed before form) line = behind_header read form summed before line
line_step version read summed (Inside position form) line = inside read form summed position line

unfoldable pub line_read : {M : Type 0} → ℕ → (List ℕ → Option M) → Summed → Stage → List ℕ → Step M
line_read version read summed stage line = if list_any is_bad_byte line then Err BadBytes else line_step version read summed stage line

-- text is summed in a sealed piece
abbrev pub sums : Form → Summed → List ℕ → Summed
sums Plain summed text = summed
sums Sealed summed text = and_bytes summed text

-- a line more is summed, if this stage after it is within its piece
abbrev pub sums_line : Stage → Summed → List ℕ → Summed
sums_line (Waiting before link) summed line = nothing_summed
sums_line (Headed before form) summed line = sums form summed (with_line_end line)
sums_line (Inside position form) summed line = sums form summed (with_line_end line)

-- the most bytes of a line
abbrev pub most : ℕ
most = 4194304

-- a byte of a line
abbrev pub held : State → ℕ → Result State What
held state b = if nat_lt (length state.line) most then Ok (record state { line = state.line ++ b ∷ [] }) else Err TooLong

-- bytes of a line
abbrev pub held_all : State → List ℕ → Result State What
held_all state bytes = if nat_le (length state.line + length bytes) most
    then Ok (record state { line = state.line ++ bytes }) else Err TooLong

-- as many bytes of a line as it may have
abbrev pub filled : State → List ℕ → State
filled state bytes = record state { line = state.line ++ take (most - length state.line) bytes }

-- the bytes before the first 0, which is in no line
abbrev pub printed : List ℕ → List ℕ
printed [] = []
printed (b ∷ bs) = if b == 0 then [] else b ∷ printed bs

-- a byte that ends a line, or the text
abbrev pub is_end : ℕ → Bool
is_end b = (b == 0) || (b == 10)

abbrev pub has_end : List ℕ → Bool
has_end bytes = list_any is_end bytes

-- how many bytes the whole lines have after one more, of this length without its end, but for a header that is the last
abbrev pub kept_behind : Stage → (kept header length : ℕ) → ℕ
kept_behind (Headed before form) kept header length = kept
kept_behind (Waiting before link) kept header length = (kept + (header + (length + 1))) % 2 ^ 64
kept_behind (Inside position form) kept header length = (kept + (header + (length + 1))) % 2 ^ 64

-- how many bytes that header has
abbrev pub header_behind : Stage → (length : ℕ) → ℕ
header_behind (Headed before form) length = length + 1
header_behind (Waiting before link) length = 0
header_behind (Inside position form) length = 0

-- a line's end
unfoldable pub turned : {M : Type 0} → ℕ → (List ℕ → Option M) → State → Result (State × Option (Entry M)) What
turned version read state = do
  step ← line_read version read state.summed state.stage state.line
  Ok (
    record {
      stage = step.0;
      lines = (state.lines + 1) % 2 ^ 64;
      kept = kept_behind step.0 state.kept state.header (length state.line);
      header = header_behind step.0 (length state.line);
      line = [];
      summed = sums_line step.0 state.summed state.line;
      over = state.over;
    },
    step.1,
  )

-- no entry ends there
abbrev pub no_entry : {M : Type 0} → Result State What → Result (State × Option (Entry M)) What
no_entry (Ok state) = Ok (state, None)
no_entry (Err what) = Err what

-- a byte of a line, or its end; the first byte 0 ends the text, and what is behind it isn't read
abbrev pub byte_read : {M : Type 0} → ℕ → (List ℕ → Option M) → State → ℕ → Result (State × Option (Entry M)) What
byte_read version read state b =
    if state.over then Ok (state, None)
    else if b == 0 then Ok (record state { over = true }, None)
    else if b == 10 then turned version read state else no_entry (held state b)

-- entries, and the state after them
abbrev pub Read : Type 0 → Type 0
Read M = Result (State × List (Entry M)) What

-- what is read later, after these entries
abbrev pub behind : {M : Type 0} → List (Entry M) → Read M → Read M
behind front (Ok later) = Ok (later.0, front ++ later.1)
behind front (Err what) = Err what

-- what is read of bytes
unfoldable pub reading : {M : Type 0} → ℕ → (List ℕ → Option M) → State → List ℕ → Read M
reading version read state [] = Ok (state, [])
reading version read state (b ∷ bs) = do
  first ← byte_read version read state b
  behind (option_to_list first.1) (reading version read first.0 bs)

-- an entry has a line, and one that is short enough
abbrev pub IsReadable : {M : Type 0} → (M → List ℕ) → (M → Bool) → Entry M → Type 0
IsReadable text fits entry = HasLine fits entry × (length (line_of text entry) ≤ most)

-- the sum of a piece before, if there is one, has 32 bytes
abbrev pub MaybeSum : Option Sum → Type 0
MaybeSum None = ⊤
MaybeSum (Some sum) = IsSum sum

-- the writing of sealed pieces is read to its end, and gives exactly their entries, and the sum of the last
abbrev pub IsSealedRead : {M : Type 0} → ℕ → (M → List ℕ) → (List ℕ → Option M) → State → Option Sum → ℕ → List (List (Entry M)) → Type 0
IsSealedRead version text read begins after from pieces =
    (state : State)
    × (reading version read begins (text_of (sealed_stream_lines version text after from pieces))
    ≡ Ok (state, flat_map (λ piece. piece) pieces))
    × (end_of state ≡ Some (from + length (flat_map (λ piece. piece) pieces)))
    × (last_sum state ≡ stream_sum version text after from pieces)
