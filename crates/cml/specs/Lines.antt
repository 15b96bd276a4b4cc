-- What is written of an ending.
use Rattle.std.specs.Prelude.{ℕ, zero, suc, ◌==◌, if◌then◌else◌, List, [], ◌∷◌, ◌++◌, length, codes, string_bytes, unwrap_or, Option}
use Rattle.std.specs.Prelude.{Some, None, ⊤}
use Rattle.std.specs.Fmt.{decimal}
use Rattle.std.specs.Io.KnownBytes.{Appends}
use Rattle.cml_calls.specs.{Kind}
use Rattle.cml_calls.specs.declared.kind.Kind.TheVariants as kind
use Rattle.cml_board.specs.{Entry, Expected, sent_count, got_count, owed_count, start_of, first_of, kept_count, held_by, made}
use Rattle.cml_board.specs.{kind_of}
use Rattle.cml_board.specs.declared.outcome.Refusal.TheVariants.{NoSuch}
use Rattle.cml_board.specs.declared.expected.Expected.TheVariants as expected
use Rattle.cml_journal.specs.{Sum, sum_word, reply_text, State as ReaderState, What, due_line}
use Rattle.cml_journal.specs.declared.fault.What.TheVariants.{TooLong as TooLongLine}
use Rattle.cml.specs.declared.check.ending.Ending.{Ending}
use Rattle.cml.specs.declared.check.ending.Ending.TheVariants.{Lawful, Unlawful, WriteFault, Compacted}
use Rattle.cml.specs.declared.check.wanted.Wanted.{Wanted}
use Rattle.cml.specs.declared.check.wanted.Wanted.TheVariants.{State}

-- a count, and 0 where there is none
abbrev pub counted : Option ℕ → List ℕ
counted count = decimal (unwrap_or count 0)

-- what is expected in place of a line with this fault. The first header settles the version, so it may be any of these
abbrev pub expected_text : ℕ → ReaderState → What → List ℕ
expected_text version state TooLongLine = due_line version state TooLongLine
expected_text version state what =
    if state.lines == 0 then codes "`journal 1`, `journal 2`, `journal 3` or `journal 4`" else due_line version state what

module _ {M : Type 0} (text : M → List ℕ) where
  -- the right answer to the call of an unlawful entry
  abbrev pub answer_text : Expected M → List ℕ
  answer_text (expected.Reply reply) = reply_text text reply
  answer_text expected.WouldWait = codes "waits"
  answer_text (expected.Refused NoSuch) = codes "no such object"
  answer_text (expected.Refused refusal) = codes "wrong kind"

  -- an object's kind and number
  abbrev pub object_head : List ℕ → ℕ → List ℕ
  object_head word number = word ++ 32 ∷ decimal number ++ 58 ∷ []

  abbrev pub mailbox_line : List (Entry M) → ℕ → List ℕ
  mailbox_line history number =
      object_head (codes "mailbox") number ++ (codes " sent " ++ counted (sent_count history number))
      ++ (codes " got " ++ counted (got_count history number))
      ++ (codes " waits " ++ counted (owed_count history number)) ++ 10 ∷ []

  -- a chunk holds four messages
  abbrev pub channel_line : List (Entry M) → ℕ → List ℕ
  channel_line history number =
      object_head (codes "channel") number ++ (codes " sent " ++ counted (sent_count history number))
      ++ (codes " kept " ++ counted (kept_count 4 history number))
      ++ (codes " first " ++ counted (first_of 4 history number)) ++ 10 ∷ []

  abbrev pub owed_or_closed : Option ℕ → List ℕ
  owed_or_closed None = codes " closed"
  owed_or_closed (Some owed) = codes " owed " ++ decimal owed

  abbrev pub port_line : List (Entry M) → ℕ → List ℕ
  port_line history number =
      object_head (codes "port") number ++ codes " start " ++ counted (start_of history number) ++ codes " got "
      ++ counted (got_count history number)
      ++ owed_or_closed (owed_count history number) ++ 10 ∷ []

  abbrev pub held_text : Option (Option M) → List ℕ
  held_text (Some (Some message)) = codes " full " ++ text message
  held_text other = codes " empty"

  abbrev pub variable_line : List ℕ → List (Entry M) → ℕ → List ℕ
  variable_line word history number = object_head word number ++ held_text (held_by history number) ++ 10 ∷ []

  -- the line of a number, if it is an object's
  abbrev pub line_of_kind : List (Entry M) → ℕ → Option Kind → List ℕ
  line_of_kind history number None = []
  line_of_kind history number (Some kind.Mailbox) = mailbox_line history number
  line_of_kind history number (Some kind.Channel) = channel_line history number
  line_of_kind history number (Some kind.Port) = port_line history number
  line_of_kind history number (Some kind.IVar) = variable_line (codes "ivar") history number
  line_of_kind history number (Some kind.MVar) = variable_line (codes "mvar") history number

  abbrev pub object_line : List (Entry M) → ℕ → List ℕ
  object_line history number = line_of_kind history number (kind_of history number)

  -- the lines of the objects with numbers below this
  abbrev pub object_lines : List (Entry M) → ℕ → List ℕ
  object_lines history zero = []
  object_lines history (suc number) = object_lines history number ++ object_line history number

  -- the lines of all objects, whose numbers are those below their count
  abbrev pub state_lines : List (Entry M) → List ℕ
  state_lines history = object_lines history (length (made history))

  -- the same, if they are asked for
  abbrev pub told_state : Wanted → List (Entry M) → List ℕ
  told_state State history = state_lines history
  told_state other history = []

-- the line of a journal's last sum, if it has sums
abbrev pub told_sum : Option Sum → List ℕ
told_sum None = []
told_sum (Some sum) = codes "sum " ++ sum_word sum ++ 10 ∷ []

-- the lines of a verdict, and nothing for another ending
abbrev pub lines_for : Ending → List ℕ
lines_for (Lawful count state) = codes "lawful " ++ decimal count ++ 10 ∷ string_bytes state
lines_for (Unlawful at entry answer) =
    codes "unlawful at " ++ decimal at ++ codes ": " ++ string_bytes entry ++ 10 ∷ codes "answer: " ++ string_bytes answer ++ 10 ∷ []
lines_for (Compacted written) = string_bytes written
lines_for ending = []

-- what the writer has after an ending: its lines; unknown if it failed
abbrev pub Writes : Ending → Option (List ℕ) → Option (List ℕ) → Type 0
Writes WriteFault old new = ⊤
Writes ending old new = Appends old new (lines_for ending)
