-- What the lines of a report are, by their words.
use Rattle.std.specs.Prelude.{ℕ, Bool, true, false, not, ◌&&◌, ◌||◌, ◌==◌, List, [], ◌∷◌, length, Option, Some, None, if◌then◌else◌, codes}
use Rattle.std.specs.Option.{option_map, option_and_then, option_or}
use Rattle.std.specs.List.{list_any}
use Rattle.std.specs.Str.{bytes_eq}
use Rattle.std.specs.Str.Parse.{digits_value}
use Rattle.cml_calls.specs.{ReplyKind, Row, given, asked, names_one, is_text}
use Rattle.cml_calls.specs.declared.shape.ReplyKind.TheVariants.{Done, Made, Got, Nothing, Put, Closed}
use Rattle.cml_calls.specs.declared.table.Give.TheVariants.{Send, Cast}
use Rattle.cml_calls.specs.declared.table.Ask.TheVariants.{Recv}
use Rattle.cml_grammar.specs.{is_name, is_number, words_of, verb_of, Verb}
use Rattle.cml_grammar.specs.declared.forms.Verb.TheVariants as verb

-- the texts of a line, wherever they lie in memory
abbrev pub Words : Type 0
Words = List (List ℕ)

-- a word without its last byte, where that is a colon
abbrev pub before_colon : List ℕ → Option (List ℕ)
before_colon [] = None
before_colon (b ∷ []) = if b == 58 then Some [] else None
before_colon (b ∷ c ∷ bs) = option_map (λ front. b ∷ front) (before_colon (c ∷ bs))

-- a message as a reply tells it: a number, or `=` and a text
abbrev pub is_message : List ℕ → Bool
is_message [] = false
is_message (b ∷ bs) = if b == 61 then is_text bs else is_number (b ∷ bs)

-- words are as a form has them, where `#` is for a number and `=` for a message
abbrev pub is_for : List ℕ → List ℕ → Bool
is_for mark word =
    if bytes_eq mark (codes "#") then is_number word
    else if bytes_eq mark (codes "=") then is_message word
    else bytes_eq word mark

abbrev pub fits : Words → Words → Bool
fits [] [] = true
fits (mark ∷ form) (word ∷ words) = is_for mark word && fits form words
fits _ _ = false

-- who acts
pub data Doer : Type 0 where
  thread : List ℕ → Doer
  lane : List ℕ → Doer
  feed : List ℕ → Doer

-- a line of the first part
pub record Deed : Type 0 where
  pub doer : Doer
  pub verb : Verb
  pub word : List ℕ
  pub object : List ℕ
  pub with : Option (List ℕ)
  pub reply : List ℕ
  pub line : List ℕ

-- a line of the second part
pub record Thing : Type 0 where
  pub kind : List ℕ
  pub name : List ℕ
  pub line : List ℕ

-- the last line
pub record Ended : Type 0 where
  pub stop : List ℕ
  pub line : List ℕ

-- First part.

-- the line begins with a thread's name, or with the number of a lane or a feed
abbrev pub ring_of : List ℕ → List ℕ → Option Doer
ring_of word number =
    if bytes_eq word (codes "lane") && is_number number then Some (lane number)
    else if bytes_eq word (codes "feed") && is_number number then Some (feed number)
    else None

abbrev pub doer_of : Words → Option (Doer × Words)
doer_of [] = None
doer_of (word ∷ []) = if is_name word then Some (thread word, []) else None
doer_of (word ∷ number ∷ rest) = if is_name word then Some (thread word, number ∷ rest)
    else option_map (λ doer. (doer, rest)) (ring_of word number)

-- the row of a step's call
abbrev pub row_of : Verb → Row
row_of (verb.Give call) = given call
row_of (verb.Ask call) = asked call

-- a new port's name comes back
abbrev pub makes_port : Verb → Bool
makes_port step = names_one (row_of step)

-- what a reply of each kind says: the message that came, or one word
abbrev pub says : ReplyKind → List ℕ → Bool
says Done reply = bytes_eq reply (codes "done")
says Made reply = bytes_eq reply (codes "made")
says Got reply = is_message reply
says Nothing reply = bytes_eq reply (codes "none")
says Put reply = bytes_eq reply (codes "put")
says Closed reply = bytes_eq reply (codes "closed")

-- which replies a step may have
abbrev pub may_answer : Verb → List ℕ → Bool
may_answer step reply = list_any (λ kind. says kind reply) (row_of step).replies

-- a thread may do anything; a lane sends or multicasts, and a feed receives a message
abbrev pub may_do : Doer → Verb → List ℕ → Bool
may_do (thread name) step reply = may_answer step reply
may_do (lane number) (verb.Give Send) reply = says Done reply
may_do (lane number) (verb.Give Cast) reply = says Done reply
may_do (feed number) (verb.Ask Recv) reply = says Got reply
may_do _ _ _ = false

-- a message that a thread gives is written as in the script, and one that a lane moved as in a reply
abbrev pub is_given_by : Doer → List ℕ → Bool
is_given_by (lane number) word = is_message word
is_given_by _ word = is_text word

-- what follows the step's word: one word or two, the last with a colon, and the reply
abbrev pub behind_step : Words → Option (Option (List ℕ) × List ℕ × List ℕ)
behind_step (last ∷ reply ∷ []) = Some (None, last, reply)
behind_step (first ∷ last ∷ reply ∷ rest) = if length rest == 0 then Some (Some first, last, reply) else None
behind_step _ = None

-- the object of a step, and what is beside it: a message, or the port's source, which comes before the port
abbrev pub object_of : Doer → Verb → Option (List ℕ) → List ℕ → Option (List ℕ × Option (List ℕ))
object_of doer (verb.Give call) (Some object) last = if is_given_by doer last then Some (object, Some last) else None
object_of doer (verb.Give call) None last = None
object_of doer (verb.Ask call) (Some source) last = if makes_port (verb.Ask call) then Some (last, Some source) else None
object_of doer (verb.Ask call) None last = if makes_port (verb.Ask call) then None else Some (last, None)

abbrev pub deed_with : Doer → Verb → List ℕ → List ℕ → Option (List ℕ) × List ℕ × List ℕ → Option Deed
deed_with doer step word line b =
    if not (may_do doer step b.2) then None
    else option_map (λ (o : List ℕ × Option (List ℕ)).
    record { doer = doer; verb = step; word = word; object = o.0; with = o.1; reply = b.2; line = line })
    (option_and_then (object_of doer step b.0) (before_colon b.1))

-- a step, and its reply
abbrev pub deed_by : Doer → List ℕ → Words → Option Deed
deed_by doer line [] = None
deed_by doer line (word ∷ rest) =
    option_and_then (λ (step : Verb). option_and_then (deed_with doer step word line) (behind_step rest)) (verb_of word)

-- a line of the first part
unfoldable pub deed_of : List ℕ → Words → Option Deed
deed_of line words = option_and_then (λ (d : Doer × Words). deed_by d.0 line d.1) (doer_of words)

-- Second part.

-- what a line may say of an object of this kind
abbrev pub is_closing_made : List ℕ → Words → Bool
is_closing_made kind closing =
    if bytes_eq kind (codes "mailbox") then fits (words_of (codes "sent # got # waits #")) closing
    else if bytes_eq kind (codes "channel") then fits (words_of (codes "sent # kept # first #")) closing
    else if bytes_eq kind (codes "port")
    then fits (words_of (codes "start # got # owed #")) closing || fits (words_of (codes "start # got # closed")) closing
    else if bytes_eq kind (codes "feed") then fits (words_of (codes "start # got # owed # taken #")) closing
    else fits (words_of (codes "empty")) closing || fits (words_of (codes "full =")) closing

unfoldable pub is_closing : List ℕ → Words → Bool
is_closing kind closing =
    list_any (bytes_eq kind) (words_of (codes "mailbox channel port feed ivar mvar"))
    && (is_closing_made kind closing || fits (words_of (codes "not made")) closing)

-- a line of the second part
unfoldable pub thing_of : List ℕ → Words → Option Thing
thing_of line (kind ∷ name ∷ closing) =
    option_and_then (λ front. if is_name front && is_closing kind closing
    then Some (record { kind = kind; name = front; line = line }) else None) (before_colon name)
thing_of line _ = None

-- The last line.

-- what a run that stopped so has left
abbrev pub may_leave : List ℕ → Words → Bool
may_leave stop left =
    if bytes_eq stop (codes "done") then length left == 0
    else list_any (bytes_eq stop) (words_of (codes "stalled full held")) && fits (words_of (codes "left #")) left

-- the last line, after this many lines of the first part, which it counts
unfoldable pub ended_of : ℕ → List ℕ → Words → Option Ended
ended_of count line (first ∷ stop ∷ performed ∷ left) =
    if bytes_eq first (codes "end:") && (is_number performed && (digits_value 10 performed == count)) && may_leave stop left
    then Some (record { stop = stop; line = line }) else None
ended_of count line _ = None

pub data Line : Type 0 where
  deed : Deed → Line
  thing : Thing → Line
  ended : Ended → Line

-- the line of these words after this many lines of the first part
abbrev pub line_by : ℕ → List ℕ → Words → Option Line
line_by count line words =
    option_or (option_map ended (ended_of count line words))
    (option_or (option_map thing (thing_of line words)) (option_map deed (deed_of line words)))

abbrev pub line_of : ℕ → List ℕ → Option Line
line_of count line = line_by count line (words_of line)
