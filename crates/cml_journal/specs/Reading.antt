-- A line is read from left to right, with the first fault that is met. `read` says which message a word is.
use Rattle.std.specs.Prelude.{◌≡◌, ℕ, ◌==◌, Bool, true, false, List, [], ◌∷◌, Option, Some, None, Result, Ok, Err, if◌then◌else◌, codes}
use Rattle.std.specs.Option.{option_map}
use Rattle.std.specs.Str.{bytes_eq}
use Rattle.cml_calls.specs.{Give, Ask, filled, make_of, give_of, ask_of}
use Rattle.cml_board.specs.{Name, Call, Entry, Who, Reply, row_of, made_call, given_call, asked_call, may_have}
use Rattle.cml_board.specs.declared.call.Call.TheVariants.{MVarInit}
use Rattle.cml_board.specs.declared.entry.Who.TheVariants.{Seat, Lane, Feed}
use Rattle.cml_board.specs.declared.entry.Reply.TheVariants.{Done, Made, Got, Nothing, Put, Closed}
use Rattle.cml_journal.specs.declared.fault.What.{What}
use Rattle.cml_journal.specs.declared.fault.What.TheVariants.{Short, UnknownWord, NoColon, BadNumber, BadMessage, WrongReply}
use Rattle.cml_journal.specs.declared.fault.Unread.{Unread}
use Rattle.cml_journal.specs.declared.fault.Unread.TheVariants as unread
use Rattle.cml_journal.specs.Numbers.{number_of}

infixl 10 ◌>>=◌
abbrev pub ◌>>=◌ : {A B : Type 0} → Result A What → (A → Result B What) → Result B What
(Ok x) >>= f = f x
(Err e) >>= f = Err e

-- What a function returned, seen by `view`, is what reading gives, unless there was no memory.
abbrev pub Fails : {Y : Type 0} → Unread → Result Y What → Type 0
Fails unread.Memory read = Unit {0}
Fails (unread.Fault what) read = read ≡ Err what

abbrev pub Gives : {X Y : Type 0} → (X → Y) → Result X Unread → Result Y What → Type 0
Gives view (Ok x) read = read ≡ Ok (view x)
Gives view (Err e) read = Fails e read

-- the value, or this fault where there is none
abbrev pub ok_or : {X : Type 0} → What → Option X → Result X What
ok_or what None = Err what
ok_or what (Some x) = Ok x

-- the bytes before the first space, and those after it
abbrev pub cut : List ℕ → Option (List ℕ × List ℕ)
cut [] = None
cut (b ∷ bs) = if b == 32 then Some ([], bs) else option_map (λ (parts : List ℕ × List ℕ). (b ∷ parts.0, parts.1)) (cut bs)

-- a word without the colon at its end, if it has one
abbrev pub without_colon : List ℕ → Option (List ℕ)
without_colon [] = None
without_colon (b ∷ []) = if b == 58 then Some [] else None
without_colon (b ∷ c ∷ bs) = option_map (λ word. b ∷ word) (without_colon (c ∷ bs))

-- the next word, and what is after the space at its end
unfoldable pub word_at : List ℕ → Result (List ℕ × List ℕ) What
word_at line = ok_or Short (cut line)

-- the next word where it has a colon at its end
unfoldable pub last_at : List ℕ → Result (List ℕ × List ℕ) What
last_at line = do
  next ← word_at line
  word ← ok_or NoColon (without_colon next.0)
  Ok (word, next.1)

unfoldable pub number_in : List ℕ → Result ℕ What
number_in word = ok_or BadNumber (number_of word)

unfoldable pub name_in : List ℕ → Result Name What
name_in word = do
  number ← number_in word
  Ok (record { 0 = number })

unfoldable pub who_by : List ℕ → ℕ → Result Who What
who_by word number =
    if bytes_eq word (codes "seat") then Ok (Seat number)
    else if bytes_eq word (codes "lane") then Ok (Lane number)
    else if bytes_eq word (codes "feed") then Ok (Feed number)
    else Err UnknownWord

unfoldable pub who_at : List ℕ → Result (Who × List ℕ) What
who_at line = do
  word ← word_at line
  next ← word_at word.1
  number ← number_in next.0
  who ← who_by word.0 number
  Ok (who, next.1)

unfoldable pub made_in : {M : Type 0} → List ℕ → Result (Call M) What
made_in word = do
  make ← ok_or UnknownWord (make_of word)
  Ok (made_call make)

unfoldable pub given_at : {M : Type 0} → (List ℕ → Option M) → Give → List ℕ → Result (Call M × List ℕ) What
given_at read give line = do
  object ← word_at line
  name ← name_in object.0
  last ← last_at object.1
  message ← ok_or BadMessage (read last.0)
  Ok (given_call give name message, last.1)

unfoldable pub asked_at : {M : Type 0} → Ask → List ℕ → Result (Call M × List ℕ) What
asked_at ask line = do
  last ← last_at line
  name ← name_in last.0
  Ok (asked_call ask name, last.1)

unfoldable pub filled_at : {M : Type 0} → (List ℕ → Option M) → List ℕ → Result (Call M × List ℕ) What
filled_at read line = do
  last ← last_at line
  message ← ok_or BadMessage (read last.0)
  Ok (MVarInit message, last.1)

-- a call after its word
abbrev pub called_by : {M : Type 0} → (List ℕ → Option M) → Option Give → Option Ask → Bool → List ℕ → Result (Call M × List ℕ) What
called_by read (Some give) ask fills line = given_at read give line
called_by read None (Some ask) fills line = asked_at ask line
called_by read None None true line = filled_at read line
called_by read None None false line = Err UnknownWord

unfoldable pub called_at : {M : Type 0} → (List ℕ → Option M) → List ℕ → List ℕ → Result (Call M × List ℕ) What
called_at read word line = called_by read (give_of word) (ask_of word) (bytes_eq word filled.word) line

-- a call by its first word, without a colon or with one
abbrev pub call_by : {M : Type 0} → (List ℕ → Option M) → List ℕ → Option (List ℕ) → List ℕ → Result (Call M × List ℕ) What
call_by read word None line = called_at read word line
call_by read word (Some whole) line = do
  call ← made_in whole
  Ok (call, line)

unfoldable pub call_at : {M : Type 0} → (List ℕ → Option M) → List ℕ → Result (Call M × List ℕ) What
call_at read line = do
  next ← word_at line
  call_by read next.0 (without_colon next.0) next.1

-- the number of an object that was made
unfoldable pub made_known : {M : Type 0} → List ℕ → Result (Reply M) What
made_known word = do
  name ← name_in word
  Ok (Made name)

-- a reply of two words, or of one
abbrev pub told_by : {M : Type 0} → (List ℕ → Option M) → List ℕ → Option (List ℕ × List ℕ) → Result (Reply M) What
told_by read text None = do
  message ← ok_or BadMessage (read text)
  Ok (Got message)
told_by read text (Some parts) = if bytes_eq parts.0 (codes "made") then made_known parts.1 else Err UnknownWord

unfoldable pub told_in : {M : Type 0} → (List ℕ → Option M) → List ℕ → Result (Reply M) What
told_in read text = told_by read text (cut text)

unfoldable pub reply_in : {M : Type 0} → (List ℕ → Option M) → List ℕ → Result (Reply M) What
reply_in read text =
    if bytes_eq text (codes "done") then Ok Done
    else if bytes_eq text (codes "none") then Ok Nothing
    else if bytes_eq text (codes "put") then Ok Put
    else if bytes_eq text (codes "closed") then Ok Closed
    else told_in read text

-- the entry that a line is
unfoldable pub entry_in : {M : Type 0} → (List ℕ → Option M) → List ℕ → Result (Entry M) What
entry_in read line = do
  who ← who_at line
  call ← call_at read who.1
  reply ← reply_in read call.1
  if may_have (row_of call.0) reply then Ok (record { who = who.0; call = call.0; reply = reply }) else Err WrongReply
