-- The line of an entry, for messages that are written by `text`.
use Rattle.std.specs.Prelude.{◌≡◌, ℕ, ◌<◌, ◌^◌, Bool, true, List, [], ◌∷◌, ◌++◌, Option, Some, None, IfSome, codes}
use Rattle.std.specs.Fmt.{decimal}
use Rattle.cml_board.specs.{Name, Call, Entry, Who, Reply, object_in, message_of, row_of, may_have}
use Rattle.cml_board.specs.declared.entry.Who.TheVariants.{Seat, Lane, Feed}
use Rattle.cml_board.specs.declared.entry.Reply.TheVariants.{Done, Made, Got, Nothing, Put, Closed}

abbrev pub who_word : Who → List ℕ
who_word (Seat number) = codes "seat"
who_word (Lane number) = codes "lane"
who_word (Feed number) = codes "feed"

abbrev pub who_number : Who → ℕ
who_number (Seat number) = number
who_number (Lane number) = number
who_number (Feed number) = number

-- who made a call, by its number
abbrev pub who_text : Who → List ℕ
who_text who = who_word who ++ 32 ∷ decimal (who_number who)

-- what is there, after a space
abbrev pub field : {X : Type 0} → (X → List ℕ) → Option X → List ℕ
field text None = []
field text (Some x) = 32 ∷ text x

-- a call: its word, its object's number and its message
abbrev pub call_text : {M : Type 0} → (M → List ℕ) → Call M → List ℕ
call_text text call = (row_of call).word ++ field (λ (name : Name). decimal name.0) (object_in call) ++ field text (message_of call)

abbrev pub reply_text : {M : Type 0} → (M → List ℕ) → Reply M → List ℕ
reply_text text Done = codes "done"
reply_text text (Made name) = codes "made" ++ 32 ∷ decimal name.0
reply_text text (Got message) = text message
reply_text text Nothing = codes "none"
reply_text text Put = codes "put"
reply_text text Closed = codes "closed"

-- an entry's line, without its line end
abbrev pub line_of : {M : Type 0} → (M → List ℕ) → Entry M → List ℕ
line_of text entry = who_text entry.who ++ 32 ∷ call_text text entry.call ++ 58 ∷ 32 ∷ reply_text text entry.reply

abbrev pub ReplyFits : {M : Type 0} → (M → Bool) → Reply M → Type 0
ReplyFits fits Done = Unit {0}
ReplyFits fits (Made name) = name.0 < 2 ^ 64
ReplyFits fits (Got message) = fits message ≡ true
ReplyFits fits Nothing = Unit {0}
ReplyFits fits Put = Unit {0}
ReplyFits fits Closed = Unit {0}

-- An entry has a line: its numbers are below 2 ^ 64, its messages can be written, and its reply is one that its call may have.
pub record HasLine {M : Type 0} (fits : M → Bool) (entry : Entry M) : Type 0 where
  pub who : who_number entry.who < 2 ^ 64
  pub object : IfSome (object_in entry.call) (λ (name : Name). name.0 < 2 ^ 64)
  pub message : IfSome (message_of entry.call) (λ message. fits message ≡ true)
  pub reply : ReplyFits fits entry.reply
  pub lawful : may_have (row_of entry.call) entry.reply ≡ true
