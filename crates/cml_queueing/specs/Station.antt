-- What a station's history tells: which customers came into the line, and which were served, by whom.
use Rattle.std.specs.Prelude.{ℕ, zero, suc, ◌≡◌, ◌≢◌, ◌≤◌, List, [], ◌∷◌, ◌++◌, length, Some, ⊤}
use Rattle.cml_calls.specs.declared.kind.Kind.TheVariants.{Mailbox}
use Rattle.cml_board.specs.{Call, Who, Reply, Entry, kind_of, sent, got, got_by}
use Rattle.cml_board.specs.declared.outcome.Outcome.{Outcome}
use Rattle.cml_board.specs.declared.call.Call.TheVariants.{Recv}
use Rattle.cml_board.specs.declared.entry.Who.TheVariants.{Seat}
use Rattle.cml_board.specs.declared.entry.Reply.TheVariants.{Got}
use Rattle.cml_board.specs.declared.outcome.Outcome.TheVariants.{Answered}

-- how many servers a station has, and all that was called there
pub record Place : Type 0 where
  pub servers : ℕ
  pub history : List (Entry ℕ)

-- the first n numbers, in order
abbrev pub numbers : ℕ → List ℕ
numbers zero = []
numbers (suc n) = numbers n ++ n ∷ []

-- it is one of this many servers: they have the seats 1, 2 and so on
pub record IsServer (servers : ℕ) (who : Who) : Type 0 where
  pub seat : ℕ
  pub by : who ≡ Seat seat
  pub least : 1 ≤ seat
  pub most : seat ≤ servers

-- who received a customer from the line is a server
abbrev pub AreServed : ℕ → List (Entry ℕ) → Type 0
AreServed servers [] = ⊤
AreServed servers (entry ∷ before) = (got_by entry.call entry.reply 0 ≢ [] → IsServer servers entry.who) × AreServed servers before

-- the line, which has the name 0, is a mailbox; its customers are numbered in the order in which they came; and only servers
-- receive from it
pub record IsStation (place : Place) : Type 0 where
  pub line : kind_of place.history 0 ≡ Some Mailbox
  pub customers : sent place.history 0 ≡ numbers (length (sent place.history 0))
  pub servers : AreServed place.servers place.history

-- the first customers were served, in the order of their arrival, each once, each by a server
pub record ServesInOrder (place : Place) (served : ℕ) : Type 0 where
  pub order : got place.history 0 ≡ numbers served
  pub servers : AreServed place.servers place.history

-- this server received this customer from the line, and nothing else was called
abbrev pub Receives : ℕ → Place → Place → ℕ → Type 0
Receives server old new customer =
    new ≡ record old { history = (record { who = Seat server; call = Recv (record { 0 = 0 }); reply = Got customer }) ∷ old.history }

-- the call was answered so
abbrev pub IsAnsweredBy : Reply ℕ → Outcome ℕ → Type 0
IsAnsweredBy reply (Answered answer) = answer.reply ≡ reply
IsAnsweredBy reply _ = ⊥
