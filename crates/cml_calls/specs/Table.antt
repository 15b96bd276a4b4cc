-- The table of calls.
use Rattle.std.specs.Prelude.{ℕ, ◌==◌, Bool, true, false, List, [], ◌∷◌, Option, codes}
use Rattle.std.specs.List.{find, list_any}
use Rattle.std.specs.Str.{bytes_eq}
use Rattle.cml_calls.specs.declared.shape.Takers.{Takers}
use Rattle.cml_calls.specs.declared.shape.Takers.TheVariants.{Nobody, Mailboxes, Channels, Ports, MVars, Receivers, Variables}
use Rattle.cml_calls.specs.declared.shape.ReplyKind.{ReplyKind}
use Rattle.cml_calls.specs.declared.shape.ReplyKind.TheVariants.{Done, Made, Got, Nothing, Put, Closed}
use Rattle.cml_calls.specs.declared.table.Make.{Make}
use Rattle.cml_calls.specs.declared.table.Make.TheVariants as make
use Rattle.cml_calls.specs.declared.table.Give.{Give}
use Rattle.cml_calls.specs.declared.table.Give.TheVariants as give
use Rattle.cml_calls.specs.declared.table.Ask.{Ask}
use Rattle.cml_calls.specs.declared.table.Ask.TheVariants as ask

-- what is known of a call: its number and its word, which objects take it, which replies it may have, and whether it may block
pub record Row : Type 0 where
  pub number : ℕ
  pub word : List ℕ
  pub takers : Takers
  pub replies : List ReplyKind
  pub blocks : Bool

abbrev pub row : ℕ → List ℕ → Takers → List ReplyKind → Bool → Row
row number word takers replies blocks = record { number = number; word = word; takers = takers; replies = replies; blocks = blocks }

-- a call that makes an object of nothing
abbrev pub made : Make → Row
made make.Mailbox = row 0 (codes "mailbox") Nobody (Made ∷ []) false
made make.Channel = row 1 (codes "channel") Nobody (Made ∷ []) false
made make.IVar = row 5 (codes "ivar") Nobody (Made ∷ []) false
made make.MVar = row 6 (codes "mvar") Nobody (Made ∷ []) false

-- the call that makes an m-variable with its first message
abbrev pub filled : Row
filled = row 7 (codes "mvar") Nobody (Made ∷ []) false

-- a call that gives an object a message
abbrev pub given : Give → Row
given give.Send = row 8 (codes "send") Mailboxes (Done ∷ []) false
given give.Cast = row 9 (codes "multicast") Channels (Done ∷ []) false
given give.Put = row 12 (codes "put") Variables (Done ∷ Put ∷ []) false
given give.Swap = row 17 (codes "swap") MVars (Got ∷ []) true

-- a call that needs an object alone
abbrev pub asked : Ask → Row
asked ask.NewPort = row 2 (codes "port") Channels (Made ∷ []) false
asked ask.CopyPort = row 3 (codes "copy") Ports (Made ∷ Closed ∷ []) false
asked ask.ClosePort = row 4 (codes "close") Ports (Done ∷ Closed ∷ []) false
asked ask.Recv = row 10 (codes "recv") Receivers (Got ∷ Closed ∷ []) true
asked ask.Poll = row 11 (codes "poll") Receivers (Got ∷ Nothing ∷ Closed ∷ []) false
asked ask.Get = row 13 (codes "get") Variables (Got ∷ []) true
asked ask.GetPoll = row 14 (codes "getpoll") Variables (Got ∷ Nothing ∷ []) false
asked ask.Take = row 15 (codes "take") MVars (Got ∷ []) true
asked ask.TakePoll = row 16 (codes "takepoll") MVars (Got ∷ Nothing ∷ []) false

-- whether an object's name comes back
abbrev pub is_name : ReplyKind → Bool
is_name Made = true
is_name reply = false

abbrev pub names_one : Row → Bool
names_one r = list_any is_name r.replies

-- all of them
abbrev pub makes : List Make
makes = make.Mailbox ∷ make.Channel ∷ make.IVar ∷ make.MVar ∷ []

abbrev pub gives : List Give
gives = give.Send ∷ give.Cast ∷ give.Put ∷ give.Swap ∷ []

abbrev pub asks : List Ask
asks = ask.NewPort ∷ ask.CopyPort ∷ ask.ClosePort ∷ ask.Recv ∷ ask.Poll ∷ ask.Get ∷ ask.GetPoll ∷ ask.Take ∷ ask.TakePoll ∷ []

-- the call that a word is
abbrev pub make_of : List ℕ → Option Make
make_of word = find (λ make. bytes_eq word (made make).word) makes

abbrev pub give_of : List ℕ → Option Give
give_of word = find (λ give. bytes_eq word (given give).word) gives

abbrev pub ask_of : List ℕ → Option Ask
ask_of word = find (λ ask. bytes_eq word (asked ask).word) asks

-- the call that a number is
abbrev pub make_at : ℕ → Option Make
make_at number = find (λ make. (made make).number == number) makes

abbrev pub give_at : ℕ → Option Give
give_at number = find (λ give. (given give).number == number) gives

abbrev pub ask_at : ℕ → Option Ask
ask_at number = find (λ ask. (asked ask).number == number) asks
