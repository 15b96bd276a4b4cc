-- The calls that are alike.
use Rattle.std.specs.Prelude.{Bool, true, false}
use Rattle.cml_board.specs.declared.call.Call.{Call}
use Rattle.cml_board.specs.declared.call.Call.TheVariants.{NewMailbox, NewChannel, NewPort, CopyPort, NewIVar, NewMVar}
use Rattle.cml_board.specs.declared.object.Form.{Form}
use Rattle.cml_board.specs.declared.object.Form.TheVariants.{Once, Mutable}
use Rattle.cml_board.specs.declared.board.note.Making.{Making}
use Rattle.cml_board.specs.declared.board.note.Making.TheVariants as making
use Rattle.cml_calls.specs.{Give, Ask}
use Rattle.cml_calls.specs.declared.table.Give.TheVariants as give
use Rattle.cml_calls.specs.declared.table.Ask.TheVariants as ask

-- it adds a message to those that were sent or multicast before
abbrev pub adds : Give → Bool
adds give.Send = true
adds give.Cast = true
adds other = false

-- it takes the next message
abbrev pub takes_next : Ask → Bool
takes_next ask.Recv = true
takes_next ask.Poll = true
takes_next other = false

-- a closed port answers it
abbrev pub asks_port : Ask → Bool
asks_port ask.Recv = true
asks_port ask.Poll = true
asks_port ask.CopyPort = true
asks_port ask.ClosePort = true
asks_port other = false

-- it reads a variable
abbrev pub reads_variable : Ask → Bool
reads_variable ask.Get = true
reads_variable ask.GetPoll = true
reads_variable ask.Take = true
reads_variable ask.TakePoll = true
reads_variable other = false

-- it leaves the variable empty
abbrev pub empties : Ask → Bool
empties ask.Take = true
empties ask.TakePoll = true
empties other = false

abbrev pub variable_call : {M : Type 0} → Form → Call M
variable_call Once = NewIVar
variable_call Mutable = NewMVar

abbrev pub making_call : {M : Type 0} → Making → Call M
making_call making.Mailbox = NewMailbox
making_call making.Channel = NewChannel
making_call (making.Port channel) = NewPort channel
making_call (making.Copy port channel key) = CopyPort port
making_call (making.Variable form) = variable_call form

-- it makes an object that holds no message, and not by copying a port
abbrev pub makes_empty : {M : Type 0} → Call M → Bool
makes_empty NewMailbox = true
makes_empty NewChannel = true
makes_empty (NewPort channel) = true
makes_empty NewIVar = true
makes_empty NewMVar = true
makes_empty call = false
