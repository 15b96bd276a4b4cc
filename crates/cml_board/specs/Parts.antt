-- A call taken apart, and put together again.
use Rattle.cml_calls.specs.{Make, Give, Ask}
use Rattle.cml_calls.specs.declared.table.Make.TheVariants as make
use Rattle.cml_calls.specs.declared.table.Give.TheVariants as give
use Rattle.cml_calls.specs.declared.table.Ask.TheVariants as ask
use Rattle.cml_board.specs.declared.call.Name.{Name}
use Rattle.cml_board.specs.declared.call.Call.{Call}
use Rattle.cml_board.specs.declared.call.Call.TheVariants.{NewMailbox, NewChannel, NewPort, CopyPort, ClosePort, NewIVar, NewMVar, MVarInit}
use Rattle.cml_board.specs.declared.call.Call.TheVariants.{Send, Cast, Recv, Poll, Put, Get, GetPoll, Take, TakePoll, Swap}
use Rattle.cml_board.specs.declared.parts.Parts.{Parts}
use Rattle.cml_board.specs.declared.parts.Parts.TheVariants as parts

-- a call's row in the table, its object and its message
abbrev pub parts_of : {M : Type 0} → Call M → Parts M
parts_of NewMailbox = parts.Make make.Mailbox
parts_of NewChannel = parts.Make make.Channel
parts_of NewIVar = parts.Make make.IVar
parts_of NewMVar = parts.Make make.MVar
parts_of (MVarInit message) = parts.Fill message
parts_of (NewPort name) = parts.Ask ask.NewPort name
parts_of (CopyPort name) = parts.Ask ask.CopyPort name
parts_of (ClosePort name) = parts.Ask ask.ClosePort name
parts_of (Send name message) = parts.Give give.Send name message
parts_of (Cast name message) = parts.Give give.Cast name message
parts_of (Recv name) = parts.Ask ask.Recv name
parts_of (Poll name) = parts.Ask ask.Poll name
parts_of (Put name message) = parts.Give give.Put name message
parts_of (Get name) = parts.Ask ask.Get name
parts_of (GetPoll name) = parts.Ask ask.GetPoll name
parts_of (Take name) = parts.Ask ask.Take name
parts_of (TakePoll name) = parts.Ask ask.TakePoll name
parts_of (Swap name message) = parts.Give give.Swap name message

-- the calls by the table: those that make an object, those that give an object a message, and those that ask an object
abbrev pub made_call : {M : Type 0} → Make → Call M
made_call make.Mailbox = NewMailbox
made_call make.Channel = NewChannel
made_call make.IVar = NewIVar
made_call make.MVar = NewMVar

abbrev pub given_call : {M : Type 0} → Give → Name → M → Call M
given_call give.Send name message = Send name message
given_call give.Cast name message = Cast name message
given_call give.Put name message = Put name message
given_call give.Swap name message = Swap name message

abbrev pub asked_call : {M : Type 0} → Ask → Name → Call M
asked_call ask.NewPort name = NewPort name
asked_call ask.CopyPort name = CopyPort name
asked_call ask.ClosePort name = ClosePort name
asked_call ask.Recv name = Recv name
asked_call ask.Poll name = Poll name
asked_call ask.Get name = Get name
asked_call ask.GetPoll name = GetPoll name
asked_call ask.Take name = Take name
asked_call ask.TakePoll name = TakePoll name

-- the call that has these parts
abbrev pub call_of : {M : Type 0} → Parts M → Call M
call_of (parts.Make m) = made_call m
call_of (parts.Fill message) = MVarInit message
call_of (parts.Give g name message) = given_call g name message
call_of (parts.Ask a name) = asked_call a name

-- the same parts, with what a function makes of the message
abbrev pub parts_map : {A B : Type 0} → (A → B) → Parts A → Parts B
parts_map f (parts.Make m) = parts.Make m
parts_map f (parts.Fill message) = parts.Fill (f message)
parts_map f (parts.Give g name message) = parts.Give g name (f message)
parts_map f (parts.Ask a name) = parts.Ask a name
