-- The kinds of objects, and which of them take a call.
use Rattle.std.specs.Prelude.{Bool, true, false}
use Rattle.cml_calls.specs.declared.kind.Kind.{Kind}
use Rattle.cml_calls.specs.declared.kind.Kind.TheVariants.{Mailbox, Channel, Port, IVar, MVar}
use Rattle.cml_calls.specs.declared.shape.Takers.{Takers}
use Rattle.cml_calls.specs.declared.shape.Takers.TheVariants.{Nobody, Mailboxes, Channels, Ports, MVars, Receivers, Variables}

abbrev pub is_mailbox : Kind → Bool
is_mailbox Mailbox = true
is_mailbox kind = false

abbrev pub is_channel : Kind → Bool
is_channel Channel = true
is_channel kind = false

abbrev pub is_port : Kind → Bool
is_port Port = true
is_port kind = false

abbrev pub is_mvar : Kind → Bool
is_mvar MVar = true
is_mvar kind = false

-- messages are received from a mailbox or a port
abbrev pub is_receiver : Kind → Bool
is_receiver Mailbox = true
is_receiver Port = true
is_receiver kind = false

-- messages are put into a mailbox or on a channel
abbrev pub is_source : Kind → Bool
is_source Mailbox = true
is_source Channel = true
is_source kind = false

-- a message is held by an i-variable or an m-variable
abbrev pub is_variable : Kind → Bool
is_variable IVar = true
is_variable MVar = true
is_variable kind = false

-- an object of this kind is one of those
abbrev pub admits : Takers → Kind → Bool
admits Nobody kind = false
admits Mailboxes kind = is_mailbox kind
admits Channels kind = is_channel kind
admits Ports kind = is_port kind
admits MVars kind = is_mvar kind
admits Receivers kind = is_receiver kind
admits Variables kind = is_variable kind
