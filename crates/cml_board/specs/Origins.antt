-- How objects begin.
use Rattle.std.specs.Prelude.{ℕ, ◌+◌, List, [], ◌∷◌, Option, Some}
use Rattle.cml_calls.specs.{Kind}
use Rattle.cml_calls.specs.declared.kind.Kind.TheVariants as kind

-- a port receives what is multicast on a channel, from a place on
pub data Origin : Type 0 where
  mailbox : Origin
  channel : Origin
  port : ℕ → ℕ → Origin
  ivar : Origin
  mvar : Origin

abbrev pub kind_by : Origin → Kind
kind_by mailbox = kind.Mailbox
kind_by channel = kind.Channel
kind_by (port source start) = kind.Port
kind_by ivar = kind.IVar
kind_by mvar = kind.MVar

-- the object whose messages an object receives: a port its channel's, and a mailbox its own
abbrev pub source_by : ℕ → Option Origin → ℕ
source_by object (Some (port source start)) = source
source_by object origin = object

-- how many of them it passes over: those from before it was made
abbrev pub start_by : Option Origin → ℕ
start_by (Some (port source start)) = start
start_by origin = 0

-- a port's channel is that of the port that it is a copy of, and its start is where that port stood
abbrev pub copy_of : Option Origin → ℕ → List Origin
copy_of (Some (port source start)) received = port source (start + received) ∷ []
copy_of origin received = []
