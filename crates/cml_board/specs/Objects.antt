-- Which object a call is made on, and which calls an object takes.
use Rattle.std.specs.Prelude.{Bool, Option, Some, None}
use Rattle.cml_calls.specs.{Kind, admits, Row, made, filled, given, asked}
use Rattle.cml_board.specs.declared.call.Name.{Name}
use Rattle.cml_board.specs.declared.call.Call.{Call}
use Rattle.cml_board.specs.declared.parts.Parts.{Parts}
use Rattle.cml_board.specs.declared.parts.Parts.TheVariants.{Make, Fill, Give, Ask}
use Rattle.cml_board.specs.Parts.{parts_of}

abbrev pub object_among : {M : Type 0} → Parts M → Option Name
object_among (Make make) = None
object_among (Fill message) = None
object_among (Give give name message) = Some name
object_among (Ask ask name) = Some name

abbrev pub message_among : {M : Type 0} → Parts M → Option M
message_among (Make make) = None
message_among (Fill message) = Some message
message_among (Give give name message) = Some message
message_among (Ask ask name) = None

abbrev pub row_among : {M : Type 0} → Parts M → Row
row_among (Make make) = made make
row_among (Fill message) = filled
row_among (Give give name message) = given give
row_among (Ask ask name) = asked ask

-- the name of the object that a call is made on; a call that makes a mailbox, a channel or a variable has none
abbrev pub object_in : {M : Type 0} → Call M → Option Name
object_in call = object_among (parts_of call)

-- the message that it gives
abbrev pub message_of : {M : Type 0} → Call M → Option M
message_of call = message_among (parts_of call)

-- its row in the table
abbrev pub row_of : {M : Type 0} → Call M → Row
row_of call = row_among (parts_of call)

-- an object of this kind takes this call
abbrev pub takes : {M : Type 0} → Kind → Call M → Bool
takes kind call = admits (row_of call).takers kind
