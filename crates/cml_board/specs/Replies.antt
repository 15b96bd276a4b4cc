-- Which replies a call may have.
use Rattle.std.specs.Prelude.{Bool, true, false}
use Rattle.std.specs.List.{list_any}
use Rattle.cml_calls.specs.{ReplyKind, Row}
use Rattle.cml_calls.specs.declared.shape.ReplyKind.TheVariants as kind
use Rattle.cml_board.specs.declared.entry.Reply.{Reply}
use Rattle.cml_board.specs.declared.entry.Reply.TheVariants.{Done, Made, Got, Nothing, Put, Closed}

-- a reply is of a kind
abbrev pub is_of : {M : Type 0} → Reply M → ReplyKind → Bool
is_of Done kind.Done = true
is_of (Made name) kind.Made = true
is_of (Got message) kind.Got = true
is_of Nothing kind.Nothing = true
is_of Put kind.Put = true
is_of Closed kind.Closed = true
is_of reply other = false

-- a call with this row may have this reply
abbrev pub may_have : {M : Type 0} → Row → Reply M → Bool
may_have row reply = list_any (is_of reply) row.replies
