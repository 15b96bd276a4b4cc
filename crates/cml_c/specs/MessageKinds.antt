-- The kinds of messages that C asks for.
use Rattle.std.specs.Prelude.{List, [], ◌∷◌}
use Rattle.cml_c.specs.declared.message_kind.MessageKind.{MessageKind}
use Rattle.cml_c.specs.declared.message_kind.MessageKind.TheVariants.{Numbers, Bytes}

-- in the order of their numbers
abbrev pub message_kinds : List MessageKind
message_kinds = Numbers ∷ Bytes ∷ []
