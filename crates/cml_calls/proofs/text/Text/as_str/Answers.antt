use Rattle.std.proofs.Common.{subst, sym}
use Rattle.std.specs.Str.{IsUtf8}
use Rattle.cml_calls.proofs.TextLemmas.{text_is_utf8}
use Rattle.cml_calls.proofs.text.Text.as_str.Goals as goal

pub unreachable-requires : goal.unreachable-requires
unreachable-requires c = absurd (c.in-Err.ensures.cases.0 (subst IsUtf8 (sym c.as_slice.ensures.bytes) (text_is_utf8 _ c.self.invariant)))
