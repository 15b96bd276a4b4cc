-- What of a reader's bytes was read, and that nothing was written.
use Rattle.std.proofs.Common.{ℕ, List, Option, Some, None, inl, inr, refl, arith}
use Rattle.std.specs.Io.KnownBytes.{Keeps}
use Rattle.cml_grammar.specs.{Lines, IsScript}
use Rattle.cml_report.specs.{IsRead, AreAll}

-- no script is so long that more of it is left
pub all_read : (old new : Option (List ℕ)) (text : List ℕ) (are : List ℕ → Type 0) (script : Lines) → IsRead old new text
    → IsScript text script → are text → AreAll old new are
all_read old new text are script read says such = record {
  bytes = text;
  read = read.0;
  whole = elim read.1 [ inl end ↦ end | inr long ↦ absurd (omega (arith, long, says.short)) ];
  such = such;
}

pub kept : (held : Option (List ℕ)) → Keeps held held
kept None = tt
kept (Some bytes) = refl
