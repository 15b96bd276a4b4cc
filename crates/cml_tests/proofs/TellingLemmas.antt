-- The newest entries of a history, as many as are asked for.
use Rattle.std.proofs.Common.{ℕ, take, sym}
use Rattle.std.specs.Prelude.{drop}
use Rattle.std.proofs.lemmas.List.{take-append-drop}
use Rattle.cml_script.specs.{History}
use Rattle.cml_tests.specs.{EndsWith}

pub ends_with : (told : ℕ) (history : History) → EndsWith (take told history) history
ends_with told history = (drop told history, sym (take-append-drop told history))
