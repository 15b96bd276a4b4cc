use Rattle.std.specs.Prelude.{◌≡◌, take, string_bytes}
use Rattle.cml_file.specs.{lines_of}
use Rattle.cml_file.proofs.lines.lines_of.Given as goal

abbrev pub invariant-loop-entry : goal.invariant-loop-entry
invariant-loop-entry g l = string_bytes l.lines ≡ lines_of g.M.Written.text (take l.entry-index l.entries)
