use Rattle.std.specs.Prelude.{◌≡◌}
use Rattle.cml_file.proofs.disk.Disk.drive.Given as goal

abbrev pub invariant-loop : goal.invariant-loop
invariant-loop g l = l.filing.pending.items ≡ l.fn.filing.pending.items
