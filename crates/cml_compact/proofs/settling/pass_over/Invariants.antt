use Rattle.std.proofs.Common.{◌-◌}
use Rattle.cml_compact.specs.{AllBy}
use Rattle.cml_compact.specs.Stepping.{Changes}
use Rattle.cml_compact.proofs.PassingLemmas.{passing}
use Rattle.cml_compact.proofs.settling.pass_over.Given as goal

abbrev pub invariant-loop-at : goal.invariant-loop-at
invariant-loop-at g l = record {
  changes : Changes l.fn.new l.new l.name.0 (passing l.board.history l.name.0 (l._at - l.left));
  whose : AllBy l.who l.fn.new.history → AllBy l.who l.new.history;
}
