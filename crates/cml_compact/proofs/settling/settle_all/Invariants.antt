use Rattle.std.proofs.Common.{length}
use Rattle.cml_board.specs.{made}
use Rattle.cml_compact.specs.{AllBy, stocked, settled}
use Rattle.cml_compact.specs.Stepping.{Halfway}
use Rattle.cml_compact.proofs.settling.settle_all.Given as goal

abbrev pub invariant-loop-name : goal.invariant-loop-name
invariant-loop-name g l = record {
  half : Halfway l.fn.new.limit l.new (length (made l.board.history)) l.name (stocked l.board.history) (settled l.board.history);
  whose : AllBy l.who l.fn.new.history → AllBy l.who l.new.history;
}
