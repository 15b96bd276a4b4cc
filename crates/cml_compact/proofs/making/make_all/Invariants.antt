use Rattle.cml_compact.specs.{AllBy, begun_before}
use Rattle.cml_compact.specs.Stepping.{Reaches}
use Rattle.cml_compact.proofs.making.make_all.Given as goal

abbrev pub invariant-loop-name : goal.invariant-loop-name
invariant-loop-name g l = record {
  reaches : Reaches l.fn.new.limit l.new l.name (begun_before l.board.history l.name);
  whose : AllBy l.who l.fn.new.history → AllBy l.who l.new.history;
}
