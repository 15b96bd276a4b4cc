use Rattle.std.proofs.Common.{◌≡◌}
use Rattle.cml_compact.specs.Planning.{AreFronts, streams}
use Rattle.cml_compact.proofs.planning.plan_of.Given as goal

abbrev pub invariant-loop-name : goal.invariant-loop-name
invariant-loop-name g l = record {
  places : AreFronts l.board.history l.name l.fronts.items;
  whole : l.messages.items ≡ streams l.board.history l.name;
}
