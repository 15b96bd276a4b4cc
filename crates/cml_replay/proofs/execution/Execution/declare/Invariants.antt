use Rattle.std.proofs.Common.{◌≡◌, length, take}
use Rattle.cml_report.specs.{how_many, is_object}
use Rattle.cml_replay.proofs.execution.Execution.declare.Given as goal

abbrev pub invariant-loop-declaration : goal.invariant-loop-declaration
invariant-loop-declaration l = record {
  script : l.self.script ≡ l.fn.self.script;
  limit : l.self.limit ≡ l.fn.self.limit;
  made : length l.self.history ≡ how_many (is_object l.self.script) (take l.declaration-index l.self.script.declarations);
}
