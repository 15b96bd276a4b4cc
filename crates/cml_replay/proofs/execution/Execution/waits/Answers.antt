use Rattle.cml_replay.proofs.BoundLemmas.{used_stands}
use Rattle.cml_replay.proofs.execution.Execution.waits.Goals as goal

pub waits_for-requires-clause-bound : goal.waits_for-requires-clause-bound
waits_for-requires-clause-bound c =
    let steps = rw c.script.ensures at c.steps.ensures in
    used_stands _ c.args.self.now _ _ c.self.view_is c.self.invariant.0 c.steps.result.now c.args.i c.index-steps-i.result steps.lines
    steps.asked steps.earlier c.requires.within c.requires.next c.requires.declared
