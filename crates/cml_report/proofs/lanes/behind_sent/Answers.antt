use Rattle.std.proofs.Common.{arith}
use Rattle.std.proofs.lemmas.Option.{slice_get_within}
use Rattle.cml_report.proofs.MovedLemmas.{sent_if, none_sent}
use Rattle.cml_report.proofs.lanes.behind_sent.Goals as goal

pub has_call-requires-clause-i : goal.has_call-requires-clause-i
has_call-requires-clause-i c = slice_get_within c.args.plan.now.steps c.in-Some.i c.in-Some.ensures.line c.in-Some.ensures.found

pub returns-in-Some : goal.returns-in-Some
returns-in-Some c = sent_if c.args.plan.now c.args.seat c.args.at c.args.from c.in-Some.i c.args.call.now c.in-Some.ensures
    c.has_call.result c.then_some.result c.then_some.ensures c.has_call.ensures

pub returns-in-None : goal.returns-in-None
returns-in-None c = none_sent c.args.plan.now c.args.seat c.args.at c.args.from c.args.call.now c.in-None.ensures

pub overflow_add-i : goal.overflow_add-i
overflow_add-i c = omega (arith, c.in-Some.ensures.few)
