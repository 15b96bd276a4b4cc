use Rattle.std.proofs.Common.{◌∙◌, true, false, arith}
use Rattle.cml_report.proofs.MovedLemmas.{line_laid, sends_here, sends_past}
use Rattle.cml_report.proofs.lanes.next_sent.Goals as goal

pub loop-i-preserved : goal.loop-i-preserved
loop-i-preserved c =
    let script = c.args.plan.now in
    let seat = c.args.seat in
    let i = c.loop-i.i in
    let there = line_laid script seat c.args.at c.script.result.now c.steps-i-end.result.now i _ false c.script.ensures
    c.steps-i-end.ensures.lines c.loop-i-test.true c.is_laid_to.ensures c.if-is_laid_to.false in
    c.loop-i.invariant ∙ sends_past script seat c.args.at i there.0 there.1 there.2

pub returns-then-is_laid_to : goal.returns-then-is_laid_to
returns-then-is_laid_to c =
    let script = c.args.plan.now in
    let seat = c.args.seat in
    let i = c.loop-i.i in
    let there = line_laid script seat c.args.at c.script.result.now c.steps-i-end.result.now i _ true c.script.ensures
    c.steps-i-end.ensures.lines c.loop-i-test.true c.is_laid_to.ensures c.if-is_laid_to.true in
    record {
      line = there.0;
      found = there.1;
      few = omega (arith, c.loop-i-test.true, c.steps-i-end.ensures.few);
      more = c.loop-i.invariant ∙ sends_here script seat c.args.at i there.0 there.1 there.2;
    }
