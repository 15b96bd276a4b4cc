use Rattle.std.proofs.Common.{◌<◌, length, refl, ap, arith}
use Rattle.std.proofs.lemmas.Bool.{false≢true}
use Rattle.std.proofs.lemmas.List.{length-map}
use Rattle.cml_grammar.specs.{Declaration, source_of}
use Rattle.cml_report.specs.{IsTakenAt}
use Rattle.cml_report.proofs.StallingLemmas.{one_more}
use Rattle.cml_report.proofs.concluding.takes_what_was_got.Goals as goal

pub loop-at-preserved : goal.loop-at-preserved
loop-at-preserved c =
    let ran = c.args.ran.now in
    one_more (IsTakenAt ran.plan.now ran.board.now.history ran.tally.now) c.loop-at.at c.loop-at.invariant
    (c.if-not-is_taken.ensures.0 refl)

pub returns-then-not-is_taken : goal.returns-then-not-is_taken
returns-then-not-is_taken c =
    let declarations = rw c.script.ensures at c.declarations-at-end.ensures in
    let within : c.loop-at.at < length c.args.ran.now.plan.now.declarations =
    omega (
      arith,
      c.loop-at-test.true,
      ap length declarations.lines,
      length-map c.declarations-at-end.result.now (λ (x : Declaration). source_of x.line),
    ) in
    (λ yes. absurd (false≢true yes), λ all. absurd (false≢true (c.if-not-is_taken.ensures.1 (all c.loop-at.at within))))
