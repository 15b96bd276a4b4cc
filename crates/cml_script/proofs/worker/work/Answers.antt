use Rattle.std.proofs.Common.{◌+◌, ◌∙◌, refl, ap, sym, subst, length, arith}
use Rattle.std.proofs.lemmas.List.{length-map}
use Rattle.cml_grammar.specs.{Step, source_of}
use Rattle.cml_report.specs.declared.stop.Stop.TheVariants.{Done, Held}
use Rattle.cml_script.specs.{IsUnheld}
use Rattle.cml_script.proofs.GatesLemmas.{stop_unheld}
use Rattle.cml_script.proofs.WorkLemmas.{begins, under_way_few, closes_with, refused_at}
use Rattle.cml_script.proofs.TurnLemmas.{turn_at, turns_before, one_taken, under_way_at, past_turns, past_steps, none_past}
use Rattle.cml_script.proofs.worker.work.Goals as goal

pub loop-nth-init : goal.loop-nth-init
loop-nth-init g c = record {
  goes_on = c.requires.goes_on;
  way = begins c.args.plan.now (c.args.thread + 1) _ _ c.declared.ensures.known c.requires.begins
      c.declared.ensures.count c.in_ok-unbound.ensures refl;
}

pub returns-in_default-clause-works : goal.returns-in_default-clause-works
returns-in_default-clause-works g c =
    let script = c.args.plan.now in
    let seat = c.args.thread + 1 in
    let under = past_turns script seat c.loop-nth.nth c.loop-nth.invariant.way (sym c.turn.ensures ∙ c.in_default.is) in
    closes_with script seat (omega arith) (length script.steps) under Done c.close.result (g.C.Caller.made c.close.new.caller)
    (none_past script seat) c.close.ensures.ends

pub returns-then-not-before-clause-works : goal.returns-then-not-before-clause-works
returns-then-not-before-clause-works g c =
    let script = c.args.plan.now in
    let seat = c.args.thread + 1 in
    let next = sym c.in-Some.ensures in
    let under = under_way_at script seat c.loop-nth.nth c.loop-nth.invariant.way c.in-Some.step
    (turns_before script seat c.loop-nth.nth c.in-Some.step next) in
    closes_with script seat (omega arith) c.in-Some.step under Held c.close-then-not-before.result
    (g.C.Caller.made c.close-then-not-before.new.caller)
    (turn_at script seat c.loop-nth.nth c.in-Some.step next) c.close-then-not-before.ensures.ends

pub perform-requires-clause-at : goal.perform-requires-clause-at
perform-requires-clause-at g c =
    let script = c.args.plan.now in
    let seat = c.args.thread + 1 in
    let nth = c.loop-nth.nth in
    let next = sym c.in-Some.ensures in
    let way = c.loop-nth.invariant.way in
    let few = under_way_few script seat way.place way.way in
    let steps = rw c.script.ensures at c.steps-nth-end.ensures in
    let long = length-map c.steps-nth-end.result.now (λ (x : Step). source_of x.line) in
    record {
      known = c.declared.ensures.known;
      own = turn_at script seat nth c.in-Some.step next;
      room = omega (arith, few, c.declared.ensures.count, c.declared.ensures.few, steps.few, ap length steps.lines, long);
      way = under_way_at script seat nth way c.in-Some.step (turns_before script seat nth c.in-Some.step next);
    }

pub returns-in-Err-clause-open : goal.returns-in-Err-clause-open
returns-in-Err-clause-open g c = λ opens. subst IsUnheld (sym c.stop_of.ensures) (stop_unheld c.in-Err.refusal)

pub returns-in-Err-clause-works : goal.returns-in-Err-clause-works
returns-in-Err-clause-works g c =
    let script = c.args.plan.now in
    let seat = c.args.thread + 1 in
    let next = sym c.in-Some.ensures in
    let under = under_way_at script seat c.loop-nth.nth c.loop-nth.invariant.way c.in-Some.step
    (turns_before script seat c.loop-nth.nth c.in-Some.step next) in
    refused_at script seat (omega arith) c.in-Some.step under c.in-Err.refusal c.stop_of.result (g.C.Caller.made c.perform.new.caller)
    c.stop_of.ensures c.in-Err.ensures.refused (turn_at script seat c.loop-nth.nth c.in-Some.step next)

pub loop-nth-preserved : goal.loop-nth-preserved
loop-nth-preserved g c =
    let told = c.in_default-perform.ensures in
    record {
      goes_on = told.goes_on;
      way = one_taken c.args.plan.now (c.args.thread + 1) c.loop-nth.nth c.in-Some.step (sym c.in-Some.ensures) told.way;
    }

pub returns-clause-works : goal.returns-clause-works
returns-clause-works g c =
    let script = c.args.plan.now in
    let seat = c.args.thread + 1 in
    let steps = rw c.script.ensures at c.steps-nth-end.ensures in
    let under = past_steps script seat c.loop-nth.nth c.loop-nth.invariant.way
    (omega (arith, c.loop-nth-test.false, ap length steps.lines, length-map c.steps-nth-end.result.now (λ (x : Step). source_of x.line))) in
    closes_with script seat (omega arith) (length script.steps) under Done c.close-2.result (g.C.Caller.made c.close-2.new.caller)
    (none_past script seat) c.close-2.ensures.ends
