use Rattle.std.proofs.Common.{◌<◌, ◌≤◌, ◌∙◌, length, ap, sym, arith}
use Rattle.cml_grammar.specs.{names_of}
use Rattle.cml_report.specs.{port_made, Progress, history_of}
use Rattle.cml_report.proofs.KeptLemmas.{binding_at, made_declared, made_given}
use Rattle.cml_report.proofs.FollowerLemmas.{followed_at}
use Rattle.cml_report.proofs.UseLemmas.{declared_length, made_option, object_within}
use Rattle.cml_report.proofs.follower.Follower.made.Goals as goal

pub returns-then-at-declarations-clause-object : goal.returns-then-at-declarations-clause-object
returns-then-at-declarations-clause-object c =
    let follower = c.args.self.now in
    let follows = followed_at c.self.view_is c.self.invariant in
    let within = object_within (names_of follower.script) c.args.at c.requires in
    let long = declared_length c.declarations.result.now _ _ c.declarations.ensures.lines
    (c.script.ensures ∙ ap (λ (p : Progress). p.script) c.self.view_is) in
    let ge : length follower.script.declarations ≤ c.args.at = omega (arith, c.if-at-declarations.true, long) in
    let here = binding_at follower.script (history_of follower) _ c.args.at c.index.result.now follows.bound within c.index.ensures in
    made_option c.made.result _ _ c.made.ensures (ap port_made here ∙ sym (made_given follower.script (history_of follower) c.args.at ge))

pub returns-clause-object : goal.returns-clause-object
returns-clause-object c =
    let follower = c.args.self.now in
    let long = declared_length c.declarations.result.now _ _ c.declarations.ensures.lines
    (c.script.ensures ∙ ap (λ (p : Progress). p.script) c.self.view_is) in
    let lt : c.args.at < length follower.script.declarations = omega (arith, c.if-at-declarations.false, long) in
    made_option c.declared_object.result _ _ c.declared_object.ensures
    (sym (made_declared follower.script (history_of follower) c.args.at lt))
