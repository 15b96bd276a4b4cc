use Rattle.std.proofs.Common.{◌∙◌, ap, take}
use Rattle.cml_report.specs.{how_many, is_object}
use Rattle.cml_replay.specs.{Executed}
use Rattle.cml_replay.proofs.StandLemmas.{stands_at}
use Rattle.cml_report.proofs.KeptLemmas.{declared_kind, declared_is}
use Rattle.cml_report.proofs.GivingLemmas.{follows_own}
use Rattle.cml_replay.proofs.execution.Execution.declared_object.Goals as goal

pub returns-clause-kind : goal.returns-clause-kind
returns-clause-kind c = λ k is.
    let number =
    c.number.ensures ∙ ap (λ (p : Executed). how_many (is_object p.script) (take c.args.at p.script.declarations)) c.self.view_is in
    let stands = stands_at c.self.view_is c.self.invariant.0 in
    declared_kind c.args.self.now.script c.args.self.now.history stands.known.named c.args.at c.number.result.0 k
    (follows_own _ _ stands.follows) stands.lawful c.requires.within
    (declared_is c.args.self.now.script c.args.self.now.history c.args.at c.number.result.0 number c.requires.made) is
