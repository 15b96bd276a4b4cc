use Rattle.std.proofs.Common.{refl, subst}
use Rattle.cml_board.specs.declared.call.Call.TheVariants.{NewPort}
use Rattle.cml_calls.specs.declared.kind.Kind.TheVariants as kind
use Rattle.cml_grammar.specs.declared.forms.Makes.TheVariants as makes
use Rattle.cml_grammar.specs.{names_of}
use Rattle.cml_replay.specs.{IsNext}
use Rattle.cml_report.proofs.FitLemmas.{fits_kind, channel_at}
use Rattle.cml_replay.proofs.execution.Execution.declare_next.Goals as goal

pub make-requires-in-Port-clause-fits : goal.make-requires-in-Port-clause-fits
make-requires-in-Port-clause-fits c =
    let next : IsNext c.args.self.now (makes.Port c.in-Port.channel) = subst (IsNext c.args.self.now) c.in-Port.is c.requires.next in
    fits_kind c.args.self.now.history c.declared_object.result kind.Channel (NewPort c.declared_object.result)
    (c.declared_object.ensures.kind kind.Channel (channel_at (names_of c.args.self.now.script) c.in-Port.channel next.0)) refl refl
