use Rattle.std.proofs.Common.{ap, sym, ◌∙◌}
use Rattle.cml_board.specs.{want_in}
use Rattle.cml_grammar.specs.{Action}
use Rattle.cml_report.specs.{call_on}
use Rattle.cml_report.proofs.FitLemmas.{want_is}
use Rattle.cml_report.proofs.calls.want_on.Goals as goal

pub returns-in-Give : goal.returns-in-Give
returns-in-Give c =
    c.want.ensures ∙ ap want_in c.give.ensures ∙ want_is c.in-Give.give c.args.object _ _
    ∙ ap (λ (a : Action). want_in (call_on a c.args.object)) (sym c.in-Give.is)
