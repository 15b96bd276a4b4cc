use Rattle.std.proofs.Common.{◌≡◌, ◌∙◌, ap, codes, false, IfOk, Result, Ok, Err}
use Rattle.clap.specs.Words.{AddsSubcommand, App, app_of, new_app, Rule, rule_of, Text, with_rule, with_subcommand}
use Rattle.clap.specs.declared.builder.command.Command.{Command}
use Rattle.cml.specs.{exploring, flag_rule, limit_rule}
use Rattle.cml.proofs.command_line.add_exploring.Goals as goal

-- a program with this subcommand has its shape
pub returns : goal.returns
returns c = by c.subcommand.result c.subcommand.ensures
  where
    shape : App → App
    shape app = with_subcommand (app_of c.args.program) app.top

    rules : Rule → App
    rules rule = with_rule (with_rule (new_app c.args.name.now) rule) (flag_rule (codes "journal"))

    by : {E : Type 0} (r : Result Command E) → IfOk r (λ r. AddsSubcommand c.args.program c.in_ok-subcommand.subcommand r)
        → IfOk r (λ command. app_of command ≡ with_subcommand (app_of c.args.program) (exploring c.args.name.now))
    by (Ok command) adds =
        adds.shape c.in_ok-subcommand.ensures.local ∙ ap shape (c.in_ok-subcommand.ensures.shape ∙ ap rules c.limit-limit.ensures.0)
    by (Err error) adds = tt
