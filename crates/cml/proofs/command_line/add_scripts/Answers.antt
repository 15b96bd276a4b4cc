use Rattle.std.proofs.Common.{◌≡◌, ◌∙◌, ap, codes, IfOk, Result, Ok, Err}
use Rattle.clap.specs.Words.{App, app_of, with_subcommand}
use Rattle.clap.specs.declared.builder.command.Command.{Command}
use Rattle.cml.specs.{exploring, performing}
use Rattle.cml.proofs.command_line.add_scripts.Goals as goal

-- the shapes of three subcommands, one after another
pub returns : goal.returns
returns c = by c.add_exploring.result c.add_exploring.ensures
  where
    run : App → App
    run app = with_subcommand app (performing (codes "run"))

    explore : App → App
    explore app = with_subcommand app (exploring (codes "explore"))

    by : {E : Type 0} (r : Result Command E) → IfOk r (λ command. app_of command ≡ explore (app_of c.in_ok-program-2.program))
        → IfOk r (λ command. app_of command ≡ explore (run (with_subcommand (app_of c.args.program) (performing (codes "replay")))))
    by (Ok command) is = is ∙ ap explore (c.in_ok-program-2.ensures ∙ ap run c.in_ok-program.ensures)
    by (Err error) is = tt
