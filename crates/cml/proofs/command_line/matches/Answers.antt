use Rattle.std.proofs.Common.{◌≡◌, true, map, refl, subst, sym}
use Rattle.clap.specs.Words.{FailsBy, app_of, fault_of, is_simple_and_free}
use Rattle.cml.specs.{usage}
use Rattle.cml.proofs.command_line.matches.Goals as goal

pub returns-clause-fails : goal.returns-clause-fails
returns-clause-fails g c =
    let is : app_of c.in_ok-command.field-0 ≡ usage = c.in_ok-command.ensures in
    subst (λ app. FailsBy (fault_of app (map g.S.AsStr.text c.args.words.now)) c.try_get_matches_from.result) is
    (c.try_get_matches_from.ensures.kinds (subst (λ app. is_simple_and_free app ≡ true) (sym is) refl))
