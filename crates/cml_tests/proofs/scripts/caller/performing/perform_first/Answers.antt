use Rattle.cml_tests.proofs.OpeningLemmas.{opens}
use Rattle.cml_tests.proofs.scripts.caller.performing.perform_first.Goals as goal

pub returns : goal.returns
returns c =
    let declared = c.requires in (
      c.args.teller,
      declared,
      c.work-stop.ensures.works c.args.teller.entries
          (record { all = declared.all; by = opens c.args.plan.now c.args.teller.entries declared.own declared.within }),
    )
