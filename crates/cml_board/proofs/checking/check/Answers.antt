use Rattle.cml_board.proofs.CheckingLemmas.{first_unlawful}
use Rattle.cml_board.proofs.checking.check.Goals as goal

pub returns : goal.returns
returns g c =
    let told = rw (c.in_ok-checker.ensures, c.in-Err.is) at c.in_ok-feed.ensures.verdict in
    first_unlawful c.args.entries.now c.in-Err.at told.1
