use Rattle.cml.proofs.EndingsLemmas.{ends_as_stopped}
use Rattle.cml.proofs.check.checking.go_on.Goals as goal

pub returns-in-Err-clause-ended : goal.returns-in-Err-clause-ended
returns-in-Err-clause-ended g c =
    ends_as_stopped g.M.Written.VERSION g.M.Written.meaning g.M.Written.text c.args.check.now c.take.new.self c.args.bytes.now c.in-Err.stop
    c.ending_of.result c.ending_of.ensures c.in-Err.ensures.stopped
