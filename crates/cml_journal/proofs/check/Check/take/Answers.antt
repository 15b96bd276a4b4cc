use Rattle.cml_journal.proofs.CheckLemmas.{stops_as_told}
use Rattle.cml_journal.proofs.check.Check.take.Goals as goal

pub returns-in-Err-clause-stopped : goal.returns-in-Err-clause-stopped
returns-in-Err-clause-stopped g c =
    stops_as_told g.M.Written.VERSION g.M.Written.meaning g.M.Written.text c.args.self.now c.advance.new.self c.args.bytes.now
    c.in-Err.halt c.told.result c.told.ensures
    c.in-Err.ensures.halted
