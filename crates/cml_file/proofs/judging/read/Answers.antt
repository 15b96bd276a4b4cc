use Rattle.std.proofs.Common.{[]}
use Rattle.cml_file.proofs.JudgingLemmas.{stops}
use Rattle.cml_file.proofs.judging.read.Goals as goal

pub returns-in-Err-clause-refused : goal.returns-in-Err-clause-refused
returns-in-Err-clause-refused g c =
    stops g.M.Written.VERSION g.M.Written.meaning c.args.text.now c.advance.new.self c.in-Err.halt c.of.result
    (c.in-Err.ensures.halted [] c.in-Ok.ensures) c.of.ensures
