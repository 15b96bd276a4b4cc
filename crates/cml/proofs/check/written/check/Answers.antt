use Rattle.cml.proofs.EndingsLemmas.{verdict_unwritten}
use Rattle.cml.proofs.check.written.check.Goals as goal

pub returns-in-Err-clause-verdict : goal.returns-in-Err-clause-verdict
returns-in-Err-clause-verdict g c =
    verdict_unwritten c.args.wanted (g.R.Read.remaining c.args.reader.now)
    (g.R.Read.remaining c.check_stream-ending.new.input) c.check_stream-ending.result c.in-Err.why
    c.check_stream-ending.ensures c.in-Err.ensures.unwritten.0
