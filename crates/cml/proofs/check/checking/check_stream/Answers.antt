use Rattle.cml.proofs.EndingsLemmas.{verdict_in_front}
use Rattle.cml.proofs.check.checking.check_stream.Goals as goal

pub returns-in-Err : goal.returns-in-Err
returns-in-Err g c =
    verdict_in_front c.args.wanted (g.R.Read.remaining c.args.input.now)
    (g.R.Read.remaining c.read_front.new.input) c.in-Err.ending c.in-Err.ensures.ended
