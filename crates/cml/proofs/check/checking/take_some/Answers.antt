use Rattle.std.proofs.Common.{[]}
use Rattle.std.proofs.KnownBytes.{Consumes-kept, Consumes-nil}
use Rattle.cml_journal.proofs.CheckLemmas.{goes_nowhere}
use Rattle.cml.proofs.check.checking.take_some.Goals as goal

pub returns-in-None-clause-taken : goal.returns-in-None-clause-taken
returns-in-None-clause-taken g c =
    let old = g.R.Read.remaining c.args.input.now in (
      [],
      Consumes-kept old old (g.R.Read.remaining c.read_some.new.input) [] (Consumes-nil old) (c.in_ok-bytes.ensures.none c.in-None.is),
      goes_nowhere g.M.Written.VERSION g.M.Written.meaning c.args.check.now,
    )
