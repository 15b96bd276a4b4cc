use Rattle.std.proofs.Common.{rules}
use Rattle.cml_journal.proofs.EndLemmas.{whole_journal}
use Rattle.cml_journal.proofs.check.Check.unended.Goals as goal

pub returns-clause-whole : goal.returns-clause-whole
returns-clause-whole g c = λ bytes so. whole_journal g.M.Written.VERSION g.M.Written.meaning c.args.self.now bytes c.unended.result
    (search rules) so
