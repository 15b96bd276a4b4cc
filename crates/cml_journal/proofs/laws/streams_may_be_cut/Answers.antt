use Rattle.std.proofs.Common.{ap, ◌∙◌}
use Rattle.cml_journal.proofs.FeedLemmas.{on, reading-append}
use Rattle.cml_journal.proofs.laws.streams_may_be_cut.Goals as goal

pub returns-clause-on : goal.returns-clause-on
returns-clause-on g c = λ state next front rest entries e. reading-append g.M.Written.VERSION g.M.Written.meaning state front rest
    ∙ ap (on g.M.Written.VERSION g.M.Written.meaning rest) e

pub returns-clause-fault : goal.returns-clause-fault
returns-clause-fault g c = λ state front rest what e. reading-append g.M.Written.VERSION g.M.Written.meaning state front rest
    ∙ ap (on g.M.Written.VERSION g.M.Written.meaning rest) e
