use Rattle.std.proofs.Common.{ap, subst, ◌∙◌}
use Rattle.cml_journal.specs.{Gives, entry_in}
use Rattle.cml_journal.proofs.EntryLemmas.{entry_found, entry_again}
use Rattle.cml_journal.proofs.reading.read_entry.Goals as goal

pub returns-clause-found : goal.returns-clause-found
returns-clause-found g c =
    entry_found g.M.Written.text g.M.Written.fits g.M.Written.meaning g.met.M.Written.written c.args.line.now
    c.entry_in.result c.entry_in.ensures

pub returns-clause-only : goal.returns-clause-only
returns-clause-only g c =
    λ entry has e. subst (λ r. Gives (λ entry. entry) c.entry_in.result r) (ap (entry_in g.M.Written.meaning) e
    ∙ entry_again g.M.Written.text g.M.Written.fits g.M.Written.meaning g.met.M.Written.written entry has) c.entry_in.ensures
