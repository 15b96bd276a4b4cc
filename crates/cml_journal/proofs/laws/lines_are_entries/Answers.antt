use Rattle.cml_journal.proofs.EntryLemmas.{entry_again, entry_by_line}
use Rattle.cml_journal.proofs.laws.lines_are_entries.Goals as goal

pub returns-clause-read : goal.returns-clause-read
returns-clause-read g c =
    λ entry. entry_again g.M.Written.text g.M.Written.fits g.M.Written.meaning g.met.M.Written.written entry

pub returns-clause-same : goal.returns-clause-same
returns-clause-same g c =
    λ one other. entry_by_line g.M.Written.text g.M.Written.fits g.M.Written.meaning g.met.M.Written.written one other
