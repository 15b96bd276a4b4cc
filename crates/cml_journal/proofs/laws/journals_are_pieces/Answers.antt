use Rattle.cml_journal.proofs.LineAddsLemmas.{journal_found}
use Rattle.cml_journal.proofs.laws.journals_are_pieces.Goals as goal

pub returns : goal.returns
returns g c = λ bytes state entries end.
    journal_found g.M.Written.VERSION g.M.Written.text g.M.Written.fits g.M.Written.meaning g.met.M.Written.written bytes state entries end
