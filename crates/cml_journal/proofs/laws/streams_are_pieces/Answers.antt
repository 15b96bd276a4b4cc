use Rattle.cml_journal.proofs.LineAddsLemmas.{stream_found}
use Rattle.cml_journal.proofs.laws.streams_are_pieces.Goals as goal

pub returns : goal.returns
returns g c = λ bytes state entries end.
    stream_found g.M.Written.VERSION g.M.Written.text g.M.Written.fits g.M.Written.meaning g.met.M.Written.written bytes state entries end
