use Rattle.cml_journal.proofs.AgainStreamLemmas.{stream_again}
use Rattle.cml_journal.proofs.laws.pieces_are_read.Goals as goal

pub returns : goal.returns
returns g c = λ from piece pieces.
    stream_again g.M.Written.VERSION g.M.Written.text g.M.Written.fits g.M.Written.meaning g.met.M.Written.written from piece pieces
