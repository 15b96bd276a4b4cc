use Rattle.std.proofs.Common.{Some, None, refl, arith}
use Rattle.cml_journal.specs.declared.reader.Link.TheVariants.{Any, First}
use Rattle.cml_journal.proofs.AgainStreamLemmas.{sealed_stream_again}
use Rattle.cml_journal.proofs.laws.sealed_pieces_are_read.Goals as goal

pub returns-clause-behind : goal.returns-clause-behind
returns-clause-behind g c = λ after from piece pieces known is readable small.
    sealed_stream_again g.M.Written.VERSION g.M.Written.text g.M.Written.fits g.M.Written.meaning g.met.M.Written.written None Any
    after from piece pieces known tt is tt readable small

pub returns-clause-begins : goal.returns-clause-begins
returns-clause-begins g c = λ piece pieces known readable small.
    sealed_stream_again g.M.Written.VERSION g.M.Written.text g.M.Written.fits g.M.Written.meaning g.met.M.Written.written (Some 0)
    First None 0 piece pieces known refl tt refl readable (omega (arith, small))
