use Rattle.cml_board.proofs.ReservedLemmas.{lasts, serves}
use Rattle.cml_board.proofs.laws.reserved_lasts.Goals as goal

pub returns-clause-lasts : goal.returns-clause-lasts
returns-clause-lasts g c = lasts

pub returns-clause-serves : goal.returns-clause-serves
returns-clause-serves g c = serves
