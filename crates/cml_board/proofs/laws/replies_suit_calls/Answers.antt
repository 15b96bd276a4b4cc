use Rattle.cml_board.proofs.SuitingLemmas.{lawful_suits}
use Rattle.cml_board.proofs.laws.replies_suit_calls.Goals as goal

pub returns : goal.returns
returns g c = lawful_suits
