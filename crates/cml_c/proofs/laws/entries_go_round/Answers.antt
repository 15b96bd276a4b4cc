use Rattle.cml_c.proofs.GoingRoundLemmas.{entry_goes_round, bytes_go_round}
use Rattle.cml_c.proofs.laws.entries_go_round.Goals as goal

pub returns-clause-numbers : goal.returns-clause-numbers
returns-clause-numbers c = entry_goes_round

pub returns-clause-bytes : goal.returns-clause-bytes
returns-clause-bytes c = bytes_go_round
