use Rattle.cml_board.proofs.PartsLemmas.{call_again, parts_again}
use Rattle.cml_board.proofs.laws.calls_are_their_parts.Goals as goal

pub returns-clause-calls : goal.returns-clause-calls
returns-clause-calls g c = call_again

pub returns-clause-parts : goal.returns-clause-parts
returns-clause-parts g c = parts_again
