use Rattle.std.proofs.Common.{rules}
use Rattle.cml_board.proofs.answer.Answer.at.Goals as goal

pub returns : goal.returns
returns g c = search rules
