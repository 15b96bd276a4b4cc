use Rattle.std.proofs.Common.{rules}
use Rattle.cml_board.proofs.board.Board.first_of.Goals as goal

pub returns-in-Channel : goal.returns-in-Channel
returns-in-Channel g c = search rules
