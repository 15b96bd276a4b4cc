use Rattle.std.proofs.Common.{rules}
use Rattle.cml_board.proofs.board.Board.held.Goals as goal

pub returns-in-Variable : goal.returns-in-Variable
returns-in-Variable g c = search rules
