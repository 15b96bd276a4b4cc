use Rattle.std.proofs.Common.{rules}
use Rattle.cml_board.proofs.board.Board.fresh.Goals as goal

pub returns-clause-limit : goal.returns-clause-limit
returns-clause-limit g c = search rules
