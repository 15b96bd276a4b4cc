use Rattle.std.proofs.Common.{rules}
use Rattle.cml_board.proofs.board.Board.channel_of.Goals as goal

pub returns-in-Port : goal.returns-in-Port
returns-in-Port g c = search rules
