use Rattle.std.proofs.Common.{rules}
use Rattle.cml_board.proofs.board.Board.kind.Goals as goal

pub returns-in-Mailbox : goal.returns-in-Mailbox
returns-in-Mailbox g c = search rules
