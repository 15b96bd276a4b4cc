use Rattle.std.proofs.Common.{rules}
use Rattle.cml_board.proofs.checking.follow.Goals as goal

pub returns-in-Reply : goal.returns-in-Reply
returns-in-Reply g c = search rules
