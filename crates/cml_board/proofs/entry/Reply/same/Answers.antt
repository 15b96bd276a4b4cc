use Rattle.std.proofs.Common.{rules}
use Rattle.cml_board.proofs.entry.Reply.same.Goals as goal

pub returns-in-Made-Made : goal.returns-in-Made-Made
returns-in-Made-Made g c = search rules
