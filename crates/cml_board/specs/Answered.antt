-- What an answer tells.
use Rattle.std.specs.Prelude.{ℕ}
use Rattle.cml_board.specs.declared.call.Call.{Call}
use Rattle.cml_board.specs.declared.entry.Reply.{Reply}

-- the call, what it was answered, and the position of its entry
pub record Answered (M : Type 0) : Type 0 where
  pub call : Call M
  pub reply : Reply M
  pub at : ℕ
