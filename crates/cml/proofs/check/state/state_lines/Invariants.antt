use Rattle.std.proofs.Common.{◌≡◌, string_bytes}
use Rattle.cml.specs.{object_lines}
use Rattle.cml.proofs.check.state.state_lines.Given as goal

abbrev pub invariant-loop-number : goal.invariant-loop-number
invariant-loop-number g l = (string_bytes l.lines ≡ object_lines g.M.Written.text l.board.history l.number)
    × (l.board.history ≡ l.fn.board.history)
