use Rattle.std.proofs.Common.{◌≡◌, ◌≤◌, ◌+◌, vec_len, vec_capacity}
use Rattle.cml_script.proofs.workers.leave_all.Given as goal

abbrev pub invariant-loop-caller : goal.invariant-loop-caller
invariant-loop-caller g l = record {
  all : vec_len l.ended + vec_len l.callers ≡ vec_len l.fn.callers;
  room : vec_len l.fn.callers ≤ vec_capacity l.ended;
}

abbrev pub decreases-loop-caller : goal.decreases-loop-caller
decreases-loop-caller g l = vec_len l.callers
