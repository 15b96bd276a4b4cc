use Rattle.std.proofs.Common.{◌≡◌, ◌≤◌, ◌+◌, length, vec_len, vec_capacity}
use Rattle.cml_script.proofs.workers.fn.start.scope.Given as goal

-- each seat is left, runs, or is still to be started; and there is room for all
abbrev pub invariant-loop-caller : goal.invariant-loop-caller
invariant-loop-caller g l = record {
  all : vec_len l.ended + vec_len l.running + vec_len l.callers ≡ vec_len l.initial.callers;
  few : vec_len l.callers ≤ 64;
  flags : vec_len l.callers ≤ length l.flags;
  room : vec_len l.initial.callers ≤ vec_capacity l.ended;
  handles : vec_len l.initial.callers ≤ vec_capacity l.running;
}

abbrev pub decreases-loop-caller : goal.decreases-loop-caller
decreases-loop-caller g l = vec_len l.callers
