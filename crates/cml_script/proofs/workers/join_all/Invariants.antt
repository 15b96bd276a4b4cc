use Rattle.std.proofs.Common.{◌≡◌, ◌≤◌, ◌+◌, vec_len, vec_capacity}
use Rattle.cml_script.proofs.workers.join_all.Given as goal

abbrev pub invariant-loop-handle : goal.invariant-loop-handle
invariant-loop-handle g l = record {
  all : vec_len l.ended + vec_len l.running ≡ vec_len l.fn.ended + vec_len l.fn.running;
  room : vec_len l.fn.ended + vec_len l.fn.running ≤ vec_capacity l.ended;
}

abbrev pub decreases-loop-handle : goal.decreases-loop-handle
decreases-loop-handle g l = vec_len l.running
