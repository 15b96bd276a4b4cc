use Rattle.std.proofs.Common.{◌≡◌, ◌≤◌, length, vec_len}
use Rattle.cml_tests.specs.{asked}
use Rattle.cml_tests.proofs.scripts.caller.rings.Rings.abandon_lanes.Given as goal

abbrev pub invariant-loop-open : goal.invariant-loop-open
invariant-loop-open l = record {
  own : length l.self-inside.floor.feeds ≡ length l.self-inside.feeds.items;
  asked : asked l.self-inside.floor.board.history ≡ asked l.initial.self-inside.floor.board.history;
  same : length l.self-inside.feeds.items ≡ length l.initial.self-inside.feeds.items;
  fewer : vec_len l.self-inside.lanes ≤ vec_len l.initial.self-inside.lanes;
}

abbrev pub decreases-loop-open : goal.decreases-loop-open
decreases-loop-open l = vec_len l.self-inside.lanes
