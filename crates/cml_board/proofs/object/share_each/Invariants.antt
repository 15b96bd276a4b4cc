use Rattle.std.proofs.Common.{◌≡◌, ◌≤◌, length, take}
use Rattle.std.specs.Prelude.{vec_len, vec_capacity}
use Rattle.cml_log.specs.{lent}
use Rattle.cml_board.proofs.object.share_each.Given as goal

abbrev pub invariant-loop-message : goal.invariant-loop-message
invariant-loop-message g l = record {
  shared : l.shared.items ≡ lent (take l.message-index l.messages.items);
  room : length l.messages.items ≤ vec_capacity l.shared;
  count : vec_len l.shared ≡ l.message-index;
}
