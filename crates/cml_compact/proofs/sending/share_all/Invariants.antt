use Rattle.std.proofs.Common.{◌++◌, take}
use Rattle.cml_board.specs.{facts_of}
use Rattle.cml_compact.specs.{AllBy}
use Rattle.cml_compact.specs.Stepping.{Changes}
use Rattle.cml_compact.proofs.sending.share_all.Given as goal

abbrev pub invariant-loop-message : goal.invariant-loop-message
invariant-loop-message g l =
    let before = facts_of l.fn.new.history l.channel.0 in
    record {
      changes : Changes l.fn.new l.new l.channel.0 (record before { sent = before.sent ++ take l.message-index l.messages });
      whose : AllBy l.who l.fn.new.history → AllBy l.who l.new.history;
    }
