use Rattle.cml_board.specs.{facts_of}
use Rattle.cml_compact.specs.{AllBy}
use Rattle.cml_compact.specs.Stepping.{Changes}
use Rattle.cml_compact.proofs.sending.give_all.Given as goal

abbrev pub invariant-loop-message : goal.invariant-loop-message
invariant-loop-message g l = record {
  changes : Changes l.fn.new l.new l.mailbox.0 (record (facts_of l.fn.new.history l.mailbox.0) { sent = l.yielded });
  whose : AllBy l.who l.fn.new.history → AllBy l.who l.new.history;
}
