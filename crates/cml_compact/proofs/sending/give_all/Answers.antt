use Rattle.std.proofs.Common.{refl}
use Rattle.cml_calls.specs.declared.table.Give.TheVariants as give
use Rattle.cml_board.specs.{facts_of}
use Rattle.cml_compact.proofs.AnewLemmas.{changes_put}
use Rattle.cml_compact.proofs.sending.give_all.Goals as goal

pub loop-message-preserved : goal.loop-message-preserved
loop-message-preserved g c = record {
  changes =
      changes_put c.args.new.now c.loop-message.new c.tell.new.new c.args.who give.Send c.args.mailbox c.in-Some.message
      (record (facts_of c.args.new.now.history c.args.mailbox.0) { sent = c.loop-message.yielded }) refl
      c.loop-message.invariant.changes c.in_ok-tell.ensures.ok;
  whose = λ before. c.in_ok-tell.ensures.whose (c.loop-message.invariant.whose before);
}
