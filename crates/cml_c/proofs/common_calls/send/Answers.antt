use Rattle.std.proofs.Common.{inl, sym, ◌∙◌}
use Rattle.std.specs.Prelude.{false, ⊤}
use Rattle.std.proofs.lemmas.Bool.{false≢true}
use Rattle.cml_board.specs.declared.call.Call.TheVariants.{Send}
use Rattle.cml_c.proofs.RefusingLemmas.{is_gone}
use Rattle.cml_c.proofs.common_calls.send.Goals as goal

pub returns-else-may_make : goal.returns-else-may_make
returns-else-may_make c = record {
  becomes = inl
      (is_gone false false c.args.seat (Send c.args.mailbox c.args.message.now) c.number-in-Err.result (λ becomes. ⊤) c.args.room.now
      (λ may. false≢true (sym c.if-may_make.false ∙ c.may_make.ensures.1 may)) c.number-in-Err.ensures tt);
}
