use Rattle.std.proofs.Common.{sym, ◌∙◌}
use Rattle.std.proofs.lemmas.Bool.{false≢true}
use Rattle.cml_c.proofs.NeedingLemmas.{gives_short}
use Rattle.cml_c.proofs.bytes_asking.make_without_block.Goals as goal

pub tell_short-requires : goal.tell_short-requires
tell_short-requires c =
    gives_short c.args.is_again c.args.seat c.args.call c.args.room.now c.ask-response.new.room c.ask-response.result
    (λ needs. false≢true (sym c.if-needs_block.false ∙ c.needs_block.ensures.1 needs)) c.ask-response.ensures.asks
