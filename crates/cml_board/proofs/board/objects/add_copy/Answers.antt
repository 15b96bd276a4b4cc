use Rattle.cml_log.specs.{place_of}
use Rattle.cml_board.proofs.ListLemmas.{on_err_given}
use Rattle.cml_board.proofs.PlacingLemmas.{kept_reserved, adds_port}
use Rattle.cml_board.proofs.board.objects.add_copy.Goals as goal

pub returns-in_err-copy-clause-err : goal.returns-in_err-copy-clause-err
returns-in_err-copy-clause-err g c =
    on_err_given c.from_residual-in_err-copy.result
    (kept_reserved g.L.MessageLog.log c.args.objects.now.items c.reserve.new.self.items c.args.channel.0 c.index_mut-source.result.now
    c.copy_cursor.new.object c.requires.stands c.reserve.ensures.items c.index_mut-source.ensures.value c.in_err-copy.ensures.err)

pub returns-clause-ok : goal.returns-clause-ok
returns-clause-ok g c =
    adds_port g.L.MessageLog.log c.args.objects.now.items c.reserve.new.self.items c.push_reserved.new.self.items c.args.channel
    c.index_mut-source.result.now c.copy_cursor.new.object c.in_ok-copy.copy c.place-start.result (λ l. place_of l c.args.key)
    (g.L.MessageLog.log c.log_in.result.now) c.requires.stands c.reserve.ensures.items c.index_mut-source.ensures.value
    c.in_ok-copy.ensures.ok c.log_in.ensures c.place-start.ensures c.push_reserved.ensures.items
