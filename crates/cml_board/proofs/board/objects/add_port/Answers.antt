use Rattle.cml_log.specs.{next_of}
use Rattle.cml_board.proofs.ListLemmas.{on_err_given}
use Rattle.cml_board.proofs.PlacingLemmas.{kept_reserved, adds_port}
use Rattle.cml_board.proofs.board.objects.add_port.Goals as goal

pub returns-in_err-key-clause-err : goal.returns-in_err-key-clause-err
returns-in_err-key-clause-err g c =
    on_err_given c.from_residual-in_err-key.result
    (kept_reserved g.L.MessageLog.log c.args.objects.now.items c.reserve.new.self.items c.args.channel.0 c.index_mut-source.result.now
    c.open_cursor.new.object c.requires c.reserve.ensures.items c.index_mut-source.ensures.value c.in_err-key.ensures.err)

pub returns-clause-ok : goal.returns-clause-ok
returns-clause-ok g c =
    adds_port g.L.MessageLog.log c.args.objects.now.items c.reserve.new.self.items c.push_reserved.new.self.items c.args.channel
    c.index_mut-source.result.now c.open_cursor.new.object c.in_ok-key.key c.next-start.result next_of
    (g.L.MessageLog.log c.log_in.result.now) c.requires c.reserve.ensures.items c.index_mut-source.ensures.value
    c.in_ok-key.ensures.ok c.log_in.ensures c.next-start.ensures c.push_reserved.ensures.items
