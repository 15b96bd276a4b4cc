use Rattle.cml_board.proofs.CountsLemmas.{mailbox_open, mailbox_got, port_reads, port_past, port_got, reading_open}
use Rattle.cml_board.proofs.board.Board.got_count.Goals as goal

pub place-requires : goal.place-requires
place-requires g c =
    mailbox_open g.L.MessageLog.CHUNK g.L.MessageLog.log c.args.self.now c.args.name.0 c.in-Mailbox.key c.in-Mailbox.log
    c.in_ok-log.field-0.now c.in_ok-log.ensures c.in-Mailbox.is

pub log-requires : goal.log-requires
log-requires g c =
    (port_reads g.L.MessageLog.CHUNK g.L.MessageLog.log c.args.self.now c.args.name.0 c.in-Open.key c.in-Port.port c.in_ok-log.field-0.now
    c.in_ok-log.ensures c.in-Port.is c.in-Open.is).cursor.stands

pub place-requires-in-Open : goal.place-requires-in-Open
place-requires-in-Open g c =
    reading_open c.args.self.now c.args.name.0 c.in-Port.port.channel.0 c.in-Open.key (g.L.MessageLog.log c.log.result.now)
    (port_reads g.L.MessageLog.CHUNK g.L.MessageLog.log c.args.self.now c.args.name.0 c.in-Open.key c.in-Port.port c.in_ok-log.field-0.now
    c.in_ok-log.ensures c.in-Port.is c.in-Open.is)
    c.log.ensures

pub overflow_sub-result : goal.overflow_sub-result
overflow_sub-result g c =
    port_past g.L.MessageLog.CHUNK g.L.MessageLog.log c.args.self.now c.args.name.0 c.in-Open.key c.place-in-Open.result c.in-Port.port
    c.in_ok-log.field-0.now (g.L.MessageLog.log c.log.result.now)
    c.in_ok-log.ensures c.in-Port.is c.in-Open.is c.log.ensures c.place-in-Open.ensures

pub returns-in-Mailbox : goal.returns-in-Mailbox
returns-in-Mailbox g c =
    mailbox_got g.L.MessageLog.CHUNK g.L.MessageLog.log c.args.self.now c.args.name.0 c.in-Mailbox.key c.place.result c.in-Mailbox.log
    c.in_ok-log.field-0.now c.in_ok-log.ensures c.in-Mailbox.is c.place.ensures

pub returns-in-Open : goal.returns-in-Open
returns-in-Open g c =
    port_got g.L.MessageLog.CHUNK g.L.MessageLog.log c.args.self.now c.args.name.0 c.in-Open.key c.place-in-Open.result c.in-Port.port
    c.in_ok-log.field-0.now (g.L.MessageLog.log c.log.result.now)
    c.in_ok-log.ensures c.in-Port.is c.in-Open.is c.log.ensures c.place-in-Open.ensures
