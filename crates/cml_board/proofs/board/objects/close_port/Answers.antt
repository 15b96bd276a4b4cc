use Rattle.cml_board.proofs.PlacingLemmas.{closes_port, log_within}
use Rattle.cml_board.proofs.board.objects.close_port.Goals as goal

pub returns : goal.returns
returns g c =
    let log = g.L.MessageLog.log in
    closes_port g.L.MessageLog.CHUNK log c.args.objects.now.items c.args.name c.args.channel c.index_mut-source.result.now c.shut.new.object
    c.args.start c.args.key c.place.result
    (log c.log_in.result.now) (log_within log c.args.objects.now.items c.args.channel.0 c.requires.cursor.stands)
    c.index_mut-source.ensures.value c.log_in.ensures c.place.ensures c.shut.ensures
