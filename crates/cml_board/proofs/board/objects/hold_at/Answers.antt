use Rattle.cml_board.proofs.PlacingLemmas.{sets_held, variable_within}
use Rattle.cml_board.proofs.board.objects.hold_at.Goals as goal

pub returns : goal.returns
returns g c =
    let log = g.L.MessageLog.log in
    sets_held log c.args.objects.now.items c.args.name.0 c.index_mut.result.now c.hold.new.object c.hold.result c.args.value
    (variable_within log c.args.objects.now.items c.args.name.0 c.requires) c.index_mut.ensures.value c.hold.ensures.was c.hold.ensures.now
