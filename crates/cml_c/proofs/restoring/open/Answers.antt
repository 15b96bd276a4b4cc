use Rattle.cml_c.proofs.GoingOnLemmas.{opens_on}
use Rattle.cml_c.proofs.restoring.open.Goals as goal

pub returns-in-Ok : goal.returns-in-Ok
returns-in-Ok g c =
    opens_on g.M.Payload.OWNED c.args.restored c.args.room.now c.write_handle.new.slot c.write_handle.result c.own_room.result c.in-Ok.opened
    c.in-Ok.ensures c.own_room.ensures c.write_handle.ensures
