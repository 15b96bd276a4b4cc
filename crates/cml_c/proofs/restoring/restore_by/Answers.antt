use Rattle.std.proofs.Common.{rules, refl}
use Rattle.cml_c.proofs.GoingOnLemmas.{goes_on, gives_none}
use Rattle.cml_c.proofs.restoring.restore_by.Goals as goal

pub returns-in-Some-restore : goal.returns-in-Some-restore
returns-in-Some-restore g c =
    goes_on g.M.Written.VERSION g.M.Written.meaning g.M.Payload.OWNED c.args.limit c.args.room.now c.args.reading c.deref_mut.result.now
    c.in-Some-restore.restored c.open.new.room c.open.result (search rules) (search rules) c.in-Some-restore.ensures.restored c.open.ensures

pub returns-in-None : goal.returns-in-None
returns-in-None g c =
    gives_none g.M.Written.VERSION g.M.Written.meaning g.M.Payload.OWNED c.args.limit c.args.room.now c.args.reading c.deref_mut.result.now
    c.restore.new.self c.number-in-None.result (search rules) (search rules) (search rules) (c.in-None.ensures.stopped refl) (search rules)
