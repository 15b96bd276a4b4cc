use Rattle.std.proofs.Common.{rules, refl}
use Rattle.cml_c.proofs.ShorteningLemmas.{is_shortened, shortens_none}
use Rattle.cml_c.proofs.compacting.shorten_by.Goals as goal

pub returns-in-Some-restore : goal.returns-in-Some-restore
returns-in-Some-restore g c =
    is_shortened g.M.Written.VERSION g.M.Written.meaning g.M.Payload.OWNED c.args.journal.now c.args.count.now c.args.reading
    c.deref_mut.result.now c.in-Some-restore.restored c.write_short.new.journal c.write_short.new.count c.write_short.result
    (search rules) c.in-Some-restore.ensures.restored c.write_short.ensures

pub returns-in-None : goal.returns-in-None
returns-in-None g c =
    shortens_none g.M.Written.VERSION g.M.Written.meaning g.M.Payload.OWNED c.args.journal.now c.args.count.now c.args.reading
    c.deref_mut.result.now c.restore.new.self c.number-in-None.result (search rules) (search rules)
    (c.in-None.ensures.stopped refl) (search rules)
