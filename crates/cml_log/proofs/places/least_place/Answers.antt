use Rattle.std.proofs.Common.{◌∙◌, ap}
use Rattle.cml_log.proofs.PlainLogLemmas.{least_listed, least_listed-entries_from}
use Rattle.cml_log.proofs.places.least_place.Goals as goal

pub loop-place-init : goal.loop-place-init
loop-place-init c =
    ap (least_listed c.args.end) c.into_iter-place-iterator.ensures.into_iter_gives
    ∙ least_listed-entries_from c.args.end 0 c.args.places.now.slots
