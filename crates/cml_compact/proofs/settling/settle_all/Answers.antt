use Rattle.std.proofs.Common.{◌+◌, ◌-◌, arith}
use Rattle.std.proofs.lemmas.Result.{err_from_is_err_and}
use Rattle.cml_board.specs.{entries_in}
use Rattle.cml_compact.specs.{stocked, settled}
use Rattle.cml_compact.specs.Stages.{weight}
use Rattle.cml_compact.proofs.AnewLemmas.{halfway_next, stops_more}
use Rattle.cml_compact.proofs.StagesLemmas.{half_more, settled_more}
use Rattle.cml_compact.proofs.settling.settle_all.Goals as goal

pub returns-in_err-settle_one-clause-err : goal.returns-in_err-settle_one-clause-err
returns-in_err-settle_one-clause-err g c =
    let h = c.args.board.now.history in
    let p = err_from_is_err_and c.from_residual.result c.from_residual.ensures.1 in
    rw (p.1, p.2) (stops_more c.loop-name.new.limit c.args.new.now.limit
    (entries_in c.loop-name.new.history + (weight (settled h c.loop-name.name) - weight (stocked h c.loop-name.name))) _
    c.in_err-settle_one.field-0.0 c.loop-name.invariant.half.limit
    (half_more _ _ c.loop-name.name c.loop-name.new (stocked h) (settled h) c.loop-name.invariant.half
    (omega (arith, c.loop-name-test.true, c.object_count-name-end.ensures)) (settled_more h))
    c.in_err-settle_one.ensures.err)

pub loop-name-preserved : goal.loop-name-preserved
loop-name-preserved g c = record {
  half =
      halfway_next _ c.loop-name.new c.settle_one.new.new _ c.loop-name.name (stocked c.args.board.now.history)
      (settled c.args.board.now.history) c.loop-name.invariant.half
      (omega (arith, c.loop-name-test.true, c.object_count-name-end.ensures)) c.in_ok-settle_one.ensures.ok;
  whose = λ before. c.in_ok-settle_one.ensures.whose (c.loop-name.invariant.whose before);
}
