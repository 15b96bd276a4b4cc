use Rattle.std.proofs.Common.{◌+◌, ◌-◌, arith}
use Rattle.std.proofs.lemmas.Result.{err_from_is_err_and}
use Rattle.cml_board.specs.{entries_in}
use Rattle.cml_compact.specs.{begun_anew, compact_size, stocked}
use Rattle.cml_compact.specs.Stages.{weight}
use Rattle.cml_compact.proofs.AnewLemmas.{halfway_next, stops_more}
use Rattle.cml_compact.proofs.StagesLemmas.{half_more, stocked_less, stocked_more}
use Rattle.cml_compact.proofs.sending.send_all.Goals as goal

pub returns-in_err-send_one-clause-err : goal.returns-in_err-send_one-clause-err
returns-in_err-send_one-clause-err g c =
    let h = c.args.board.now.history in
    let name = c.loop-name.name in
    let p = err_from_is_err_and c.from_residual.result c.from_residual.ensures.1 in
    let more = half_more _ _ name c.loop-name.new (begun_anew h) (stocked h) c.loop-name.invariant.half
    (omega (arith, c.loop-name-test.true, c.object_count-name-end.ensures)) (stocked_more h) in
    rw (p.1, p.2) (stops_more c.loop-name.new.limit c.args.new.now.limit
    (entries_in c.loop-name.new.history + (weight (stocked h name) - weight (begun_anew h name))) (compact_size h)
    c.in_err-send_one.field-0.0 c.loop-name.invariant.half.limit (omega (arith, more, stocked_less h)) c.in_err-send_one.ensures.err)

pub loop-name-preserved : goal.loop-name-preserved
loop-name-preserved g c =
    let h = c.args.board.now.history in
    record {
      half =
          halfway_next _ c.loop-name.new c.send_one.new.new _ c.loop-name.name (begun_anew h) (stocked h) c.loop-name.invariant.half
          (omega (arith, c.loop-name-test.true, c.object_count-name-end.ensures)) c.in_ok-send_one.ensures.ok;
      whose = λ before. c.in_ok-send_one.ensures.whose (c.loop-name.invariant.whose before);
    }
