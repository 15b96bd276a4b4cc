use Rattle.std.proofs.Common.{◌+◌, sym, subst, ◌∙◌, arith}
use Rattle.std.proofs.lemmas.Result.{err_from_is_err_and}
use Rattle.cml_board.specs.{Fits, entries_in}
use Rattle.cml_compact.specs.{begun_before}
use Rattle.cml_compact.specs.Stepping.{Reaches, Tells}
use Rattle.cml_compact.proofs.AnewLemmas.{maker_fits, maker_next, stops_more}
use Rattle.cml_compact.proofs.StagesLemmas.{making_more}
use Rattle.cml_compact.proofs.making.make_all.Goals as goal

pub tell-requires-clause-fits : goal.tell-requires-clause-fits
tell-requires-clause-fits g c =
    subst (λ call. Fits c.send_before.new.new.history call) (sym c.maker.ensures)
    (maker_fits _ c.args.board.now.history c.send_before.new.new c.loop-name.name c.facts.ensures.sound.lawful c.in_ok-send_before.ensures.ok
    (omega (arith, c.loop-name-test.true, c.object_count-name-end.ensures)))

pub returns-in_err-tell-clause-err : goal.returns-in_err-tell-clause-err
returns-in_err-tell-clause-err g c =
    let p = err_from_is_err_and c.from_residual-in_err-tell.result c.from_residual-in_err-tell.ensures.1 in
    rw (p.1, p.2) (stops_more c.send_before.new.new.limit c.args.new.now.limit (entries_in c.send_before.new.new.history + 1) _
    c.in_err-tell.field-0.0 (c.in_ok-send_before.ensures.ok.limit ∙ c.loop-name.invariant.reaches.limit)
    (making_more _ c.args.board.now.history c.send_before.new.new c.loop-name.name _ c.in_ok-send_before.ensures.ok
    (omega (arith, c.loop-name-test.true, c.object_count-name-end.ensures)))
    c.in_err-tell.ensures.err)

pub returns-in_err-tell-clause-whose : goal.returns-in_err-tell-clause-whose
returns-in_err-tell-clause-whose g c = λ before.
    c.in_err-tell.ensures.whose (c.in_ok-send_before.ensures.whose (c.loop-name.invariant.whose before))

pub loop-name-preserved : goal.loop-name-preserved
loop-name-preserved g c = record {
  reaches =
      subst (λ limit. Reaches limit c.tell.new.new (c.loop-name.name + 1) (begun_before c.args.board.now.history (c.loop-name.name + 1)))
      c.loop-name.invariant.reaches.limit
      (maker_next _ c.args.board.now.history c.send_before.new.new c.tell.new.new c.args.who c.loop-name.name c.facts.ensures.sound.lawful
      c.in_ok-send_before.ensures.ok (omega (arith, c.loop-name-test.true, c.object_count-name-end.ensures))
      (subst (λ call. Tells c.send_before.new.new c.tell.new.new c.args.who call) c.maker.ensures c.in_ok-tell.ensures.ok));
  whose = λ before. c.in_ok-tell.ensures.whose (c.in_ok-send_before.ensures.whose (c.loop-name.invariant.whose before));
}
