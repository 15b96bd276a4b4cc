use Rattle.std.proofs.Common.{◌+◌, ◌<◌, length, List, ℕ, refl, sym, subst, arith}
use Rattle.std.proofs.lemmas.Option.{slice_get_read}
use Rattle.cml_compact.proofs.PlanLemmas.{AreLengths, lengths_pushed, lengths_start}
use Rattle.cml_compact.proofs.planning.lengths.Goals as goal

pub loop-name-preserved : goal.loop-name-preserved
loop-name-preserved g c =
    let h = c.args.board.now.history in
    let slowest = c.args.slowest.now.items in
    let name = c.loop-name.name in
    let within : name < length slowest = omega (arith, c.loop-name-test.true, c.loop-name.auto.name-end, c.object_count-name-end.ensures, c.requires.slowest.all) in
    subst (λ (found : List ℕ). AreLengths h slowest (name + 1) found) (sym c.in_ok-push.ensures.items)
    (lengths_pushed h slowest name c.owed.result c.index.result.now c.loop-name.found.items c.loop-name.invariant
    (slice_get_read slowest _ name c.index.result.now refl within c.index.ensures) c.owed.ensures)

pub returns : goal.returns
returns g c =
    lengths_start c.args.board.now.history c.args.slowest.now.items c.loop-name.name c.loop-name.found.items c.requires.slowest
    (omega (arith, c.loop-name-test.false, c.loop-name.auto.name-end, c.object_count-name-end.ensures)) c.loop-name.invariant
