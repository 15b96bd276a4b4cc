use Rattle.std.proofs.Common.{◌≡◌, drop, map}
use Rattle.cml_chart.specs.{shown_act, names_of, each_once, doer_in}
use Rattle.cml_chart.proofs.chart.add_actors.Given as goal

abbrev pub invariant-loop-act : goal.invariant-loop-act
invariant-loop-act l =
    each_once (names_of l.names.keys) (map (doer_in l.rings) (map shown_act (drop l.act-index l.acts)))
    ≡ each_once (names_of l.fn.names.keys) (map (doer_in l.rings) (map shown_act l.acts))
