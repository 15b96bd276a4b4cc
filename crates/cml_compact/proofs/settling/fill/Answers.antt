use Rattle.std.proofs.Common.{◌≡◌, option_copied, Some, sym, ap, ◌∙◌}
use Rattle.std.specs.Option.{option_map}
use Rattle.std.proofs.lemmas.Result.{on_ok_weaker}
use Rattle.cml_board.specs.{held_by}
use Rattle.cml_compact.proofs.FillingLemmas.{none_settles, fill_settles, empty_inside, empty_outside}
use Rattle.cml_compact.proofs.settling.fill.Goals as goal

pub returns-in_default-clause-ok : goal.returns-in_default-clause-ok
returns-in_default-clause-ok g c =
    none_settles c.args.board.now.history c.args.new.now c.args.name.0 c.requires.lawful c.requires.kept c.requires.port c.requires.stocked
    (empty_outside c.args.board.now.history c.args.name.0
    (sym (ap (option_map (option_copied {T = g.row.M.Denot})) c.in_default.is) ∙ c.held.ensures))

pub returns-in_default-held-clause-ok : goal.returns-in_default-held-clause-ok
returns-in_default-held-clause-ok g c =
    none_settles c.args.board.now.history c.args.new.now c.args.name.0 c.requires.lawful c.requires.kept c.requires.port c.requires.stocked
    (empty_inside c.args.board.now.history c.args.name.0
    (sym (ap (option_map (option_copied {T = g.row.M.Denot})) (c.in-Some.is ∙ ap Some c.in_default-held.is)) ∙ c.held.ensures))

pub returns-in-Ok-clause-ok : goal.returns-in-Ok-clause-ok
returns-in-Ok-clause-ok g c =
    let holds : held_by c.args.board.now.history c.args.name.0 ≡ Some (Some c.in-Ok.message) =
    sym c.held.ensures ∙ ap (option_map (option_copied {T = g.row.M.Denot})) (c.in-Some.is ∙ ap Some c.in-Some-held.is)
    ∙ ap (λ m. Some (Some m)) (sym c.in-Ok.ensures.copy) in
    on_ok_weaker c.tell.result (λ tells.
    fill_settles c.args.board.now.history c.args.new.now c.tell.new.new c.args.who c.args.name c.in-Ok.message c.requires.lawful
    c.requires.kept c.requires.port holds c.requires.stocked tells) c.tell.ensures.ok
