use Rattle.std.proofs.Common.{refl, subst, reverse, Some, ◌++◌}
use Rattle.cml_board.specs.declared.call.Call.TheVariants.{Put}
use Rattle.cml_board.specs.declared.entry.Reply.TheVariants.{Done}
use Rattle.cml_board.specs.{seen_all, HasVariable, SetsHeld}
use Rattle.cml_board.specs.Shown.{Shown}
use Rattle.cml_board.proofs.NotingLemmas.{keeps_at, keeps_call, inside}
use Rattle.cml_board.proofs.HoldingLemmas.{put_variable, answer_filled, variable_stands}
use Rattle.cml_board.proofs.LeavingLemmas.{filled_sets}
use Rattle.cml_board.proofs.SettingLemmas.{step_set}
use Rattle.cml_board.proofs.board.Board.fill_empty.Goals as goal

pub hold_at-none-requires : goal.hold_at-none-requires
hold_at-none-requires g c =
    let chunk = g.L.MessageLog.CHUNK in
    inside (λ (b : Shown g.row.M.Denot). HasVariable b.objects c.args.name.0) c.self.view_is
    (variable_stands chunk c.args.self.now c.args.name.0 (keeps_at chunk c.self.view_is c.self.invariant)
    (put_variable c.args.self.now.history c.args.name c.args.message c.requires.fits))

pub invariant_of-self-2 : goal.invariant_of-self-2
invariant_of-self-2 g c =
    let chunk = g.L.MessageLog.CHUNK in
    let log = g.L.MessageLog.log in
    let objects = seen_all log c.self.inside.objects.items in
    let after = seen_all log c.hold_at-none.new.objects.items in
    let sets = subst (λ value. SetsHeld objects after c.args.name.0 c.hold_at-none.result (Some value))
    c.in-Ok.ensures.copy c.hold_at-none.ensures in
    keeps_call chunk c.args.who (Put c.args.name c.args.message)
    (Put c.args.name c.args.message) Done Done c.self.view_is c.self.invariant c.note.ensures.entries c.reserve.ensures.items
    refl refl
    c.requires.room c.requires.fits (answer_filled c.args.self.now.history c.args.name c.args.message c.requires.empty)
    (λ lawful shows. step_set chunk c.args.who (Put c.args.name c.args.message) Done c.args.name c.hold_at-none.result
    (Some c.args.message)
    (reverse c.self.inside.journal.items ++ c.self.inside.past) objects after (filled_sets c.args.name c.args.message) shows sets)
