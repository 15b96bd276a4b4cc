use Rattle.std.proofs.Common.{refl, ap, arith, reverse, Some, ◌++◌}
use Rattle.std.proofs.lemmas.List.{length-map}
use Rattle.cml_board.specs.declared.call.Call.TheVariants.{MVarInit}
use Rattle.cml_board.specs.declared.entry.Reply.TheVariants.{Made}
use Rattle.cml_board.specs.{map_log, seen_all}
use Rattle.cml_board.proofs.NotingLemmas.{keeps_call, made_name, keeps_same}
use Rattle.cml_board.proofs.SettingLemmas.{step_full}
use Rattle.cml_board.proofs.board.Board.make_full.Goals as goal

pub invariant_of-self-in_default-add_variable : goal.invariant_of-self-in_default-add_variable
invariant_of-self-in_default-add_variable g c =
    keeps_same g.L.MessageLog.CHUNK _ _ _ _ _ c.self.invariant c.reserve.ensures.items c.in_default-add_variable.ensures.err

pub invariant_of-self-2 : goal.invariant_of-self-2
invariant_of-self-2 g c =
    let chunk = g.L.MessageLog.CHUNK in
    let log = g.L.MessageLog.log in
    keeps_call chunk c.args.who (MVarInit c.args.message) (MVarInit c.args.message) (Made (record { 0 = c.len.result }))
    (Made (record { 0 = c.len.result })) c.self.view_is c.self.invariant c.note.ensures.entries c.reserve.ensures.items
    refl refl c.requires (tt, tt)
    (ap Some (made_name chunk c.self.view_is c.self.invariant c.len.result
    (omega (arith, c.len.ensures, length-map c.self.inside.objects.items (map_log log), c.self.inside.objects.ok.0))))
    (λ lawful shows. rw (c.in-Ok-add_variable.ensures.ok, c.in-Ok.ensures.copy)
    (step_full chunk c.args.who c.args.message (record { 0 = c.len.result }) (reverse c.self.inside.journal.items ++ c.self.inside.past)
    (seen_all log c.self.inside.objects.items)
    (omega (arith, c.len.ensures, length-map c.self.inside.objects.items (map_log log), c.self.inside.objects.ok.0)) lawful shows))
