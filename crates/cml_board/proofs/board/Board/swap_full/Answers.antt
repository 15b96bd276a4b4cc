use Rattle.std.proofs.Common.{refl, sym, ap, subst, ◌∙◌, ◌≡◌, reverse, Some, arith, ◌++◌}
use Rattle.std.proofs.lemmas.Option.{same_Some}
use Rattle.cml_board.specs.declared.call.Call.TheVariants.{Swap}
use Rattle.cml_board.specs.declared.entry.Reply.TheVariants.{Got}
use Rattle.cml_board.specs.{held, seen_all, HasVariable, SetsHeld}
use Rattle.cml_board.specs.Shown.{Shown}
use Rattle.cml_board.proofs.NotingLemmas.{keeps_at, keeps_call, inside, adds_entry}
use Rattle.cml_board.proofs.HoldingLemmas.{swap_variable, answer_swapped, variable_stands, was_held}
use Rattle.cml_board.proofs.LeavingLemmas.{swapped_sets}
use Rattle.cml_board.proofs.SettingLemmas.{step_set}
use Rattle.cml_board.proofs.board.Board.swap_full.Goals as goal

pub hold_at-requires : goal.hold_at-requires
hold_at-requires g c =
    let chunk = g.L.MessageLog.CHUNK in
    inside (λ (b : Shown g.row.M.Denot). HasVariable b.objects c.args.name.0) c.self.view_is
    (variable_stands chunk c.args.self.now c.args.name.0 (keeps_at chunk c.self.view_is c.self.invariant)
    (swap_variable c.args.self.now.history c.args.name c.args.message c.requires.fits))

pub unreachable-requires : goal.unreachable-requires
unreachable-requires g c =
    c.requires.full
    (was_held g.L.MessageLog.CHUNK c.self.view_is c.self.invariant
    (seen_all g.L.MessageLog.log c.hold_at.new.objects.items) c.args.name.0 c.hold_at.result (Some c.in-Ok.stored) c.hold_at.ensures
    ∙ c.in_default-hold_at.is)

pub invariant_of-self-2 : goal.invariant_of-self-2
invariant_of-self-2 g c =
    let chunk = g.L.MessageLog.CHUNK in
    let log = g.L.MessageLog.log in
    let objects = seen_all log c.self.inside.objects.items in
    let after = seen_all log c.hold_at.new.objects.items in
    let told = c.in-Ok-share_held.told in
    let sets =
    subst (λ value. SetsHeld objects after c.args.name.0 c.hold_at.result (Some value)) c.in-Ok.ensures.copy c.hold_at.ensures in
    keeps_call chunk c.args.who (Swap c.args.name c.args.message) (Swap c.args.name c.args.message) (Got told)
    (Got told) c.self.view_is c.self.invariant c.note.ensures.entries c.reserve.ensures.items
    refl refl
    c.requires.room c.requires.fits (answer_swapped c.args.self.now.history c.args.name c.args.message told c.in-Ok-share_held.ensures.copy)
    (λ lawful shows. step_set chunk c.args.who (Swap c.args.name c.args.message)
    (Got told) c.args.name c.hold_at.result (Some c.args.message)
    (reverse c.self.inside.journal.items ++ c.self.inside.past) objects after (swapped_sets c.args.name c.args.message told) shows sets)

pub returns : goal.returns
returns g c =
    let chunk = g.L.MessageLog.CHUNK in
    let h = c.args.self.now.history in
    let full : held h c.args.name.0 ≡ Some c.in-Some.old =
    was_held chunk c.self.view_is c.self.invariant (seen_all g.L.MessageLog.log c.hold_at.new.objects.items) c.args.name.0 c.hold_at.result
    (Some c.in-Ok.stored) c.hold_at.ensures ∙ c.in-Some.is in
    let same : c.in-Ok-share_held.told ≡ c.in-Some.old = same_Some _ _ (sym c.in-Ok-share_held.ensures.copy ∙ full) in (
      answer_swapped h c.args.name c.args.message c.in-Some.old full,
      adds_entry c.args.who (Swap c.args.name c.args.message) (Swap c.args.name c.args.message) (Got c.in-Ok-share_held.told)
          (Got c.in-Some.old) c.self.view_is c.note.ensures.entries c.reserve.ensures.items
          refl (ap Got same)
          (omega (arith, c.reserve.ensures.len, c.reserve.ensures.capacity, c.note.ensures.spare)),
    )
