use Rattle.std.proofs.Common.{refl, arith, reverse, ◌++◌}
use Rattle.cml_board.specs.declared.call.Call.TheVariants as call
use Rattle.cml_board.specs.declared.entry.Reply.TheVariants.{Put}
use Rattle.cml_board.specs.{seen_all}
use Rattle.cml_board.proofs.NotingLemmas.{keeps_call, adds_entry}
use Rattle.cml_board.proofs.HoldingLemmas.{answer_full}
use Rattle.cml_board.proofs.LeavingLemmas.{full_spares}
use Rattle.cml_board.proofs.SettingLemmas.{step_spared}
use Rattle.cml_board.proofs.board.Board.find_full.Goals as goal

pub invariant_of-self-2 : goal.invariant_of-self-2
invariant_of-self-2 g c =
    let chunk = g.L.MessageLog.CHUNK in
    let asked = call.Put c.args.name c.args.message in
    keeps_call chunk c.args.who asked (call.Put c.args.name c.args.message) Put Put c.self.view_is c.self.invariant
    c.note.ensures.entries c.reserve.ensures.items
    refl refl
    c.requires.room c.requires.fits (answer_full c.args.self.now.history c.args.name c.args.message c.requires.full)
    (λ lawful shows. step_spared chunk c.args.who asked Put (reverse c.self.inside.journal.items ++ c.self.inside.past)
    (seen_all g.L.MessageLog.log c.self.inside.objects.items)
    (full_spares c.args.name c.args.message) (λ k. refl) shows)

pub returns : goal.returns
returns g c =
    let asked = call.Put c.args.name c.args.message in (
      answer_full c.args.self.now.history c.args.name c.args.message c.requires.full,
      adds_entry c.args.who asked asked Put Put c.self.view_is c.note.ensures.entries c.reserve.ensures.items refl refl
          (omega (arith, c.reserve.ensures.len, c.reserve.ensures.capacity, c.note.ensures.spare)),
    )
