use Rattle.std.proofs.Common.{refl, reverse, ◌++◌}
use Rattle.cml_board.specs.declared.call.Call.TheVariants.{Poll}
use Rattle.cml_board.specs.declared.entry.Reply.TheVariants.{Nothing}
use Rattle.cml_calls.specs.declared.table.Ask.TheVariants as ask
use Rattle.cml_board.specs.{seen_all}
use Rattle.cml_board.proofs.NotingLemmas.{keeps_call}
use Rattle.cml_board.proofs.AnsweringLemmas.{answer_nothing, fits_taking}
use Rattle.cml_board.proofs.SteppingLemmas.{step_nothing}
use Rattle.cml_board.proofs.board.Board.find_nothing.Goals as goal

pub invariant_of-self-2 : goal.invariant_of-self-2
invariant_of-self-2 g c =
    let h = c.args.self.now.history in
    keeps_call g.L.MessageLog.CHUNK c.args.who (Poll c.args.name)
    (Poll c.args.name) Nothing Nothing c.self.view_is c.self.invariant c.note.ensures.entries c.reserve.ensures.items
    refl refl c.requires.room (fits_taking h ask.Poll c.args.name refl c.requires.fits)
    (answer_nothing h c.args.name c.requires.opened c.requires.empty)
    (λ lawful shows. step_nothing g.L.MessageLog.CHUNK c.args.who c.args.name (reverse c.self.inside.journal.items ++ c.self.inside.past)
    (seen_all g.L.MessageLog.log c.self.inside.objects.items) shows)
