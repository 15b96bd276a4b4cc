use Rattle.std.proofs.Common.{refl, ◌≡◌, arith, reverse, Some, slice_get, ◌++◌}
use Rattle.cml_board.specs.declared.call.Call.TheVariants.{ClosePort}
use Rattle.cml_board.specs.declared.entry.Reply.TheVariants.{Done}
use Rattle.cml_calls.specs.{is_port}
use Rattle.cml_board.specs.{seen_all, open_port}
use Rattle.cml_board.specs.Shown.{Shown}
use Rattle.cml_board.proofs.NotingLemmas.{keeps_at, keeps_call, inside, adds_entry, as_before, lacks}
use Rattle.cml_board.proofs.AnsweringLemmas.{fits_by, answer_shut}
use Rattle.cml_board.proofs.SourcesLemmas.{open_port_told}
use Rattle.cml_board.proofs.SteppingLemmas.{step_closed, has_port}
use Rattle.cml_board.proofs.SparingLemmas.{no_room}
use Rattle.cml_board.proofs.board.Board.close_open.Goals as goal

pub returns-in_default : goal.returns-in_default
returns-in_default g c =
    let told = open_port_told g.L.MessageLog.CHUNK c.args.self.now c.args.port.0 c.args.channel.0 c.args.start c.args.key
    (keeps_at g.L.MessageLog.CHUNK c.self.view_is c.self.invariant) c.requires.stands in
    lacks g.L.MessageLog.CHUNK g.M.Message.SURE c.args.self.now _ c.args.who (ClosePort c.args.port) (Done)
    c.denied.result (ClosePort c.args.port) c.denied.ensures refl
    (answer_shut c.args.self.now.history c.args.port told.1)
    (no_room (ClosePort c.args.port) c.self.view_is (omega (arith, c.in_default.ensures.full)))
    (as_before c.self.view_is c.in_default.ensures.items refl (omega (arith, c.reserve.ensures.len, c.reserve.ensures.capacity)))

pub close_port-requires : goal.close_port-requires
close_port-requires g c =
    let log = g.L.MessageLog.log in
    has_port g.L.MessageLog.CHUNK (reverse c.self.inside.journal.items ++ c.self.inside.past)
    (seen_all log c.self.inside.objects.items) c.args.port.0 c.args.channel.0 c.args.start c.args.key c.self.invariant.shows
    (inside (λ (b : Shown g.row.M.Denot). slice_get b.objects c.args.port.0 ≡ Some (open_port c.args.channel.0 c.args.start c.args.key))
    c.self.view_is c.requires.stands)

pub invariant_of-self-2 : goal.invariant_of-self-2
invariant_of-self-2 g c =
    let chunk = g.L.MessageLog.CHUNK in
    let log = g.L.MessageLog.log in
    let h = c.args.self.now.history in
    let told = open_port_told chunk c.args.self.now c.args.port.0 c.args.channel.0 c.args.start c.args.key
    (keeps_at chunk c.self.view_is c.self.invariant) c.requires.stands in
    keeps_call chunk c.args.who (ClosePort c.args.port)
    (ClosePort c.args.port) Done Done c.self.view_is c.self.invariant c.note.ensures.entries c.reserve.ensures.items
    refl refl c.requires.room (fits_by is_port h c.args.port (ClosePort c.args.port) refl (λ k. refl) told.0)
    (answer_shut h c.args.port told.1)
    (λ lawful shows. step_closed chunk c.args.who c.args.port (reverse c.self.inside.journal.items ++ c.self.inside.past)
    (seen_all log c.self.inside.objects.items) (seen_all log c.close_port.new.objects.items)
    c.args.channel.0 c.args.start c.args.key shows
    (inside (λ (b : Shown g.row.M.Denot). slice_get b.objects c.args.port.0 ≡ Some (open_port c.args.channel.0 c.args.start c.args.key))
    c.self.view_is c.requires.stands)
    c.close_port.ensures)

pub returns : goal.returns
returns g c =
    let chunk = g.L.MessageLog.CHUNK in
    let h = c.args.self.now.history in
    let told = open_port_told chunk c.args.self.now c.args.port.0 c.args.channel.0 c.args.start c.args.key
    (keeps_at chunk c.self.view_is c.self.invariant) c.requires.stands in (
      answer_shut h c.args.port told.1,
      adds_entry c.args.who (ClosePort c.args.port) (ClosePort c.args.port) Done Done c.self.view_is c.note.ensures.entries
          c.reserve.ensures.items refl refl (omega (arith, c.reserve.ensures.len, c.reserve.ensures.capacity, c.note.ensures.spare)),
    )
