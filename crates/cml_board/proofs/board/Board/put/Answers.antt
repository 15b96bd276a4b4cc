use Rattle.std.proofs.Common.{refl, sym, ◌∙◌, reverse, arith, ◌++◌}
use Rattle.std.proofs.lemmas.Option.{none-some}
use Rattle.cml_board.specs.declared.entry.Reply.TheVariants.{Done}
use Rattle.cml_board.specs.{given_call, seen_all, HasRoomAt, HasLog}
use Rattle.cml_board.specs.Shown.{Shown}
use Rattle.cml_board.proofs.NotingLemmas.{keeps_at, keeps_call, keeps_same, as_before, inside, adds_entry, unchanged}
use Rattle.cml_board.proofs.AnsweringLemmas.{answer_put}
use Rattle.cml_board.proofs.SourcesLemmas.{put_stands}
use Rattle.cml_board.proofs.LookingLemmas.{has_room}
use Rattle.cml_board.proofs.SteppingLemmas.{step_put}
use Rattle.cml_board.proofs.SparingLemmas.{filling_takes, no_room, call_takes, gives_message}
use Rattle.cml_board.proofs.board.Board.put.Goals as goal

pub returns-in_default : goal.returns-in_default
returns-in_default g c =
    let sent = given_call c.args.give c.args.name c.args.message in (
      refl,
      λ waits. none-some Done (sym waits ∙ answer_put c.args.self.now.history c.args.give c.args.name c.args.message c.requires.adds),
      call_takes c.args.self.now sent (gives_message c.args.give c.args.name c.args.message) c.in_default.ensures.sure,
      refl,
      unchanged c.args.self.now,
    )

pub returns-in_default-reserve : goal.returns-in_default-reserve
returns-in_default-reserve g c =
    let sent = given_call c.args.give c.args.name c.args.message in (
      refl,
      λ waits. none-some Done (sym waits ∙ answer_put c.args.self.now.history c.args.give c.args.name c.args.message c.requires.adds),
      no_room sent c.self.view_is (omega (arith, c.in_default-reserve.ensures.full)),
      refl,
      as_before c.self.view_is c.in_default-reserve.ensures.items refl (omega (arith, c.reserve.ensures.len, c.reserve.ensures.capacity)),
    )

pub invariant_of-self-in_default-push_at : goal.invariant_of-self-in_default-push_at
invariant_of-self-in_default-push_at g c =
    keeps_same g.L.MessageLog.CHUNK _ _ _ _ _ c.self.invariant c.reserve.ensures.items c.in_default-push_at.ensures.err

pub returns-in_default-push_at : goal.returns-in_default-push_at
returns-in_default-push_at g c =
    let sent = given_call c.args.give c.args.name c.args.message in (
      refl,
      λ waits. none-some Done (sym waits ∙ answer_put c.args.self.now.history c.args.give c.args.name c.args.message c.requires.adds),
      filling_takes g.L.MessageLog.CHUNK c.args.give c.args.name c.args.message c.requires.adds c.self.view_is c.self.invariant
          (put_stands g.L.MessageLog.CHUNK c.args.self.now c.args.give c.args.name c.args.message c.requires.adds
          (keeps_at g.L.MessageLog.CHUNK c.self.view_is c.self.invariant) c.requires.fits)
          c.in_default-push_at.ensures.refused,
      refl,
      as_before c.self.view_is c.reserve.ensures.items c.in_default-push_at.ensures.err
          (omega (arith, c.reserve.ensures.len, c.reserve.ensures.capacity)),
    )

pub push_at-requires : goal.push_at-requires
push_at-requires g c =
    let keeps = keeps_at g.L.MessageLog.CHUNK c.self.view_is c.self.invariant in
    inside (λ (b : Shown g.row.M.Denot). HasRoomAt b.objects c.args.name.0) c.self.view_is
    (has_room g.L.MessageLog.CHUNK c.args.self.now c.args.name.0 keeps c.requires.room
    (put_stands g.L.MessageLog.CHUNK c.args.self.now c.args.give c.args.name c.args.message c.requires.adds keeps c.requires.fits))

pub invariant_of-self-2 : goal.invariant_of-self-2
invariant_of-self-2 g c =
    let chunk = g.L.MessageLog.CHUNK in
    let call = given_call c.args.give c.args.name c.args.message in
    let keeps = keeps_at chunk c.self.view_is c.self.invariant in
    let stands = inside (λ (b : Shown g.row.M.Denot). HasLog b.objects c.args.name.0) c.self.view_is
    (put_stands chunk c.args.self.now c.args.give c.args.name c.args.message c.requires.adds keeps c.requires.fits) in
    keeps_call chunk c.args.who call c.give.result Done Done c.self.view_is c.self.invariant c.note.ensures.entries c.reserve.ensures.items
    c.give.ensures refl
    c.requires.room c.requires.fits (answer_put c.args.self.now.history c.args.give c.args.name c.args.message c.requires.adds)
    (λ lawful shows. rw (c.in-Ok-push_at.ensures.ok, c.in-Ok.ensures.copy)
    (step_put chunk c.args.who c.args.give c.args.name c.args.message (reverse c.self.inside.journal.items ++ c.self.inside.past)
    (seen_all g.L.MessageLog.log c.self.inside.objects.items) c.requires.adds shows stands))

pub returns : goal.returns
returns g c =
    let call = given_call c.args.give c.args.name c.args.message in (
      answer_put c.args.self.now.history c.args.give c.args.name c.args.message c.requires.adds,
      adds_entry c.args.who call c.give.result Done Done c.self.view_is c.note.ensures.entries c.reserve.ensures.items
          c.give.ensures refl
          (omega (arith, c.reserve.ensures.len, c.reserve.ensures.capacity, c.note.ensures.spare)),
    )
