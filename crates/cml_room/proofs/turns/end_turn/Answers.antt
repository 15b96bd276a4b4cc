use Rattle.std.proofs.Common.{◌≡◌, slice_get, Some, refl, sym, ap, subst, ◌∙◌}
use Rattle.cml_board.specs.Shown.{Shown}
use Rattle.cml_room.specs.declared.state.State.TheVariants.{Parked}
use Rattle.cml_room.specs.{states_in, RisesFew, AreAt, freed}
use Rattle.cml_room.proofs.EndingLemmas.{freed_states, may_within, handed, ended, ended_at, none_told, free_unless_waits}
use Rattle.cml_room.proofs.EndingLemmas.{free_same, waits_parked}
use Rattle.cml_room.proofs.RisingLemmas.{handed_few, told_few}
use Rattle.cml_room.proofs.RousingLemmas.{none_roused, roused_states}
use Rattle.std.proofs.Common.{get_or}
use Rattle.cml_room.specs.declared.place.Place.TheVariants.{Free}
use Rattle.cml_room.proofs.EndingLemmas.{freed_here}
use Rattle.cml_room.proofs.WokenLemmas.{asked_roused, free_asked, set_asked_within, freed_nothing}
use Rattle.cml_room.proofs.turns.end_turn.Goals as goal

pub set_free-requires : goal.set_free-requires
set_free-requires g c = may_within c.args.seats.now.places c.args.number c.requires.may

pub returns-in-Some-clause-ends : goal.returns-in-Some-clause-ends
returns-in-Some-clause-ends g c =
    let olds = c.args.seats.now.places in
    let mids = c.set_free.new.self.places in
    let lates = c.hand_on.new.seats.places in
    record {
      states = roused_states _ mids lates c.hand_on.ensures.roused
          ∙ (ap states_in c.set_free.ensures.places ∙ freed_states olds c.args.number c.requires.may);
      few = handed_few c.args.floor.now.board.history c.args.news c.args.number c.in-Some.waiter olds mids lates c.in-Some.ensures
          c.set_free.ensures.places c.hand_on.ensures.roused c.hand_on.ensures.one;
      asked = asked_roused _ olds mids lates c.args.number
          (set_asked_within olds mids c.args.number (freed (get_or olds c.args.number Free))
          (may_within olds c.args.number c.requires.may) (freed_nothing (get_or olds c.args.number Free)) c.set_free.ensures.places)
          c.hand_on.ensures.roused
          (ap (λ l. slice_get l c.args.number) c.set_free.ensures.places ∙ freed_here olds c.args.number c.requires.may);
    }

pub returns-in-Some-clause-placed : goal.returns-in-Some-clause-placed
returns-in-Some-clause-placed g c =
    ended_at _ _ c.args.floor.now.board.history c.args.seats.now.places c.set_free.new.self.places
    c.set_free.new.self.places c.hand_on.new.seats.places
    c.args.number c.requires.placed c.set_free.ensures.places
    (none_roused (λ waiter. ⊥) c.set_free.new.self.places) c.hand_on.ensures.roused

pub returns-in-Some-clause-kept : goal.returns-in-Some-clause-kept
returns-in-Some-clause-kept g c = λ before watched next room.
    let none =
    c.requires.brings c.in-Some.waiter.want (waits_parked c.args.seats.now.places c.args.number c.in-Some.waiter c.in-Some.ensures) in
    ended before c.args.floor.now c.args.floor.now.board c.args.news _ _ c.args.seats.now.places
    c.set_free.new.self.places c.set_free.new.self.places
    c.hand_on.new.seats.places c.args.seats.now.all_due c.hand_on.new.seats.all_due c.args.number c.requires.may
    c.requires.placed c.set_free.ensures.places
    refl (none_roused (λ waiter. ⊥) c.set_free.new.self.places)
    (none_told c.args.floor.now.board.history c.args.news c.set_free.new.self.places none)
    c.hand_on.ensures.roused
    (handed c.args.floor.now.board c.board.result.now c.args.seats.now.places c.hand_on.new.seats.places c.args.number c.in-Some.waiter
    c.board.ensures.board c.in-Some.ensures c.hand_on.ensures.on)
    (c.hand_on.ensures.due ∙ c.set_free.ensures.due) watched next room

pub tell-requires-clause-placed : goal.tell-requires-clause-placed
tell-requires-clause-placed g c =
    subst (λ (b : Shown g.row.M.Denot). AreAt b.history c.args.seats.now.places) (sym c.board-in-None.ensures.board) c.requires.placed

pub returns-in-None-clause-ends : goal.returns-in-None-clause-ends
returns-in-None-clause-ends g c =
    let olds = c.args.seats.now.places in
    let lates = c.tell.new.seats.places in
    let free = free_unless_waits olds c.args.number c.requires.may c.in-None.ensures in
    record {
      states = roused_states _ olds lates c.tell.ensures.roused
          ∙ (ap states_in (free_same olds c.args.number free) ∙ freed_states olds c.args.number c.requires.may);
      few = subst (λ (b : Shown g.row.M.Denot). RisesFew b.history c.args.news
          (λ on. slice_get (states_in olds) c.args.number ≡ Some (Parked on)) olds lates)
          c.board-in-None.ensures.board
          (told_few c.board-in-None.result.now.history c.args.news _ olds lates c.tell.ensures.roused c.tell.ensures.one);
      asked = asked_roused _ olds olds lates c.args.number (free_asked olds c.args.number free) c.tell.ensures.roused free;
    }

pub returns-in-None-clause-placed : goal.returns-in-None-clause-placed
returns-in-None-clause-placed g c =
    let free = free_unless_waits c.args.seats.now.places c.args.number c.requires.may c.in-None.ensures in
    ended_at _ _ c.args.floor.now.board.history c.args.seats.now.places c.args.seats.now.places
    c.tell.new.seats.places c.tell.new.seats.places
    c.args.number c.requires.placed (free_same c.args.seats.now.places c.args.number free) c.tell.ensures.roused
    (none_roused (λ waiter. ⊥) c.tell.new.seats.places)

pub returns-in-None-clause-kept : goal.returns-in-None-clause-kept
returns-in-None-clause-kept g c = λ before watched next room.
    let free = free_unless_waits c.args.seats.now.places c.args.number c.requires.may c.in-None.ensures in
    ended before c.args.floor.now c.board-in-None.result.now c.args.news _ _ c.args.seats.now.places
    c.args.seats.now.places c.tell.new.seats.places
    c.tell.new.seats.places c.args.seats.now.all_due c.tell.new.seats.all_due c.args.number c.requires.may c.requires.placed
    (free_same c.args.seats.now.places c.args.number free) c.board-in-None.ensures.board c.tell.ensures.roused c.tell.ensures.told
    (none_roused (λ waiter. ⊥) c.tell.new.seats.places)
    (λ own found. absurd (c.in-None.ensures own found)) c.tell.ensures.due watched next room
