use Rattle.std.proofs.Common.{◌≡◌, refl, sym, ap, subst, ◌∙◌}
use Rattle.cml_board.specs.{entries_in, HasRoom, full_at}
use Rattle.cml_board.specs.Shown.{Shown}
use Rattle.cml_room.specs.{states_in, AreRoused, OneEach, RisesFew, IsStalled, AreAt}
use Rattle.cml_room.proofs.BringingLemmas.{was_placed}
use Rattle.cml_room.proofs.EndingLemmas.{all_watched, settled, settled_rests, not_full}
use Rattle.cml_room.proofs.IdlingLemmas.{none_waits}
use Rattle.cml_room.proofs.ParkingLemmas.{none_watched}
use Rattle.cml_room.proofs.RisingLemmas.{nobody_few, nobody_risen, told_few}
use Rattle.cml_room.proofs.RousingLemmas.{at_kept, roused_states}
use Rattle.cml_room.proofs.WokenLemmas.{roused_keeps, same_keeps, keeps_on}
use Rattle.cml_room.proofs.turns.settle.Goals as goal
use Rattle.cml_room.proofs.turns.settle.Goals.{then-is_full-via-then-is_full, then-is_full-via-else-is_full+then-is_stalled}

pub tell-requires-clause-placed : goal.tell-requires-clause-placed
tell-requires-clause-placed g c =
    subst (λ (b : Shown g.row.M.Denot). AreAt b.history c.args.seats.now.places) (sym c.board.ensures.board)
    (was_placed _ _ _ _ c.requires.was)

-- no seat waits
pub returns-then-parked-eq0-clause-watched : goal.returns-then-parked-eq0-clause-watched
returns-then-parked-eq0-clause-watched g c =
    none_watched c.args.floor.now c.args.seats.now.places c.args.seats.now.all_due
    (none_waits c.args.seats.now.places (sym c.parked.ensures ∙ c.if-parked-eq0.true))

pub returns-then-parked-eq0-clause-settles : goal.returns-then-parked-eq0-clause-settles
returns-then-parked-eq0-clause-settles g c =
    let olds = c.args.seats.now.places in
    record {
      states = refl;
      woken = λ seat. refl;
      few = nobody_few c.args.floor.now.board.history c.args.news _ olds olds
          (nobody_risen olds olds (none_waits olds (sym c.parked.ensures ∙ c.if-parked-eq0.true)));
      alarm = λ has moves. refl;
    }

-- all that wait are due
pub returns-then-is_full-clause-watched : goal.returns-then-is_full-clause-watched
returns-then-is_full-clause-watched g c =
    all_watched c.args.floor.now c.tell.new.seats.places c.rouse_all.new.self.places c.rouse_all.new.self.all_due
    (at_kept _ c.args.floor.now.board.history c.args.seats.now.places c.tell.new.seats.places c.tell.ensures.roused
    (was_placed _ _ _ _ c.requires.was))
    c.rouse_all.ensures.places c.rouse_all.ensures.due

pub returns-then-is_full-clause-settles : goal.returns-then-is_full-clause-settles
returns-then-is_full-clause-settles g c =
    let olds = c.args.seats.now.places in
    let mids = c.tell.new.seats.places in
    let lates = c.rouse_all.new.self.places in
    let was = c.requires.was in
    record {
      states = ap states_in c.rouse_all.ensures.places ∙ roused_states _ olds mids c.tell.ensures.roused;
      woken = keeps_on olds mids lates (roused_keeps _ olds mids c.tell.ensures.roused) (same_keeps mids lates c.rouse_all.ensures.places);
      few = subst (λ (b : Shown g.row.M.Denot). RisesFew b.history c.args.news (λ on. ⊥) olds lates) c.board.ensures.board
          (told_few c.board.result.now.history c.args.news (λ on. ⊥) olds lates
          (subst (AreRoused _ olds) (sym c.rouse_all.ensures.places) c.tell.ensures.roused)
          (λ single. subst (OneEach olds) (sym c.rouse_all.ensures.places) (c.tell.ensures.one single)));
      alarm = λ room moves. absurd (elim c.then-is_full.branch [
        | then-is_full-via-then-is_full w ↦
            not_full c.args.floor.now.board
            (subst (λ (b : Shown g.row.M.Denot). entries_in b.history ≡ full_at b) c.board-2.ensures.board w.if-is_full.ensures.full) room
        | then-is_full-via-else-is_full+then-is_stalled w ↦
            moves (subst (IsStalled c.args.floor.now) (roused_states _ olds mids c.tell.ensures.roused)
            (w.is_stalled.ensures.all w.if-is_stalled.true (settled_rests was.before c.args.floor.now c.board.result.now c.args.news _ olds
            mids c.args.seats.now.all_due c.tell.new.seats.all_due c.board.ensures.board c.tell.ensures.roused c.tell.ensures.told
            c.tell.ensures.due room was.watched was.follows)))
      ]);
    }

-- those that were told are due
pub returns-else-is_stalled-clause-watched : goal.returns-else-is_stalled-clause-watched
returns-else-is_stalled-clause-watched g c =
    let was = c.requires.was in
    settled was.before c.args.floor.now c.board.result.now c.args.news _ c.args.seats.now.places
    c.tell.new.seats.places c.args.seats.now.all_due
    c.tell.new.seats.all_due (was_placed _ _ _ _ was) c.board.ensures.board c.tell.ensures.roused c.tell.ensures.told c.tell.ensures.due
    (subst (λ (b : Shown g.row.M.Denot). HasRoom b) c.board-2.ensures.board c.if-is_full.ensures.full)
    (c.is_stalled.ensures.none c.if-is_stalled.false) was.watched was.follows

pub returns-else-is_stalled-clause-settles : goal.returns-else-is_stalled-clause-settles
returns-else-is_stalled-clause-settles g c =
    let olds = c.args.seats.now.places in
    let lates = c.tell.new.seats.places in
    record {
      states = roused_states _ olds lates c.tell.ensures.roused;
      woken = roused_keeps _ olds lates c.tell.ensures.roused;
      few = subst (λ (b : Shown g.row.M.Denot). RisesFew b.history c.args.news (λ on. ⊥) olds lates) c.board.ensures.board
          (told_few c.board.result.now.history c.args.news (λ on. ⊥) olds lates c.tell.ensures.roused c.tell.ensures.one);
      alarm = λ has moves. c.tell.ensures.due;
    }
