use Rattle.std.proofs.Common.{rules, ◌≡◌, Bool, true, List, ℕ, refl, subst, sym}
use Rattle.cml_board.specs.{Call}
use Rattle.cml_c.specs.{GivesBytes, MakesBytes, OrNone, call_asked, no_call, number}
use Rattle.cml_c.specs.declared.code.Code.TheVariants.{OutOfBounds}
use Rattle.cml_c.proofs.DoorLemmas.{uncopied}
use Rattle.cml_c.proofs.door_bytes.make_bytes.Goals as goal

pub returns-in-Err : goal.returns-in-Err
returns-in-Err c = let is : c.args.asked.now.takes_bytes ≡ true = search rules in subst
    (λ (takes : Bool). OrNone (λ call. MakesBytes c.args.asked.now.is_again c.args.asked.now.seat c.args.asked.now.sent.now call
    c.tell_uncopied.result (GivesBytes c.args.given.now c.args.given.now c.args.message.now c.args.message.now)
    ((c.args.given.now ≡ c.args.given.now) × (c.args.message.now ≡ c.args.message.now))) (no_call takes) c.tell_uncopied.result
    ((c.args.given.now ≡ c.args.given.now) × (c.args.message.now ≡ c.args.message.now))
    (call_asked takes c.args.asked.now c.args.asked.now.sent.now) c.args.room.now.room c.args.room.now.room) (sym is)
    (uncopied c.args.asked.now.is_again c.args.asked.now.seat c.args.asked.now.sent.now (call_asked true c.args.asked.now c.args.asked.now.sent.now)
    c.in-Err.lacks.want (number c.in-Err.lacks.code) c.tell_uncopied.result OutOfBounds c.args.room.now.room c.args.given.now
    c.args.message.now c.in-Err.ensures.lacks.0 c.in-Err.ensures.lacks.1 c.tell_uncopied.ensures)
