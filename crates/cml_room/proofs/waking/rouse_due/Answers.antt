use Rattle.std.proofs.Common.{Bool, slice_get, sym, ap, ◌∙◌}
use Rattle.std.specs.Prelude.{⊤}
use Rattle.cml_room.specs.{place_due}
use Rattle.cml_room.proofs.SleepersLemmas.{roused_alike, roused_due}
use Rattle.cml_room.proofs.WokenLemmas.{roused_keeps}
use Rattle.cml_room.proofs.waking.rouse_due.Goals as goal

pub returns-then-all_due-clause-alike : goal.returns-then-all_due-clause-alike
returns-then-all_due-clause-alike c =
    roused_alike (λ waiter. ⊤) c.args.seats.now.places c.rouse_waiting.new.seats.places c.rouse_waiting.ensures.roused

pub returns-then-all_due-clause-same : goal.returns-then-all_due-clause-same
returns-then-all_due-clause-same c = λ number.
    roused_due (λ waiter. ⊤) c.args.seats.now.places c.rouse_waiting.new.seats.places number
    c.rouse_waiting.ensures.roused c.rouse_waiting.ensures.none
    ∙ ap (λ (all : Bool). place_due all (slice_get c.args.seats.now.places number)) (sym (sym c.all_due.ensures ∙ c.if-all_due.true))

pub returns-then-all_due-clause-woken : goal.returns-then-all_due-clause-woken
returns-then-all_due-clause-woken c =
    roused_keeps (λ waiter. ⊤) c.args.seats.now.places c.rouse_waiting.new.seats.places c.rouse_waiting.ensures.roused
