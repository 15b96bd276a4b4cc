use Rattle.std.proofs.Common.{◌≡◌, true, List, slice_get, slice_set, Some, refl, sym, ap, subst, ◌∙◌}
use Rattle.std.proofs.lemmas.List.{set-set}
use Rattle.cml_board.proofs.ListLemmas.{slice_get-set_same}
use Rattle.cml_room.specs.{Place, IsKept, Waiter, noted_as, noted_in, notice_in, AreListed, SeatsShown, WakesNext}
use Rattle.cml_room.specs.declared.notice.Notice.TheVariants as notice
use Rattle.cml_room.specs.declared.place.Place.TheVariants as place
use Rattle.cml_room.specs.Queues.{queue_of, is_in}
use Rattle.cml_room.proofs.ListingLemmas.{listed_push, listed_remove, has_at, unwoken_waits, not_due, kept_noticed}
use Rattle.cml_room.proofs.seats.Seats.wake_next.Goals.{In_ok-number, In-Some}
use Rattle.cml_room.proofs.seats.Seats.wake_next.Goals as goal

pub returns-in_err-number-clause-woken : goal.returns-in_err-number-clause-woken
returns-in_err-number-clause-woken c =
    subst (WakesNext c.args.self.now.places c.args.self.now.places) (sym c.from_residual.ensures) (
      refl,
      λ number waiter is.
          let here : slice_get c.self.inside.places number ≡ Some (place.Waiting waiter) =
          ap (λ (v : SeatsShown). slice_get v.places number) c.self.view_is ∙ is in
          not_due (queue_of c.self.inside.due 0) number (slice_get c.self.inside.places number) waiter
          (c.self.invariant.in_due number 0)
          (sym c.in_err-number.ensures.first) here,
    )

-- the seat is in the row of those that `next_due` has not returned
listed : (c : In_ok-number) → is_in c.self.inside.due 0 c.in_ok-number.number ≡ true
listed c = has_at (queue_of c.self.inside.due 0) 0 c.in_ok-number.number (sym c.in_ok-number.ensures.first)

-- so it waits, and is due
waits : (c : In_ok-number) → (waiter : Waiter)
    × (slice_get c.self.inside.places c.in_ok-number.number ≡ Some (place.Waiting waiter)) × (waiter.notice ≡ notice.Due)
waits c = unwoken_waits (slice_get c.self.inside.places c.in_ok-number.number)
    (sym (c.self.invariant.in_due c.in_ok-number.number 0) ∙ listed c)

pub unreachable-requires : goal.unreachable-requires
unreachable-requires c =
    let at = (goal.at.unreachable-requires c).In_ok-number in
    c.in_default.ensures (waits at).0 (waits at).1

pub remove-requires : goal.remove-requires
remove-requires c = listed (goal.at.remove-requires c).In_ok-number

pub invariant_of-self : goal.invariant_of-self
invariant_of-self c =
    let number = c.in_ok-number.number in
    let at = (goal.at.invariant_of-self c).In_ok-number in
    let was = c.in-Some.ensures in
    let due : c.in-Some.waiter.notice ≡ notice.Due = ap notice_in (sym was ∙ (waits at).1) ∙ (waits at).2 in
    let quiet =
    listed_remove c.self.inside.due c.remove.new.self noted_in c.self.inside.places 0 number (place.Waiting c.in-Some.waiter)
    (place.Waiting (record c.in-Some.waiter { notice = notice.Nothing })) was c.self.invariant.in_due
    (λ r. ap (λ n. noted_as n r) due) (λ r. refl)
    c.remove.ensures.gone c.remove.ensures.kept c.remove.ensures.others in
    subst (λ (l : List Place). IsKept l c.self.inside.free c.self.inside.parked c.self.inside.rows c.push.new.self) (sym c.set.ensures)
    (kept_noticed number c.in-Some.waiter notice.Woken was c.self.invariant
    (subst (AreListed c.push.new.self noted_in) (set-set c.self.inside.places number _ _)
    (listed_push c.remove.new.self c.push.new.self noted_in (slice_set c.self.inside.places number _) 1 number _ _
    (slice_get-set_same c.self.inside.places number _ _ was) quiet (λ r. refl) (λ r. refl) c.push.ensures.here c.push.ensures.others))
    (c.push.ensures.count ∙ c.remove.ensures.count) (c.push.ensures.bound ∙ c.remove.ensures.bound)
    (c.push.ensures.first ∙ c.remove.ensures.first))

pub returns-clause-woken : goal.returns-clause-woken
returns-clause-woken c =
    let number = c.in_ok-number.number in
    let at = (goal.at.returns-clause-woken c).In_ok-number in
    let was = c.in-Some.ensures in
    let due : c.in-Some.waiter.notice ≡ notice.Due = ap notice_in (sym was ∙ (waits at).1) ∙ (waits at).2 in (
      c.in-Some.waiter,
      ap (λ (v : SeatsShown). slice_get v.places number) (sym c.self.view_is) ∙ was,
      due,
      c.set.ensures ∙ ap (λ (v : SeatsShown). slice_set v.places number (place.Waiting (record c.in-Some.waiter { notice = notice.Woken })))
          c.self.view_is,
    )
