-- Whether anybody can go on, told by those that are due alone.
use Rattle.std.proofs.Common.{◌≡◌, ℕ, ◌<◌, inl, inr, Bool, true, false, MatchBool, List, length, get_or, slice_get}
use Rattle.std.proofs.Common.{Option, Some, refl, ap, subst, ◌∙◌, arith}
use Rattle.std.specs.Option.{option_map}
use Rattle.std.proofs.lemmas.Option.{slice_get-map, slice_get_within, get_or_from_slice_get}
use Rattle.std.proofs.lemmas.List.{length-map}
use Rattle.std.proofs.lemmas.List.Sums.{sum_by-set}
use Rattle.std.proofs.lemmas.Bool.{false≢true}
use Rattle.cml_board.specs.{Entry, Want, Waits}
use Rattle.cml_board.specs.Shown.{Shown}
use Rattle.cml_room.specs.Queues.{QueuesShown, is_in}
use Rattle.cml_room.specs.{Notice, Place, Waiter, state_by, states_in, is_noted, noted_as, noted_in, AreListed, free_by, free_in, IsIdle}
use Rattle.cml_room.specs.{AreIdle, NoneForgotten}
use Rattle.cml_room.specs.declared.notice.Notice.TheVariants.{Nothing, Due, Woken}
use Rattle.cml_room.specs.declared.place.Place.TheVariants.{Free, Waiting, Left}
use Rattle.cml_room.specs.declared.state.State.TheVariants as state
use Rattle.cml_room.proofs.IdlingLemmas.{all_idle}

pub on_true : (A B : Type 0) (b : Bool) → MatchBool b A B → b ≡ true → A
on_true A B true fact is = fact
on_true A B false fact is = absurd (false≢true is)

-- no seat is free where none is counted
pub none_free : (places : List Place) (k : ℕ) → free_in (states_in places) ≡ 0 → slice_get places k ≡ Some Free → ⊥
none_free places k none found =
    let within : k < length (states_in places) = omega (arith, slice_get_within places k Free found, length-map places state_by) in
    let was : get_or (states_in places) k state.Free ≡ state.Free =
    get_or_from_slice_get (states_in places) k state.Free state.Free (slice_get-map state_by places k ∙ ap (option_map state_by) found) in
    absurd (omega (arith, none, sum_by-set free_by (states_in places) k state.Left state.Free within, ap free_by was))

module _ {M : Type 0} where
  -- who is due is in one of the two queues
  noted_waits : (history : List (Entry M)) (notice : Notice) (on : Want) → (noted_as notice 1 ≡ true → Waits history on)
      → (noted_as notice 0 ≡ true → Waits history on)
      → is_noted notice ≡ true → Waits history on
  noted_waits history Nothing on woken due is = absurd (false≢true is)
  noted_waits history Due on woken due is = due refl
  noted_waits history Woken on woken due is = woken refl

  -- no seat can go on if none is free, and each that is due would wait
  pub idle_by_due : (board : Shown M) (places : List Place) (queues : QueuesShown) → free_in (states_in places) ≡ 0
      → NoneForgotten board places → AreListed queues noted_in places
      → ((k : ℕ) → is_in queues 1 k ≡ true → (waiter : Waiter) → slice_get places k ≡ Some (Waiting waiter)
      → Waits board.history waiter.want)
      → ((k : ℕ) → is_in queues 0 k ≡ true → (waiter : Waiter) → slice_get places k ≡ Some (Waiting waiter)
      → Waits board.history waiter.want)
      → AreIdle board.history (states_in places)
  idle_by_due board places queues none rests listed in_woken in_due = all_idle board.history places each
    where
      noted : (queue k : ℕ) (waiter : Waiter) → slice_get places k ≡ Some (Waiting waiter) → noted_as waiter.notice queue ≡ true
          → is_in queues queue k ≡ true
      noted queue k waiter found is = listed k queue ∙ (ap (λ (o : Option Place). noted_in o queue) found ∙ is)

      woken : (k : ℕ) (waiter : Waiter) → slice_get places k ≡ Some (Waiting waiter) → noted_as waiter.notice 1 ≡ true
          → Waits board.history waiter.want
      woken k waiter found is = in_woken k (noted 1 k waiter found is) waiter found

      due : (k : ℕ) (waiter : Waiter) → slice_get places k ≡ Some (Waiting waiter) → noted_as waiter.notice 0 ≡ true
          → Waits board.history waiter.want
      due k waiter found is = in_due k (noted 0 k waiter found is) waiter found

      quiet_waits : (k : ℕ) (waiter : Waiter) → slice_get places k ≡ Some (Waiting waiter)
          → waiter.notice ≡ Nothing → Waits board.history waiter.want
      quiet_waits k waiter found nothing = elim (rests k waiter (record { here = found; nothing = nothing })) [
        | inl would ↦ would.waits
        | inr mate ↦
            subst (Waits board.history) mate.same
            (noted_waits board.history mate.waiter.notice mate.waiter.want (woken mate.number mate.waiter mate.here)
            (due mate.number mate.waiter mate.here) mate.due)
      ]

      by_notice : (k : ℕ) (waiter : Waiter) (notice : Notice) → waiter.notice ≡ notice
          → slice_get places k ≡ Some (Waiting waiter) → Waits board.history waiter.want
      by_notice k waiter Nothing is found = quiet_waits k waiter found is
      by_notice k waiter Due is found = due k waiter found (ap (λ n. noted_as n 0) is)
      by_notice k waiter Woken is found = woken k waiter found (ap (λ n. noted_as n 1) is)

      each : (k : ℕ) (place : Place) → slice_get places k ≡ Some place → IsIdle board.history (state_by place)
      each k Free found = absurd (none_free places k none found)
      each k (Waiting waiter) found = by_notice k waiter waiter.notice refl found
      each k Left found = tt

  -- nor if each that waits would wait
  pub idle_by_waiting : (history : List (Entry M)) (places : List Place) → free_in (states_in places) ≡ 0
      → ((k : ℕ) (waiter : Waiter) → slice_get places k ≡ Some (Waiting waiter) → Waits history waiter.want)
      → AreIdle history (states_in places)
  idle_by_waiting history places none waits = all_idle history places each
    where
      each : (k : ℕ) (place : Place) → slice_get places k ≡ Some place → IsIdle history (state_by place)
      each k Free found = absurd (none_free places k none found)
      each k (Waiting waiter) found = waits k waiter found
      each k Left found = tt
