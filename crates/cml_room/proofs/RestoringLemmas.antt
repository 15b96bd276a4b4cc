-- A room whose seats have all left.
use Rattle.std.proofs.Common.{◌≡◌, ℕ, zero, suc, ◌<◌, ◌≤◌, ◌^◌, Bool, true, false, ◌&&◌, List, [], ◌∷◌, length, replicate, slice_get}
use Rattle.std.proofs.Common.{Option, Some, None, inl, inr, refl, sym, ap, subst, ◌∙◌, arith}
use Rattle.std.proofs.lemmas.Option.{same_Some, none-some}
use Rattle.std.proofs.lemmas.List.{length-replicate}
use Rattle.cml_lanes.specs.{FloorShown}
use Rattle.cml_room.specs.{Place, Waiter, State, states_in, is_parked, is_here, behind_gone, row_in, noted_in, IsKept, IsWatched}
use Rattle.cml_room.specs.{free_by, free_in, parked_by, parked_in}
use Rattle.cml_room.specs.Queues.{QueuesShown, has, queue_of}
use Rattle.cml_lanes.proofs.BehindLemmas.{copies_before}
use Rattle.std.proofs.lemmas.Bool.{false≢true, cases_lt}
use Rattle.std.proofs.lemmas.List.Sums.{sum_by-cons}
use Rattle.cml_room.specs.declared.place.Place.TheVariants as place
use Rattle.cml_room.specs.declared.state.State.TheVariants as state

-- none of them waits
none_waits : (count number : ℕ) (waiter : Waiter) → slice_get (replicate count place.Left) number ≡ Some (place.Waiting waiter) → ⊥
none_waits zero number waiter found = none-some (place.Waiting waiter) found
none_waits (suc count) zero waiter found = absurd (let e : place.Left ≡ place.Waiting waiter = same_Some _ _ found in cc)
none_waits (suc count) (suc number) waiter found = none_waits count number waiter found

none_parked : (count number : ℕ) → is_parked (slice_get (replicate count state.Left) number) ≡ false
none_parked zero number = refl
none_parked (suc count) zero = refl
none_parked (suc count) (suc number) = none_parked count number

states_same : (count : ℕ) → states_in (replicate count place.Left) ≡ replicate count state.Left
states_same zero = refl
states_same (suc count) = ap (λ (rest : List State). state.Left ∷ rest) (states_same count)

pub states_left : (places : List Place) (count : ℕ) → places ≡ replicate count place.Left → states_in places ≡ replicate count state.Left
states_left places count left = ap states_in left ∙ states_same count

pub none_due : (places : List Place) (count number : ℕ) (noted : Bool) → places ≡ replicate count place.Left
    → (is_parked (slice_get (states_in places) number) && noted) ≡ false
none_due places count number noted left =
    ap (λ (l : List State). is_parked (slice_get l number) && noted) (states_left places count left)
    ∙ ap (λ (b : Bool). b && noted) (none_parked count number)

module _ {M : Type 0} where
  pub watched_left : (floor : FloorShown M) (places : List Place) (count : ℕ) (all_due : Bool)
      → places ≡ replicate count place.Left → IsWatched floor places all_due
  watched_left floor places count all_due left = subst (λ (l : List Place). IsWatched floor l all_due) (sym left) (record {
    placed = λ number waiter found. absurd (none_waits count number waiter found);
    rests = λ some number waiter quiet. absurd (none_waits count number waiter quiet.here);
    stalls = λ some number waiter quiet. absurd (none_waits count number waiter quiet.here);
  })

-- a seat that has not left is after those that have
pub here_behind : (gone number : ℕ) (places shown : List Place) → behind_gone gone places ≡ shown
    → is_here (slice_get shown number) ≡ true → gone ≤ number
here_behind gone number places shown view here = elim (cases_lt number gone) [
  | inl before ↦ absurd (false≢true (sym (ap is_here (copies_before place.Left gone number places before))
      ∙ (ap (λ (l : List Place). is_here (slice_get l number)) view ∙ here)))
  | inr from ↦ from
]

free_none : (count : ℕ) → free_in (states_in (replicate count place.Left)) ≡ 0
free_none zero = refl
free_none (suc count) = omega (arith, sum_by-cons free_by state.Left (states_in (replicate count place.Left)), free_none count)

parked_none : (count : ℕ) → parked_in (states_in (replicate count place.Left)) ≡ 0
parked_none zero = refl
parked_none (suc count) = omega (arith, sum_by-cons parked_by state.Left (states_in (replicate count place.Left)), parked_none count)

none_in : (by : Option Place → ℕ → Bool) (count number row : ℕ) → ((r : ℕ) → by None r ≡ false)
    → ((r : ℕ) → by (Some place.Left) r ≡ false) → by (slice_get (replicate count place.Left) number) row ≡ false
none_in by zero number row none left = none row
none_in by (suc count) zero row none left = left row
none_in by (suc count) (suc number) row none left = none_in by count number row none left

left_there : (count number : ℕ) → number < count → slice_get (replicate count place.Left) number ≡ Some place.Left
left_there zero number before = absurd (omega (arith, before))
left_there (suc count) zero before = refl
left_there (suc count) (suc number) before = left_there count number (omega (arith, before))

-- what is kept of seats that have all left
pub kept_left : (places : List Place) (count : ℕ) (rows due : QueuesShown) → places ≡ replicate count place.Left
    → length rows.queues ≡ 64 → length due.queues ≡ 2 → ((row : ℕ) → queue_of rows row ≡ []) → ((row : ℕ) → queue_of due row ≡ [])
    → rows.first ≡ count → due.first ≡ count → rows.bound ≡ count → due.bound ≡ count → count < 2 ^ 63
    → IsKept places 0 0 rows due
kept_left places count rows due are many two no_rows no_due row_first due_first row_bound due_bound few =
    subst (λ (l : List Place). IsKept l 0 0 rows due) (sym are) (record {
      counted = sym (free_none count);
      waiting = sym (parked_none count);
      in_rows = λ number row. ap (λ (q : List ℕ). has q number) (no_rows row)
          ∙ sym (none_in row_in count number row (λ r. refl) (λ r. refl));
      in_due = λ number row. ap (λ (q : List ℕ). has q number) (no_due row)
          ∙ sym (none_in noted_in count number row (λ r. refl) (λ r. refl));
      many_rows = many;
      two = two;
      row_for_each = omega (arith, length-replicate count place.Left, row_bound);
      due_for_each = omega (arith, length-replicate count place.Left, due_bound);
      few = omega (arith, length-replicate count place.Left, few);
      row_for_none = λ number before. left_there count number (omega (arith, before, row_first));
      due_for_none = λ number before. left_there count number (omega (arith, before, due_first));
    })
