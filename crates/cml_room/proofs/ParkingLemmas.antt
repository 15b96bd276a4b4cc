-- A seat that begins to wait, or waits on.
use Rattle.std.proofs.Common.{◌≡◌, ◌≢◌, ℕ, ◌⊎◌, inl, inr, Bool, false, List, get_or, slice_get, slice_set, Some, refl, sym, ap, subst, ◌∙◌}
use Rattle.std.proofs.lemmas.Option.{same_Some, get_or_from_slice_get}
use Rattle.std.proofs.lemmas.List.{map-set, set-get_or, set-set}
use Rattle.cml_board.specs.{Entry, Want, Fits, wanting}
use Rattle.cml_board.specs.Shown.{Shown}
use Rattle.cml_board.proofs.ListLemmas.{slice_get-set_same, slice_get-set_other}
use Rattle.cml_lanes.specs.{FloorShown}
use Rattle.cml_lanes.proofs.SlotsLemmas.{this_or_other}
use Rattle.cml_room.specs.declared.notice.Notice.TheVariants.{Nothing}
use Rattle.cml_room.specs.{Place, Waiter, State, object_of, source_of, state_by, states_in, quieted, IsMate, IsQuiet, HasRisen, freed}
use Rattle.cml_room.specs.{WouldWait, AreAt, NoneForgotten, IsWatched, MayTurn}
use Rattle.cml_room.specs.declared.place.Place.TheVariants.{Free, Waiting}
use Rattle.cml_room.specs.declared.state.State.TheVariants as state
use Rattle.cml_room.proofs.ListingLemmas.{set_here}
use Rattle.cml_room.proofs.RisingLemmas.{set_none}
use Rattle.cml_room.proofs.EndingLemmas.{with_freed, parked_place, freed_at, freed_here, freed_states, freed_quiet}
use Rattle.cml_room.proofs.EndingLemmas.{mate_stays, would_same, free_moves}

-- the seat is free, or waits for this already
abbrev pub MayWait : List State → ℕ → Want → Type 0
MayWait states number want = (slice_get states number ≡ Some state.Free) ⊎ (slice_get states number ≡ Some (state.Parked want))

pub waits_then : (states : List State) (number : ℕ) (want : Want) → MayWait states number want
    → slice_get (slice_set states number (state.Parked want)) number ≡ Some (state.Parked want)
waits_then states number want (inl free) = slice_get-set_same states number state.Free (state.Parked want) free
waits_then states number want (inr parked) = slice_get-set_same states number (state.Parked want) (state.Parked want) parked

pub waits_unless_free : (states : List State) (number : ℕ) (want : Want) → MayWait states number want
    → ¬ (slice_get states number ≡ Some state.Free)
    → slice_get states number ≡ Some (state.Parked want)
waits_unless_free states number want (inl free) other = absurd (other free)
waits_unless_free states number want (inr parked) other = parked

pub parked_then : (states : List State) (waiting : List Place) (number : ℕ) (want : Want) → MayWait states number want
    → states_in waiting ≡ slice_set states number (state.Parked want) → slice_get (states_in waiting) number ≡ Some (state.Parked want)
parked_then states waiting number want may is = ap (λ l. slice_get l number) is ∙ waits_then states number want may

-- one that waits waits on, and isn't due
pub quieted_is : (places : List Place) (number : ℕ) (own : Waiter) → slice_get places number ≡ Some (Waiting own)
    → slice_set places number (quieted (get_or places number Free)) ≡ slice_set places number (Waiting (record own { notice = Nothing }))
quieted_is places number own found =
    ap (λ p. slice_set places number (quieted p)) (get_or_from_slice_get places number (Waiting own) Free found)

waiting_here : (places : List Place) (number k : ℕ) (own waiter : Waiter) → k ≡ number
    → slice_get (slice_set places number (Waiting own)) k ≡ Some (Waiting waiter) → own ≡ waiter
waiting_here places number k own waiter here found =
    let is : Waiting own ≡ Waiting waiter =
    set_here places number (Waiting own) (Waiting waiter) (ap (slice_get (slice_set places number (Waiting own))) (sym here) ∙ found) in
    cc

-- if no seat waits, the seat is free
pub none_freed : (places : List Place) (number : ℕ) → ((k : ℕ) (waiter : Waiter) → slice_get places k ≢ Some (Waiting waiter))
    → MayTurn (states_in places) number
    → states_in places ≡ slice_set (states_in places) number state.Free
none_freed places number none (inl free) =
    sym (ap (slice_set (states_in places) number) (sym (get_or_from_slice_get (states_in places) number state.Free state.Free free))
    ∙ set-get_or (states_in places) number state.Free)
none_freed places number none (inr parked) =
    let place = parked_place places number parked.0 parked.1 in
    absurd (none number place.0 place.1)

-- the seat that would have waited is free again
pub unparked_states : (states : List State) (waiting news : List Place) (number : ℕ) (want : Want) → MayWait states number want
    → states_in waiting ≡ slice_set states number (state.Parked want) → news ≡ with_freed waiting number
    → states_in news ≡ slice_set states number state.Free
unparked_states states waiting news number want may is set =
    let parked : slice_get (states_in waiting) number ≡ Some (state.Parked want) = parked_then states waiting number want may is in
    ap states_in set ∙ (freed_states waiting number (inr (want, parked))
    ∙ (ap (λ l. slice_set l number state.Free) is ∙ set-set states number (state.Parked want) state.Free))

module _ {M : Type 0} where
  -- if no seat waits, none is forgotten
  pub none_watched : (floor : FloorShown M) (places : List Place) (all_due : Bool)
      → ((k : ℕ) (waiter : Waiter) → slice_get places k ≢ Some (Waiting waiter))
      → IsWatched floor places all_due
  none_watched floor places all_due none = record {
    placed = λ k waiter found. absurd (none k waiter found);
    rests = λ now k waiter quiet. absurd (none k waiter quiet.here);
    stalls = λ now k waiter quiet. absurd (none k waiter quiet.here);
  }

  begun_at : (history : List (Entry M)) (places : List Place) (number : ℕ) (want : Want) (own : Waiter) → own.want ≡ want
      → own.source ≡ source_of history (object_of want)
      → Fits history (wanting want) → AreAt history places → AreAt history (slice_set places number (Waiting own))
  begun_at history places number want own wants source fits at = λ k waiter found. elim (this_or_other k number) [
    | inl here ↦
        let is = waiting_here places number k own waiter here found in
        let same : waiter.want ≡ want = ap (λ (w : Waiter). w.want) (sym is) ∙ wants in (
          subst (λ w. Fits history (wanting w)) (sym same) fits,
          ap (λ (w : Waiter). w.source) (sym is) ∙ (source ∙ ap (λ w. source_of history (object_of w)) (sym same)),
        )
    | inr other ↦ at k waiter (sym (slice_get-set_other places number k (Waiting own) other) ∙ found)
  ]

  -- a mate that was this seat waits for what would wait
  mate_or_would : (board : Shown M) (places news : List Place) (number : ℕ) (want on : Want) → WouldWait board want
      → ((own : Waiter) → slice_get places number ≡ Some (Waiting own) → own.want ≡ want)
      → ((waiter : Waiter) × (slice_get places number ≡ Some (Waiting waiter)) × (waiter.want ≡ on)) ⊎ IsMate news on
      → WouldWait board on ⊎ IsMate news on
  mate_or_would board places news number want on would is (inl own) = inl (would_same board want on (sym (is own.0 own.1) ∙ own.2) would)
  mate_or_would board places news number want on would is (inr mate) = inr mate

  begun_rests : (board : Shown M) (places : List Place) (number : ℕ) (want : Want) (own : Waiter) → own.want ≡ want → WouldWait board want
      → ((waiter : Waiter) → slice_get places number ≡ Some (Waiting waiter) → waiter.want ≡ want)
      → NoneForgotten board places → NoneForgotten board (slice_set places number (Waiting own))
  begun_rests board places number want own wants would is rests = λ k waiter quiet. elim (this_or_other k number) [
    | inl here ↦
        let same = waiting_here places number k own waiter here quiet.here in
        inl (would_same board want waiter.want (sym wants ∙ ap (λ (w : Waiter). w.want) same) would)
    | inr other ↦
        let was : IsQuiet places k waiter =
        record { here = sym (slice_get-set_other places number k (Waiting own) other) ∙ quiet.here; nothing = quiet.nothing } in
        elim (rests k waiter was) [
          | inl still ↦ inl still
          | inr mate ↦
              mate_or_would board places (slice_set places number (Waiting own)) number want waiter.want would is
              (mate_stays places number (Waiting own) waiter.want mate)
        ]
  ]

  -- what holds of the seats of which one began to wait
  pub record Begun (board : Shown M) (places news : List Place) (number : ℕ) (want : Want) : Type 0 where
    pub states : states_in news ≡ slice_set (states_in places) number (state.Parked want)
    pub placed : AreAt board.history news
    pub rests : NoneForgotten board places → NoneForgotten board news
    pub none : (k : ℕ) (on : Want) → ¬ (HasRisen places news k on)

  begun : (board : Shown M) (places news : List Place) (number : ℕ) (want : Want) (own : Waiter)
      → news ≡ slice_set places number (Waiting own) → own.want ≡ want
      → own.source ≡ source_of board.history (object_of want) → own.notice ≡ Nothing
      → ((waiter : Waiter) → slice_get places number ≡ Some (Waiting waiter) → waiter.want ≡ want)
      → WouldWait board want → AreAt board.history places → Begun board places news number want
  begun board places news number want own set wants source nothing is would at =
      subst (λ l. Begun board places l number want) (sym set) (record {
        states = map-set state_by places number (Waiting own) ∙ ap (λ w. slice_set (states_in places) number (state.Parked w)) wants;
        placed = begun_at board.history places number want own wants source would.waits.0 at;
        rests = begun_rests board places number want own wants would is;
        none = set_none places (slice_set places number (Waiting own)) number (Waiting own) refl
            (λ waiter found. ap (λ (w : Waiter). w.notice) (sym (waiting_here places number number own waiter refl found)) ∙ nothing);
      })

  -- a free seat began to wait
  pub free_begun : (board shown : Shown M) (places news : List Place) (number : ℕ) (want : Want) (object source : ℕ)
      → slice_get places number ≡ Some Free
      → news ≡ slice_set places number (Waiting (record { want = want; source = source; notice = Nothing }))
      → shown ≡ board → object ≡ object_of want
      → source ≡ source_of shown.history object → WouldWait board want → AreAt board.history places → Begun board places news number want
  free_begun board shown places news number want object source free set same at_object from would at =
      begun board places news number want (record { want = want; source = source; notice = Nothing }) set refl
      (from ∙ (ap (λ (b : Shown M). source_of b.history object) same ∙ ap (source_of board.history) at_object)) refl
      (λ waiter found. absurd (let clash : Free ≡ Waiting waiter = same_Some Free (Waiting waiter) (sym free ∙ found) in cc)) would at

  -- one that waits waits on
  pub waits_begun : (board : Shown M) (places news : List Place) (number : ℕ) (want : Want)
      → slice_get (states_in places) number ≡ Some (state.Parked want)
      → news ≡ slice_set places number (quieted (get_or places number Free)) → WouldWait board want → AreAt board.history places
      → Begun board places news number want
  waits_begun board places news number want parked set would at =
      let place = parked_place places number want parked in
      begun board places news number want (record place.0 { notice = Nothing }) (set ∙ quieted_is places number place.0 place.1) place.2
      ((at number place.0 place.1).1 ∙ ap (λ w. source_of board.history (object_of w)) place.2) refl
      (λ waiter found.
      let is : Waiting place.0 ≡ Waiting waiter = same_Some (Waiting place.0) (Waiting waiter) (sym place.1 ∙ found) in
      let same : waiter.want ≡ place.0.want = cc in
      same ∙ place.2) would at

  -- and no seat is forgotten then
  unparked_rests : (board : Shown M) (waiting : List Place) (number : ℕ) (want : Want)
      → slice_get (states_in waiting) number ≡ Some (state.Parked want) → WouldWait board want
      → NoneForgotten board waiting → NoneForgotten board (with_freed waiting number)
  unparked_rests board waiting number want parked would rests = λ k waiter quiet.
      let place = parked_place waiting number want parked in
      elim (rests k waiter (freed_quiet waiting number k waiter quiet)) [
        | inl still ↦ inl still
        | inr mate ↦
            mate_or_would board waiting (with_freed waiting number) number want waiter.want would
            (λ own found.
            let is : Waiting place.0 ≡ Waiting own = same_Some (Waiting place.0) (Waiting own) (sym place.1 ∙ found) in
            let same : own.want ≡ place.0.want = cc in
            same ∙ place.2)
            (mate_stays waiting number (freed (get_or waiting number Free)) waiter.want mate)
      ]

  pub unparked : (floor : FloorShown M) (states : List State) (waiting news : List Place) (all_due all_due' : Bool) (number : ℕ)
      (want : Want) → MayWait states number want
      → states_in waiting ≡ slice_set states number (state.Parked want) → news ≡ with_freed waiting number → WouldWait floor.board want
      → AreAt floor.board.history waiting → (all_due ≡ false → NoneForgotten floor.board waiting)
      → all_due' ≡ all_due → IsWatched floor news all_due'
  unparked floor states waiting news all_due all_due' number want may is set would at rests due =
      let parked : slice_get (states_in waiting) number ≡ Some (state.Parked want) = parked_then states waiting number want may is in
      subst (λ l. IsWatched floor l all_due') (sym set) (record {
        placed = freed_at floor.board.history waiting (with_freed waiting number) number refl at;
        rests = λ none. unparked_rests floor.board waiting number want parked would (rests (sym due ∙ none));
        stalls =
            λ none k waiter quiet. free_moves floor (with_freed waiting number) number (freed_here waiting number (inr (want, parked)));
      })
