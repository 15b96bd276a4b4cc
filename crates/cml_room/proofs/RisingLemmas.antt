-- Who becomes due, over what is done with a seat.
use Rattle.std.proofs.Common.{◌≡◌, ◌≢◌, ℕ, ◌⊎◌, inl, inr, Bool, true, false, List, [], ◌∷◌, ◌++◌, get_or, slice_get, slice_set}
use Rattle.std.proofs.Common.{Option, Some, None, refl, sym, ap, subst, ◌∙◌}
use Rattle.std.specs.Option.{option_map}
use Rattle.std.proofs.lemmas.Option.{none-some, same_Some, slice_get-map}
use Rattle.std.proofs.lemmas.Bool.{true≢false, false≢true}
use Rattle.cml_board.specs.{Entry, Want}
use Rattle.cml_board.proofs.ListLemmas.{slice_get-append_some, slice_get-set_other}
use Rattle.cml_lanes.specs.{FloorShown}
use Rattle.cml_lanes.proofs.SlotsLemmas.{this_or_other}
use Rattle.cml_room.specs.declared.news.News.{News}
use Rattle.cml_room.specs.{Notice, Place, Waiter, Helps, state_by, states_in, notice_by, notices_in, is_noted, AreRoused, HasRisen, OneEach}
use Rattle.cml_room.specs.{IsForOne, RisesFew, BecomesDue, WantOf, MakesFewDue, MakesNoneDue, RoomShown, has_notice, freed}
use Rattle.cml_room.specs.declared.notice.Notice.TheVariants.{Nothing, Due, Woken}
use Rattle.cml_room.specs.declared.place.Place.TheVariants.{Free, Waiting, Left}
use Rattle.cml_room.specs.declared.state.State.TheVariants as state
use Rattle.cml_room.proofs.EndingLemmas.{with_freed, freed_here, freed_from, parked_place}
use Rattle.cml_room.proofs.ListingLemmas.{set_here}
use Rattle.cml_room.proofs.RousingLemmas.{waits_on, free_kept, noted_or, not_noted}
use Rattle.cml_room.proofs.TurningLemmas.{room_of}

same_waiter : (one other : Waiter) → Waiting one ≡ Waiting other → one ≡ other
same_waiter one other same = cc

-- a seat that became due is other than it was
pub risen_other : (olds news : List Place) (k : ℕ) (on : Want) → HasRisen olds news k on → slice_get news k ≡ slice_get olds k → ⊥
risen_other olds news k on risen same =
    let is : risen.late ≡ risen.was = same_waiter risen.late risen.was (same_Some _ _ (sym risen.here ∙ (same ∙ risen.quiet.here))) in
    not_noted risen.was.notice risen.quiet.nothing (sym (ap (λ (w : Waiter). is_noted w.notice) is) ∙ risen.due)

pub none_each : (olds news : List Place) → news ≡ olds → OneEach olds news
none_each olds news same = λ one other on first second. absurd (risen_other olds news one on first (ap (λ l. slice_get l one) same))

-- if no seat waited, none became due
pub nobody_risen : (olds news : List Place) → ((k : ℕ) (waiter : Waiter) → slice_get olds k ≢ Some (Waiting waiter))
    → (k : ℕ) (on : Want) → ¬ (HasRisen olds news k on)
nobody_risen olds news none k on risen = none k risen.was risen.quiet.here

-- one more seat: none became due
pub added_none : (places : List Place) (place : Place) (k : ℕ) (on : Want) → ¬ (HasRisen places (places ++ place ∷ []) k on)
added_none places place k on risen =
    risen_other places (places ++ place ∷ []) k on risen
    (slice_get-append_some places (place ∷ []) k (Waiting risen.was) risen.quiet.here ∙ sym risen.quiet.here)

-- where one seat alone is other than it was
pub set_each : (places news : List Place) (number : ℕ) (place : Place) → news ≡ slice_set places number place → OneEach places news
set_each places news number place set = λ one other on first second. here one on first ∙ sym (here other on second)
  where
    here : (k : ℕ) (on : Want) → HasRisen places news k on → k ≡ number
    here k on risen = elim (this_or_other k number) [
      | inl same ↦ same
      | inr other ↦
          absurd (risen_other places news k on risen (ap (λ l. slice_get l k) set ∙ slice_get-set_other places number k place other))
    ]

-- who became due is of those that were roused
pub risen_so : (So : Waiter → Type 0) (olds news : List Place) (k : ℕ) (on : Want) → AreRoused So olds news → HasRisen olds news k on
    → (waiter : Waiter) × So waiter × (waiter.want ≡ on)
risen_so So olds news k on are risen = elim (are.now k (Waiting risen.was) (Waiting risen.late) risen.quiet.here risen.here) [
  | inl same ↦ absurd (risen_other olds news k on risen (risen.here ∙ (ap Some same ∙ sym risen.quiet.here)))
  | inr one ↦ (one.0, one.2, ap (λ (w : Waiter). w.want) (same_waiter one.0 risen.was (sym one.1)) ∙ risen.same)
]

-- some were roused, by what is known of those that wait where they do
pub roused_where : (So To : Waiter → Type 0) (olds news : List Place)
    → ((k : ℕ) (waiter : Waiter) → slice_get olds k ≡ Some (Waiting waiter) → So waiter → To waiter)
    → AreRoused So olds news → AreRoused To olds news
roused_where So To olds news so are = record {
  each = are.each;
  now = λ k old new was is. elim (are.now k old new was is) [
    | inl same ↦ inl same
    | inr one ↦ inr (one.0, one.1, so k one.0 (was ∙ ap Some one.1) one.2, one.3)
  ];
}

-- who became due in two steps did so in one of them
risen_step : (So : Waiter → Type 0) (olds mids news : List Place) (k : ℕ) (on : Want) → AreRoused So olds mids → HasRisen olds news k on
    → HasRisen olds mids k on ⊎ HasRisen mids news k on
risen_step So olds mids news k on first risen =
    let mid = waits_on So olds mids k risen.was first risen.quiet.here in
    elim (noted_or mid.0.notice) [
      | inl nothing ↦ inr (record {
        was = mid.0;
        late = risen.late;
        quiet = record { here = mid.1; nothing = nothing };
        same = mid.2 ∙ risen.same;
        here = risen.here;
        due = risen.due;
      })
      | inr due ↦ inl (record { was = risen.was; late = mid.0; quiet = risen.quiet; same = risen.same; here = mid.1; due = due })
    ]

-- in two steps, for what no waiter wants both
pub twice_each : (So To : Waiter → Type 0) (olds mids news : List Place) → AreRoused So olds mids → AreRoused To mids news
    → ((one other : Waiter) → So one → To other → one.want ≡ other.want → ⊥) → OneEach olds mids → OneEach mids news → OneEach olds news
twice_each So To olds mids news first second apart one_first one_second = λ one other on a b.
    by one other on (risen_step So olds mids news one on first a) (risen_step So olds mids news other on first b)
  where
    clash : (j k : ℕ) (on : Want) → HasRisen olds mids j on → HasRisen mids news k on → ⊥
    clash j k on a b =
        let x = risen_so So olds mids j on first a in
        let y = risen_so To mids news k on second b in
        apart x.0 y.0 x.1 y.1 (x.2 ∙ sym y.2)

    by : (j k : ℕ) (on : Want) → HasRisen olds mids j on ⊎ HasRisen mids news j on
        → HasRisen olds mids k on ⊎ HasRisen mids news k on → j ≡ k
    by j k on (inl a) (inl b) = one_first j k on a b
    by j k on (inr a) (inr b) = one_second j k on a b
    by j k on (inl a) (inr b) = absurd (clash j k on a b)
    by j k on (inr a) (inl b) = absurd (clash k j on b a)

-- who became due waits still, where one seat is free
freed_risen : (So : Waiter → Type 0) (places ends : List Place) (number k : ℕ) (on : Want)
    → slice_get (with_freed places number) number ≡ Some Free
    → AreRoused So (with_freed places number) ends → HasRisen places ends k on → HasRisen (with_freed places number) ends k on
freed_risen So places ends number k on free are risen = elim (this_or_other k number) [
  | inl here ↦
      let is : slice_get ends k ≡ Some Free = ap (slice_get ends) here ∙ free_kept So (with_freed places number) ends number are free in
      absurd (let clash : Free ≡ Waiting risen.late = same_Some _ _ (sym is ∙ risen.here) in cc)
  | inr other ↦ record {
    was = risen.was;
    late = risen.late;
    quiet = record {
      here = slice_get-set_other places number k (freed (get_or places number Free)) other ∙ risen.quiet.here;
      nothing = risen.quiet.nothing;
    };
    same = risen.same;
    here = risen.here;
    due = risen.due;
  }
]

-- the seat began to wait, or is free: none became due
pub set_none : (places news : List Place) (number : ℕ) (place : Place) → news ≡ slice_set places number place
    → ((waiter : Waiter) → slice_get news number ≡ Some (Waiting waiter) → waiter.notice ≡ Nothing)
    → (k : ℕ) (on : Want) → ¬ (HasRisen places news k on)
set_none places news number place set quiet = λ k on risen. elim (this_or_other k number) [
  | inl here ↦ not_noted risen.late.notice (quiet risen.late (ap (slice_get news) (sym here) ∙ risen.here)) risen.due
  | inr other ↦ risen_other places news k on risen (ap (λ l. slice_get l k) set ∙ slice_get-set_other places number k place other)
]

not_noted_is : (notice : Notice) → is_noted notice ≡ false → notice ≡ Nothing
not_noted_is Nothing is = refl
not_noted_is Due is = absurd (true≢false is)
not_noted_is Woken is = absurd (true≢false is)

-- who has a notice waits
noted_place : (o : Option Place) → has_notice (option_map notice_by o) ≡ true
    → (waiter : Waiter) × (o ≡ Some (Waiting waiter)) × (is_noted waiter.notice ≡ true)
noted_place None is = absurd (false≢true is)
noted_place (Some Free) is = absurd (false≢true is)
noted_place (Some Left) is = absurd (false≢true is)
noted_place (Some (Waiting waiter)) is = (waiter, refl, is)

-- no seat became due, and then the seat is free
pub freed_none : (places waiting news : List Place) (number : ℕ) → ((k : ℕ) (on : Want) → ¬ (HasRisen places waiting k on))
    → news ≡ with_freed waiting number
    → (k : ℕ) (on : Want) → ¬ (HasRisen places news k on)
freed_none places waiting news number none set = λ k on risen.
    none k on (record {
      was = risen.was;
      late = risen.late;
      quiet = risen.quiet;
      same = risen.same;
      here = freed_from waiting number k risen.late (ap (λ l. slice_get l k) (sym set) ∙ risen.here);
      due = risen.due;
    })

-- a seat left: none became due
pub left_none : (places news : List Place) (number : ℕ) → news ≡ slice_set places number Left
    → (k : ℕ) (on : Want) → ¬ (HasRisen places news k on)
left_none places news number set =
    set_none places news number Left set (λ waiter found.
    absurd (let clash : Left ≡ Waiting waiter =
    set_here places number Left (Waiting waiter) (ap (λ l. slice_get l number) (sym set) ∙ found) in cc))

module _ {M : Type 0} where
  pub for_one : (history : List (Entry M)) (given : Option News) (news is : News) → given ≡ Some news → news ≡ is
      → IsForOne history given → IsForOne history (Some is)
  for_one history given news is same here single = subst (IsForOne history) (same ∙ ap Some here) single

  -- no seat became due
  pub nobody_few : (history : List (Entry M)) (news : Option News) (Handed : Want → Type 0) (places lates : List Place)
      → ((k : ℕ) (on : Want) → ¬ (HasRisen places lates k on))
      → RisesFew history news Handed places lates
  nobody_few history news Handed places lates none = record {
    why = λ k on risen. absurd (none k on risen);
    one = λ for_one one other on first second. absurd (none one on first);
  }

  -- the seat waited, and the next that waits for the same has its turn
  pub handed_few : (history : List (Entry M)) (news : Option News) (number : ℕ) (own : Waiter) (places mids ends : List Place)
      → slice_get places number ≡ Some (Waiting own)
      → mids ≡ with_freed places number → AreRoused (λ other. other.want ≡ own.want) mids ends → OneEach mids ends
      → RisesFew history news (λ on. slice_get (states_in places) number ≡ Some (state.Parked on)) places ends
  handed_few history news number own places mids ends here set are one = record {
    why = λ k on risen.
        let so = risen_so (λ other. other.want ≡ own.want) (with_freed places number) ends k on from (still k on risen) in
        inr (slice_get-map state_by places number ∙ (ap (option_map state_by) here ∙ ap (λ w. Some (state.Parked w)) (sym so.1 ∙ so.2)));
    one = λ for_one j k on first second. subst (λ l. OneEach l ends) set one j k on (still j on first) (still k on second);
  }
    where
      from : AreRoused (λ other. other.want ≡ own.want) (with_freed places number) ends
      from = subst (λ l. AreRoused (λ other. other.want ≡ own.want) l ends) set are

      parked : slice_get (states_in places) number ≡ Some (state.Parked own.want)
      parked = slice_get-map state_by places number ∙ ap (option_map state_by) here

      still : (k : ℕ) (on : Want) → HasRisen places ends k on → HasRisen (with_freed places number) ends k on
      still k on risen = freed_risen (λ other. other.want ≡ own.want) places ends number k on
          (freed_here places number (inr (own.want, parked))) from risen

  -- who has news was told
  pub told_few : (history : List (Entry M)) (news : Option News) (Handed : Want → Type 0) (places ends : List Place)
      → AreRoused (λ waiter. Helps history news waiter.want) places ends
      → (IsForOne history news → OneEach places ends) → RisesFew history news Handed places ends
  told_few history news Handed places ends are one = record {
    why = λ k on risen.
        let so = risen_so (λ waiter. Helps history news waiter.want) places ends k on are risen in
        inl (subst (λ w. Helps history news w) so.2 so.1);
    one = one;
  }

  -- a seat of the room that became due
  becomes : (floor floor' : FloorShown M) (olds lates : List Place) (all all' : Bool) (k : ℕ) (on : Want)
      → BecomesDue (room_of floor (states_in olds) (notices_in olds) all) (room_of floor' (states_in lates) (notices_in lates) all') k on
      → HasRisen olds lates k on
  becomes floor floor' olds lates all all' k on due =
      let was = parked_place olds k on due.waits in
      let now = noted_place (slice_get lates k) (sym (ap has_notice (slice_get-map notice_by lates k)) ∙ due.now) in
      record {
        was = was.0;
        late = now.0;
        quiet = record {
          here = was.1;
          nothing = not_noted_is was.0.notice
              (sym (ap has_notice (slice_get-map notice_by olds k ∙ ap (option_map notice_by) was.1)) ∙ due.before);
        };
        same = was.2;
        here = now.1;
        due = now.2;
      }

  -- who became due, said of the room
  pub few_due : (room : RoomShown M) (floor floor' : FloorShown M) (olds lates : List Place) (all all' : Bool)
      (Handed : Want → Type 0) (news : Option News)
      → room_of floor (states_in olds) (notices_in olds) all ≡ room → RisesFew floor'.board.history news Handed olds lates
      → MakesFewDue room (room_of floor' (states_in lates) (notices_in lates) all') Handed news
  few_due room floor floor' olds lates all all' Handed news view few =
      let made : MakesFewDue (room_of floor (states_in olds) (notices_in olds) all)
      (room_of floor' (states_in lates) (notices_in lates) all') Handed news = record {
        why = λ k on due. few.why k on (becomes floor floor' olds lates all all' k on due);
        one = λ for_one j k on first second.
            few.one for_one j k on (becomes floor floor' olds lates all all' j on first)
            (becomes floor floor' olds lates all all' k on second);
      } in
      subst (λ (r : RoomShown M). MakesFewDue r (room_of floor' (states_in lates) (notices_in lates) all') Handed news) view made

  -- the same, where the seat hands on what it waited for
  pub few_of : (room : RoomShown M) (floor floor' : FloorShown M) (olds lates : List Place)
      (all all' : Bool) (number : ℕ) (news : Option News)
      → room_of floor (states_in olds) (notices_in olds) all ≡ room
      → RisesFew floor'.board.history news (λ on. slice_get (states_in olds) number ≡ Some (state.Parked on)) olds lates
      → MakesFewDue room (room_of floor' (states_in lates) (notices_in lates) all') (WantOf room number) news
  few_of room floor floor' olds lates all all' number news view few =
      subst (λ (r : RoomShown M). MakesFewDue r (room_of floor' (states_in lates) (notices_in lates) all') (WantOf r number) news) view
      (few_due (room_of floor (states_in olds) (notices_in olds) all) floor floor' olds lates all all'
      (WantOf (room_of floor (states_in olds) (notices_in olds) all) number) news refl few)

  -- no seat became due, said of the room
  pub none_due : (room : RoomShown M) (floor floor' : FloorShown M) (olds lates : List Place) (all all' : Bool)
      → room_of floor (states_in olds) (notices_in olds) all ≡ room → ((k : ℕ) (on : Want) → ¬ (HasRisen olds lates k on))
      → MakesNoneDue room (room_of floor' (states_in lates) (notices_in lates) all')
  none_due room floor floor' olds lates all all' view none =
      let made : MakesNoneDue (room_of floor (states_in olds) (notices_in olds) all)
      (room_of floor' (states_in lates) (notices_in lates) all') =
      λ k on due. none k on (becomes floor floor' olds lates all all' k on due) in
      subst (λ (r : RoomShown M). MakesNoneDue r (room_of floor' (states_in lates) (notices_in lates) all')) view made

  -- where nothing is changed, none did
  pub none_same : (room : RoomShown M) → MakesNoneDue room room
  none_same room = λ k on due. true≢false (sym due.now ∙ due.before)

  -- without news no seat does
  pub none_by : (old new : RoomShown M) → MakesFewDue old new (λ on. ⊥) None → MakesNoneDue old new
  none_by old new few = λ number on due. elim (few.why number on due) [
    | inl helped ↦ absurd (none-some helped.0 helped.1)
    | inr never ↦ never
  ]
