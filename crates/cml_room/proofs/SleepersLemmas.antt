-- Who sleeps rightly, over what is done with a seat.
use Rattle.std.proofs.Common.{◌≡◌, ◌≢◌, ℕ, inl, inr, Bool, true, false, List, [], ◌∷◌, ◌++◌, length, slice_get, slice_set, Option}
use Rattle.std.proofs.Common.{Some, None, IfSome, IfNone, refl, sym, ap, subst, ◌∙◌, arith}
use Rattle.std.specs.Prelude.{◌&&◌, ◌||◌}
use Rattle.std.specs.Option.{option_map}
use Rattle.std.proofs.lemmas.Option.{none-some, same_Some, slice_get-map, slice_get_past, get_or_from_slice_get}
use Rattle.std.proofs.lemmas.Bool.{true≢false, false≢true}
use Rattle.std.proofs.lemmas.List.{map-set, set-get_or}
use Rattle.cml_board.specs.{Entry, Want, Fits, wanting}
use Rattle.cml_board.proofs.ListLemmas.{slice_get-set_same, slice_get-set_other, slice_get-append_some, pushed_cases, slice_get_pushed}
use Rattle.cml_lanes.specs.{FloorShown}
use Rattle.cml_lanes.proofs.SlotsLemmas.{this_or_other}
use Rattle.cml_room.specs.{Notice, Place, Waiter, State, object_of, source_of, state_by, states_in, notice_by, notices_in, is_noted}
use Rattle.cml_room.specs.{place_due, AreAlike, AreRoused, IsMate, IsQuiet, free_in, WakesNext, IsStalled, is_parked, has_notice, is_due}
use Rattle.cml_room.specs.{SleepsRightly, WouldWait, AreAt, IsWatched}
use Rattle.cml_room.specs.declared.notice.Notice.TheVariants.{Nothing, Due, Woken}
use Rattle.cml_room.specs.declared.place.Place.TheVariants.{Free, Waiting, Left}
use Rattle.cml_room.specs.declared.state.State.TheVariants as state
use Rattle.cml_room.proofs.IdlingLemmas.{idle_none, idle_at}
use Rattle.cml_room.proofs.ListingLemmas.{set_here}
use Rattle.cml_room.proofs.RousingLemmas.{waited, waits_on, woken_on, roused_to, free_kept, roused_states, noted_or, not_noted}
use Rattle.cml_room.proofs.TurningLemmas.{room_of}
use Rattle.cml_room.proofs.WalkingLemmas.{past_none}

-- seats of which some were roused are alike
pub roused_alike : (So : Waiter → Type 0) (olds news : List Place) → AreRoused So olds news → AreAlike olds news
roused_alike So olds news roused = record {
  states = roused_states So olds news roused;
  back = λ number waiter is. waited So olds news number waiter roused is;
  on = λ number old was. waits_on So olds news number old roused was;
  woken = λ number old was woken. woken_on So olds news number old roused was woken;
}

pub none_alike : (places : List Place) → AreAlike places places
none_alike places = record {
  states = refl;
  back = λ number waiter is. (waiter, is, refl, refl, λ nothing. nothing);
  on = λ number old was. (old, was, refl, λ due. due);
  woken = λ number old was woken. (old, was, woken);
}

same_waiter : (one other : Waiter) → Waiting one ≡ Waiting other → one ≡ other
same_waiter one other same = cc

-- a seat that waits and is other than it was, in its notice alone
pub set_alike : (places : List Place) (number : ℕ) (old new : Waiter) → slice_get places number ≡ Some (Waiting old)
    → new.want ≡ old.want → new.source ≡ old.source
    → (new.notice ≡ Nothing → old.notice ≡ Nothing) → (is_noted old.notice ≡ true → is_noted new.notice ≡ true)
    → (old.notice ≡ Woken → new.notice ≡ Woken)
    → AreAlike places (slice_set places number (Waiting new))
set_alike places number old new found want source back on woken = record {
  states = map-set state_by places number (Waiting new)
      ∙ (ap (λ w. slice_set (states_in places) number (state.Parked w)) want ∙ set_same (states_in places) number (state.Parked old.want)
      (slice_get-map state_by places number ∙ ap (option_map state_by) found));
  back = λ k waiter is. elim (this_or_other k number) [
    | inl here ↦
        let same : new ≡ waiter = same_waiter new waiter (set_here places number (Waiting new) (Waiting waiter)
        (ap (slice_get (slice_set places number (Waiting new))) (sym here) ∙ is)) in (
          old,
          ap (slice_get places) here ∙ found,
          sym want ∙ ap (λ (w : Waiter). w.want) same,
          sym source ∙ ap (λ (w : Waiter). w.source) same,
          λ nothing. back (ap (λ (w : Waiter). w.notice) same ∙ nothing),
        )
    | inr other ↦ (waiter, sym (slice_get-set_other places number k (Waiting new) other) ∙ is, refl, refl, λ nothing. nothing)
  ];
  on = λ k was found'. elim (this_or_other k number) [
    | inl here ↦
        let same : old ≡ was = same_waiter old was (same_Some _ _ (sym found ∙ ap (slice_get places) (sym here) ∙ found')) in (
          new,
          ap (slice_get (slice_set places number (Waiting new))) here ∙ slice_get-set_same places number (Waiting old) (Waiting new) found,
          want ∙ ap (λ (w : Waiter). w.want) same,
          λ due. on (ap (λ (w : Waiter). is_noted w.notice) same ∙ due),
        )
    | inr other ↦ (was, slice_get-set_other places number k (Waiting new) other ∙ found', refl, λ due. due)
  ];
  woken = λ k was found' is. elim (this_or_other k number) [
    | inl here ↦
        let same : old ≡ was = same_waiter old was (same_Some _ _ (sym found ∙ ap (slice_get places) (sym here) ∙ found')) in (
          new,
          ap (slice_get (slice_set places number (Waiting new))) here ∙ slice_get-set_same places number (Waiting old) (Waiting new) found,
          woken (ap (λ (w : Waiter). w.notice) same ∙ is),
        )
    | inr other ↦ (was, slice_get-set_other places number k (Waiting new) other ∙ found', is)
  ];
}
  where
    set_same : (states : List State) (k : ℕ) (s : State) → slice_get states k ≡ Some s → slice_set states k s ≡ states
    set_same states k s is = ap (slice_set states k) (sym (get_or_from_slice_get states k s s is)) ∙ set-get_or states k s

-- the seat that wakes next stays due
pub wakes_alike : (olds news : List Place) (given : Option ℕ) → WakesNext olds news given → AreAlike olds news
wakes_alike olds news (Some number) woken =
    subst (AreAlike olds) (sym woken.3)
    (set_alike olds number woken.0 (record woken.0 { notice = Woken }) woken.1 refl refl
    (λ clash. absurd (not_noted Woken clash refl)) (λ due. refl) (λ was. refl))
wakes_alike olds news None woken = subst (AreAlike olds) (sym woken.0) (none_alike olds)

pub alike_quiet : (olds news : List Place) (number : ℕ) (waiter : Waiter) → AreAlike olds news → IsQuiet news number waiter
    → (old : Waiter) × IsQuiet olds number old × (old.want ≡ waiter.want)
alike_quiet olds news number waiter alike quiet =
    let was = alike.back number waiter quiet.here in
    (was.0, record { here = was.1; nothing = was.4 quiet.nothing }, was.2)

pub alike_mate : (olds news : List Place) (on : Want) → AreAlike olds news → IsMate olds on → IsMate news on
alike_mate olds news on alike mate =
    let is = alike.on mate.number mate.waiter mate.here in
    record { number = mate.number; waiter = is.0; here = is.1; same = is.2 ∙ mate.same; due = is.3 mate.due }

-- whether a seat is due, told by its place
due_by : (all : Bool) (o : Option Place)
    → (is_parked (option_map state_by o) && (all || has_notice (option_map notice_by o))) ≡ place_due all o
due_by all None = refl
due_by all (Some Free) = refl
due_by all (Some (Waiting waiter)) = refl
due_by all (Some Left) = refl

not_due : (all : Bool) (notice : Notice) → (all || is_noted notice) ≡ false → (all ≡ false) × (notice ≡ Nothing)
not_due true notice is = absurd (true≢false is)
not_due false Nothing is = (refl, refl)
not_due false Due is = absurd (true≢false is)
not_due false Woken is = absurd (true≢false is)

parked_place : (o : Option Place) (on : Want) → option_map state_by o ≡ Some (state.Parked on)
    → (waiter : Waiter) × (o ≡ Some (Waiting waiter)) × (waiter.want ≡ on)
parked_place None on is = absurd (none-some _ is)
parked_place (Some Free) on is = absurd (let clash : state.Free ≡ state.Parked on = same_Some _ _ is in cc)
parked_place (Some Left) on is = absurd (let clash : state.Left ≡ state.Parked on = same_Some _ _ is in cc)
parked_place (Some (Waiting waiter)) on is = (waiter, refl, let same : state.Parked waiter.want ≡ state.Parked on = same_Some _ _ is in cc)

not_set : (places : List Place) (seat number : ℕ) (waiter : Waiter) → slice_get (slice_set places seat Left) number ≡ Some (Waiting waiter)
    → slice_get places number ≡ Some (Waiting waiter)
not_set places seat number waiter is = elim (this_or_other number seat) [
  | inl here ↦ absurd (let clash : Left ≡ Waiting waiter =
      set_here places seat Left (Waiting waiter) (ap (slice_get (slice_set places seat Left)) (sym here) ∙ is) in cc)
  | inr other ↦ sym (slice_get-set_other places seat number Left other) ∙ is
]

-- where none that waits is quiet, who is due has a notice
pub roused_due : (So : Waiter → Type 0) (olds news : List Place) (number : ℕ) → AreRoused So olds news
    → ((k : ℕ) (waiter : Waiter) → ¬ (IsQuiet news k waiter))
    → place_due false (slice_get news number) ≡ place_due true (slice_get olds number)
roused_due So olds news number roused none = by_old (slice_get olds number) refl
  where
    by_old : (o : Option Place) → slice_get olds number ≡ o
        → place_due false (slice_get news number) ≡ place_due true (slice_get olds number)
    by_old None was =
        ap (place_due false) (slice_get_past news number (omega (arith, past_none olds number was, roused.each)))
        ∙ sym (ap (place_due true) was)
    by_old (Some (Waiting waiter)) was =
        let to = waits_on So olds news number waiter roused was in
        elim (noted_or to.0.notice) [
          | inl nothing ↦ absurd (none number to.0 (record { here = to.1; nothing = nothing }))
          | inr due ↦ ap (place_due false) to.1 ∙ (due ∙ sym (ap (place_due true) was))
        ]
    by_old (Some Free) was = ap (place_due false) (free_kept So olds news number roused was) ∙ sym (ap (place_due true) was)
    by_old (Some Left) was =
        let to = roused_to So olds news number Left roused was in
        elim to.2 [
          | inl same ↦ ap (place_due false) (to.1 ∙ ap Some same) ∙ sym (ap (place_due true) was)
          | inr one ↦ absurd (let clash : Left ≡ Waiting one.0 = one.1 in cc)
        ]

notice_at : (places : List Place) (number : ℕ) (waiter : Waiter) → slice_get places number ≡ Some (Waiting waiter)
    → slice_get (notices_in places) number ≡ Some waiter.notice
notice_at places number waiter found = slice_get-map notice_by places number ∙ ap (option_map notice_by) found

-- whether a seat is due is what it was before one was woken
wake_due : (mids news : List Place) (given : Option ℕ) (number : ℕ) → WakesNext mids news given
    → place_due false (slice_get news number) ≡ place_due false (slice_get mids number)
wake_due mids news None number woken = ap (λ l. place_due false (slice_get l number)) woken.0
wake_due mids news (Some k) number woken = elim (this_or_other number k) [
  | inl here ↦
      ap (λ l. place_due false (slice_get l number)) woken.3
      ∙ (ap (place_due false) (ap (slice_get (slice_set mids k (Waiting (record woken.0 { notice = Woken })))) here
      ∙ slice_get-set_same mids k (Waiting woken.0) (Waiting (record woken.0 { notice = Woken })) woken.1)
      ∙ sym (ap (place_due false) (ap (slice_get mids) here ∙ woken.1) ∙ ap is_noted woken.2))
  | inr other ↦
      ap (λ l. place_due false (slice_get l number)) woken.3
      ∙ ap (place_due false) (slice_get-set_other mids k number (Waiting (record woken.0 { notice = Woken })) other)
]

all_woken : (o : Option Place) → ((waiter : Waiter) → o ≡ Some (Waiting waiter) → ¬ (waiter.notice ≡ Due)) → place_due false o ≡ true
    → option_map notice_by o ≡ Some Woken
all_woken None none is = absurd (false≢true is)
all_woken (Some Free) none is = absurd (false≢true is)
all_woken (Some Left) none is = absurd (false≢true is)
all_woken (Some (Waiting waiter)) none is = by_notice waiter.notice refl is
  where
    by_notice : (notice : Notice) → waiter.notice ≡ notice → is_noted notice ≡ true → Some waiter.notice ≡ Some Woken
    by_notice Nothing same is = absurd (false≢true is)
    by_notice Due same is = absurd (none waiter refl same)
    by_notice Woken same is = ap Some same

free_by_state : (o : Option Place) → option_map state_by o ≡ Some state.Free → o ≡ Some Free
free_by_state None is = absurd (none-some _ is)
free_by_state (Some Free) is = refl
free_by_state (Some Left) is = absurd (let clash : state.Left ≡ state.Free = same_Some _ _ is in cc)
free_by_state (Some (Waiting waiter)) is = absurd (let clash : state.Parked waiter.want ≡ state.Free = same_Some _ _ is in cc)

pub free_place : (places : List Place) (number : ℕ) → slice_get (states_in places) number ≡ Some state.Free
    → slice_get places number ≡ Some Free
free_place places number is = free_by_state (slice_get places number) (sym (slice_get-map state_by places number) ∙ is)

module _ {M : Type 0} where
  pub due_is : (floor : FloorShown M) (places : List Place) (all : Bool) (number : ℕ)
      → is_due (room_of floor (states_in places) (notices_in places) all) number ≡ place_due all (slice_get places number)
  due_is floor places all number =
      ap (λ (s : Option State). is_parked s && (all || has_notice (slice_get (notices_in places) number)))
      (slice_get-map state_by places number)
      ∙ (ap (λ (n : Option Notice). is_parked (option_map state_by (slice_get places number)) && (all || has_notice n))
      (slice_get-map notice_by places number)
      ∙ due_by all (slice_get places number))

  -- a seat that waits and isn't due sleeps rightly
  pub sleeps : (floor : FloorShown M) (places : List Place) (all : Bool) (number : ℕ) (on : Want) → IsWatched floor places all
      → place_due all (slice_get places number) ≡ false → slice_get (states_in places) number ≡ Some (state.Parked on)
      → SleepsRightly (room_of floor (states_in places) (notices_in places) all) on
  sleeps floor places all number on watched isnt parked =
      let here = parked_place (slice_get places number) on (sym (slice_get-map state_by places number) ∙ parked) in
      let undue = not_due all here.0.notice (sym (ap (place_due all) here.1) ∙ isnt) in
      let quiet : IsQuiet places number here.0 = record { here = here.1; nothing = undue.1 } in
      record {
        rests = elim (watched.rests undue.0 number here.0 quiet) [
          | inl would ↦ inl (subst (WouldWait floor.board) here.2 would)
          | inr mate ↦ inr (record {
            number = mate.number;
            waits = slice_get-map state_by places mate.number
                ∙ (ap (option_map state_by) mate.here ∙ ap (λ w. Some (state.Parked w)) (mate.same ∙ here.2));
            due = due_is floor places all mate.number ∙ (ap (place_due all) mate.here ∙ or_noted all mate.waiter.notice mate.due);
          })
        ];
        moves = watched.stalls undue.0 number here.0 quiet;
      }
    where
      or_noted : (b : Bool) (notice : Notice) → is_noted notice ≡ true → (b || is_noted notice) ≡ true
      or_noted true notice due = refl
      or_noted false notice due = due

  pub alike_at : (history : List (Entry M)) (olds news : List Place) → AreAlike olds news → AreAt history olds → AreAt history news
  alike_at history olds news alike at = λ number waiter is.
      let old = alike.back number waiter is in
      let was = at number old.0 old.1 in (
        subst (λ (w : Want). Fits history (wanting w)) old.2 was.0,
        sym old.3 ∙ (was.1 ∙ ap (λ (w : Want). source_of history (object_of w)) old.2),
      )

  -- seats that are alike sleep as rightly
  pub alike_watched : (floor : FloorShown M) (olds news : List Place) (all all' : Bool) → AreAlike olds news → IsWatched floor olds all
      → (all' ≡ false → (number : ℕ) (waiter : Waiter) → IsQuiet news number waiter → all ≡ false) → IsWatched floor news all'
  alike_watched floor olds news all all' alike watched none = record {
    placed = alike_at floor.board.history olds news alike watched.placed;
    rests = λ now number waiter quiet.
        let was = alike_quiet olds news number waiter alike quiet in
        elim (watched.rests (none now number waiter quiet) number was.0 was.1) [
          | inl would ↦ inl (subst (WouldWait floor.board) was.2 would)
          | inr mate ↦ inr (alike_mate olds news waiter.want alike (subst (IsMate olds) was.2 mate))
        ];
    stalls = λ now number waiter quiet.
        let was = alike_quiet olds news number waiter alike quiet in
        subst (λ (s : List State). ¬ (IsStalled floor s)) (sym alike.states)
        (watched.stalls (none now number waiter quiet) number was.0 was.1);
  }

  -- somebody can go on where a seat is free
  pub free_moves : (floor : FloorShown M) (places : List Place) (number : ℕ) → slice_get places number ≡ Some Free
      → ¬ (IsStalled floor (states_in places))
  free_moves floor places number found = λ stalled. idle_at floor.board.history places number Free stalled.1 found

  -- a seat more is free
  pub added_watched : (floor : FloorShown M) (places : List Place) (all : Bool) → IsWatched floor places all
      → IsWatched floor (places ++ Free ∷ []) all
  added_watched floor places all watched = record {
    placed = λ number waiter is. elim (pushed_cases places Free (Waiting waiter) number is) [
      | inl before ↦ watched.placed number waiter before
      | inr new ↦ absurd (let clash : Free ≡ Waiting waiter = new.1 in cc)
    ];
    rests = λ now number waiter quiet. elim (pushed_cases places Free (Waiting waiter) number quiet.here) [
      | inl before ↦ elim (watched.rests now number waiter (record { here = before; nothing = quiet.nothing })) [
        | inl would ↦ inl would
        | inr mate ↦ inr (record {
          number = mate.number;
          waiter = mate.waiter;
          here = slice_get-append_some places (Free ∷ []) mate.number (Waiting mate.waiter) mate.here;
          same = mate.same;
          due = mate.due;
        })
      ]
      | inr new ↦ absurd (let clash : Free ≡ Waiting waiter = new.1 in cc)
    ];
    stalls = λ now number waiter quiet. free_moves floor (places ++ Free ∷ []) (length places) (slice_get_pushed places Free);
  }

  -- a free seat left: where none is free then, all are due
  pub left_watched : (floor : FloorShown M) (places : List Place) (seat : ℕ) (all all' : Bool)
      → slice_get places seat ≡ Some Free → IsWatched floor places all
      → (all' ≡ false → (all ≡ false) × (free_in (states_in (slice_set places seat Left)) ≢ 0))
      → IsWatched floor (slice_set places seat Left) all'
  left_watched floor places seat all all' free watched some = record {
    placed = λ number waiter is. watched.placed number waiter (not_set places seat number waiter is);
    rests = λ now number waiter quiet.
        elim (watched.rests (some now).0 number waiter
        (record { here = not_set places seat number waiter quiet.here; nothing = quiet.nothing })) [
          | inl would ↦ inl would
          | inr mate ↦
              let apart : mate.number ≢ seat = λ same.
              absurd (let clash : Free ≡ Waiting mate.waiter = same_Some _ _ (sym free ∙ ap (slice_get places) (sym same) ∙ mate.here) in
              cc) in
              inr (record {
                number = mate.number;
                waiter = mate.waiter;
                here = slice_get-set_other places seat mate.number Left apart ∙ mate.here;
                same = mate.same;
                due = mate.due;
              })
        ];
    stalls = λ now number waiter quiet stalled.
        (some now).1 (idle_none floor.board.history (states_in (slice_set places seat Left)) stalled.1);
  }

  -- the seat that is given was due and not woken, and is woken
  pub next_given : (floor : FloorShown M) (olds mids news : List Place) (all : Bool) (given : Option ℕ) → AreAlike olds mids
      → ((number : ℕ) → place_due false (slice_get mids number) ≡ place_due all (slice_get olds number)) → WakesNext mids news given
      → IfSome given (λ number. (is_due (room_of floor (states_in olds) (notices_in olds) all) number ≡ true)
      × (slice_get (notices_in olds) number ≢ Some Woken)
      × (slice_get (notices_in news) number ≡ Some Woken))
  next_given floor olds mids news all None alike same woken = tt
  next_given floor olds mids news all (Some number) alike same woken = (
    due_is floor olds all number ∙ (sym (same number) ∙ (ap (place_due false) woken.1 ∙ ap is_noted woken.2)),
    λ was.
        let old = alike.back number woken.0 woken.1 in
        let notice : old.0.notice ≡ Woken = same_Some _ _ (sym (notice_at olds number old.0 old.1) ∙ was) in
        let kept = alike.woken number old.0 old.1 notice in
        absurd (let clash : Woken ≡ Due = sym kept.2
        ∙ (ap (λ (w : Waiter). w.notice) (same_waiter kept.0 woken.0 (same_Some _ _ (sym kept.1 ∙ woken.1))) ∙ woken.2) in cc),
    ap (λ l. slice_get (notices_in l) number) woken.3
        ∙ notice_at (slice_set mids number (Waiting (record woken.0 { notice = Woken }))) number (record woken.0 { notice = Woken })
        (slice_get-set_same mids number (Waiting woken.0) (Waiting (record woken.0 { notice = Woken })) woken.1),
  )

  -- where no seat is given each that is due was woken
  pub next_all : (floor : FloorShown M) (mids news : List Place) (all : Bool) (given : Option ℕ) → all ≡ false → WakesNext mids news given
      → IfNone given ((number : ℕ) → is_due (room_of floor (states_in news) (notices_in news) all) number ≡ true
      → slice_get (notices_in news) number ≡ Some Woken)
  next_all floor mids news all (Some number) none woken = tt
  next_all floor mids news all None none woken = λ number is.
      slice_get-map notice_by news number
      ∙ all_woken (slice_get news number) (λ waiter found. woken.1 number waiter (ap (λ l. slice_get l number) (sym woken.0) ∙ found))
      (ap (λ a. place_due a (slice_get news number)) (sym none) ∙ (sym (due_is floor news all number) ∙ is))

  pub next_same : (floor : FloorShown M) (olds mids news : List Place) (all all' : Bool) (given : Option ℕ) (number : ℕ) → all' ≡ false
      → ((k : ℕ) → place_due false (slice_get mids k) ≡ place_due all (slice_get olds k)) → WakesNext mids news given
      → is_due (room_of floor (states_in news) (notices_in news) all') number
      ≡ is_due (room_of floor (states_in olds) (notices_in olds) all) number
  next_same floor olds mids news all all' given number none same woken =
      due_is floor news all' number
      ∙ (ap (λ a. place_due a (slice_get news number)) none
      ∙ (wake_due mids news given number woken ∙ (same number ∙ sym (due_is floor olds all number))))
