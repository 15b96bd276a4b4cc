-- What stays of seats of which one does not wait any more, and which seats become due then.
use Rattle.std.proofs.Common.{◌≡◌, ◌≢◌, ℕ, ◌<◌, ◌⊎◌, inl, inr, Bool, true, false, List, length, get_or, slice_get, slice_set}
use Rattle.std.proofs.Common.{Option, Some, None, refl, sym, ap, subst, ◌∙◌, arith}
use Rattle.std.specs.Option.{option_map}
use Rattle.std.proofs.lemmas.Option.{same_Some, slice_get_within, slice_get-get_or, slice_get-map, get_or_from_slice_get}
use Rattle.std.proofs.lemmas.Bool.{true≢false}
use Rattle.std.proofs.lemmas.List.{length-map, map-set, set-get_or}
use Rattle.cml_board.specs.{Entry, Want, full_at, entries_in, HasRoom}
use Rattle.cml_board.specs.Shown.{Shown}
use Rattle.cml_board.proofs.ListLemmas.{slice_get-set_same, slice_get-set_other}
use Rattle.cml_lanes.specs.{FloorShown}
use Rattle.cml_lanes.proofs.SlotsLemmas.{this_or_other}
use Rattle.cml_room.specs.declared.news.News.{News}
use Rattle.cml_room.specs.{Place, Waiter, State, MayTurn, object_of, source_of, NoNews, state_by, states_in, AreRoused, IsMate, IsQuiet}
use Rattle.cml_room.specs.{freed, IsStalled, WouldWait, AreAt, NoneForgotten, Follows, IsWatched}
use Rattle.cml_room.specs.declared.place.Place.TheVariants.{Free, Waiting, Left}
use Rattle.cml_room.specs.declared.state.State.TheVariants as state
use Rattle.cml_room.proofs.IdlingLemmas.{idle_at}
use Rattle.cml_room.proofs.ListingLemmas.{set_here}
use Rattle.cml_room.proofs.RousingLemmas.{quiet_before, mate_on, free_kept, at_kept}

-- the places, where this seat doesn't wait any more
abbrev pub with_freed : List Place → ℕ → List Place
with_freed places number = slice_set places number (freed (get_or places number Free))

-- a seat's state is that of its place
pub stands_so : (places : List Place) (number : ℕ) (is : State) → slice_get (states_in places) number ≡ Some is
    → (slice_get places number ≡ Some (get_or places number Free)) × (state_by (get_or places number Free) ≡ is)
stands_so places number is found =
    let within : number < length places = omega (arith, slice_get_within (states_in places) number is found, length-map places state_by) in
    let here = slice_get-get_or places number Free within in (
      here,
      same_Some (state_by (get_or places number Free)) is
          (sym (slice_get-map state_by places number ∙ ap (option_map state_by) here) ∙ found),
    )

is_free : (place : Place) → state_by place ≡ state.Free → place ≡ Free
is_free Free is = refl
is_free (Waiting waiter) is = absurd (let clash : state.Parked waiter.want ≡ state.Free = is in cc)
is_free Left is = absurd (let clash : state.Left ≡ state.Free = is in cc)

is_waiting : (place : Place) (on : Want) → state_by place ≡ state.Parked on
    → (waiter : Waiter) × (place ≡ Waiting waiter) × (waiter.want ≡ on)
is_waiting Free on is = absurd (let clash : state.Free ≡ state.Parked on = is in cc)
is_waiting (Waiting waiter) on is = (waiter, refl, let same : state.Parked waiter.want ≡ state.Parked on = is in cc)
is_waiting Left on is = absurd (let clash : state.Left ≡ state.Parked on = is in cc)

pub free_place : (places : List Place) (number : ℕ) → slice_get (states_in places) number ≡ Some state.Free
    → slice_get places number ≡ Some Free
free_place places number found =
    let stands = stands_so places number state.Free found in
    stands.0 ∙ ap Some (is_free (get_or places number Free) stands.1)

pub parked_place : (places : List Place) (number : ℕ) (on : Want) → slice_get (states_in places) number ≡ Some (state.Parked on)
    → (waiter : Waiter) × (slice_get places number ≡ Some (Waiting waiter)) × (waiter.want ≡ on)
parked_place places number on found =
    let stands = stands_so places number (state.Parked on) found in
    let is = is_waiting (get_or places number Free) on stands.1 in
    (is.0, stands.0 ∙ ap Some is.1, is.2)

pub parked_within : (places : List Place) (number : ℕ) (on : Want)
    → slice_get (states_in places) number ≡ Some (state.Parked on) → number < length places
parked_within places number on found =
    let place = parked_place places number on found in
    slice_get_within places number (Waiting place.0) place.1

freed_is : (places : List Place) (number : ℕ) → MayTurn (states_in places) number → freed (get_or places number Free) ≡ Free
freed_is places number (inl free) = ap freed (get_or_from_slice_get places number Free Free (free_place places number free))
freed_is places number (inr parked) =
    let place = parked_place places number parked.0 parked.1 in
    ap freed (get_or_from_slice_get places number (Waiting place.0) Free place.1)

pub may_within : (places : List Place) (number : ℕ) → MayTurn (states_in places) number → number < length places
may_within places number (inl free) = slice_get_within places number Free (free_place places number free)
may_within places number (inr parked) = parked_within places number parked.0 parked.1

pub freed_states : (places : List Place) (number : ℕ) → MayTurn (states_in places) number
    → states_in (with_freed places number) ≡ slice_set (states_in places) number state.Free
freed_states places number may =
    map-set state_by places number (freed (get_or places number Free))
    ∙ ap (λ p. slice_set (states_in places) number (state_by p)) (freed_is places number may)

pub freed_here : (places : List Place) (number : ℕ) → MayTurn (states_in places) number
    → slice_get (with_freed places number) number ≡ Some Free
freed_here places number may =
    slice_get-set_same places number (get_or places number Free) (freed (get_or places number Free))
    (slice_get-get_or places number Free (may_within places number may)) ∙ ap Some (freed_is places number may)

-- a seat that may end its turn and doesn't wait is free
pub free_unless_waits : (places : List Place) (number : ℕ) → MayTurn (states_in places) number
    → ((waiter : Waiter) → slice_get places number ≢ Some (Waiting waiter))
    → slice_get places number ≡ Some Free
free_unless_waits places number (inl free) none = free_place places number free
free_unless_waits places number (inr parked) none =
    let place = parked_place places number parked.0 parked.1 in
    absurd (none place.0 place.1)

-- a free seat is free still
pub free_same : (places : List Place) (number : ℕ) → slice_get places number ≡ Some Free → places ≡ with_freed places number
free_same places number free =
    let read : get_or places number Free ≡ Free = get_or_from_slice_get places number Free Free free in
    sym (ap (slice_set places number) (ap freed read ∙ sym read) ∙ set-get_or places number Free)

-- a seat that waits is parked
pub waits_parked : (places : List Place) (number : ℕ) (waiter : Waiter) → slice_get places number ≡ Some (Waiting waiter)
    → slice_get (states_in places) number ≡ Some (state.Parked waiter.want)
waits_parked places number waiter found = slice_get-map state_by places number ∙ ap (option_map state_by) found

same_waiter : (one other : Waiter) → Waiting one ≡ Waiting other → one ≡ other
same_waiter one other same = cc

not_freed : (place : Place) (waiter : Waiter) → freed place ≡ Waiting waiter → ⊥
not_freed Free waiter is = absurd (let clash : Free ≡ Waiting waiter = is in cc)
not_freed (Waiting other) waiter is = absurd (let clash : Free ≡ Waiting waiter = is in cc)
not_freed Left waiter is = absurd (let clash : Left ≡ Waiting waiter = is in cc)

-- who waits then waited before
pub freed_from : (places : List Place) (number k : ℕ) (waiter : Waiter) → slice_get (with_freed places number) k ≡ Some (Waiting waiter)
    → slice_get places k ≡ Some (Waiting waiter)
freed_from places number k waiter found = elim (this_or_other k number) [
  | inl here ↦
      absurd (not_freed (get_or places number Free) waiter
      (set_here places number (freed (get_or places number Free)) (Waiting waiter)
      (ap (slice_get (with_freed places number)) (sym here) ∙ found)))
  | inr other ↦ sym (slice_get-set_other places number k (freed (get_or places number Free)) other) ∙ found
]

pub freed_quiet : (places : List Place) (number k : ℕ) (waiter : Waiter)
    → IsQuiet (with_freed places number) k waiter → IsQuiet places k waiter
freed_quiet places number k waiter quiet = record { here = freed_from places number k waiter quiet.here; nothing = quiet.nothing }

-- a mate is this seat, or is one still
pub mate_stays : (places : List Place) (number : ℕ) (place : Place) (on : Want) → IsMate places on
    → ((waiter : Waiter) × (slice_get places number ≡ Some (Waiting waiter)) × (waiter.want ≡ on))
    ⊎ IsMate (slice_set places number place) on
mate_stays places number place on mate = elim (this_or_other mate.number number) [
  | inl here ↦ inl (mate.waiter, ap (slice_get places) (sym here) ∙ mate.here, mate.same)
  | inr other ↦ inr (record {
    number = mate.number;
    waiter = mate.waiter;
    here = slice_get-set_other places number mate.number place other ∙ mate.here;
    same = mate.same;
    due = mate.due;
  })
]

module _ {M : Type 0} where
  pub freed_at : (history : List (Entry M)) (places news : List Place) (number : ℕ) → news ≡ with_freed places number
      → AreAt history places → AreAt history news
  freed_at history places news number set at = λ k waiter is.
      at k waiter (freed_from places number k waiter (ap (λ l. slice_get l k) (sym set) ∙ is))

  pub would_same : (board : Shown M) (one other : Want) → one ≡ other → WouldWait board one → WouldWait board other
  would_same board one other same would = subst (λ w. WouldWait board w) same would

  same_source : (history : List (Entry M)) (places : List Place) (j k : ℕ) (one other : Waiter) → AreAt history places
      → slice_get places j ≡ Some (Waiting one)
      → slice_get places k ≡ Some (Waiting other) → one.want ≡ other.want → one.source ≡ other.source
  same_source history places j k one other at here there same =
      (at j one here).1 ∙ (ap (λ w. source_of history (object_of w)) same ∙ sym (at k other there).1)

  -- who waits for the same as the seat that waited has a mate, or would wait
  abbrev pub HandsOn : Shown M → List Place → Waiter → Type 0
  HandsOn board places waiter = WouldWait board waiter.want ⊎ ((k : ℕ) (other : Waiter) → IsQuiet places k other
      → other.want ≡ waiter.want → other.source ≡ waiter.source → IsMate places waiter.want)

  -- who isn't due has no news, or a mate
  abbrev pub AreTold : List (Entry M) → Option News → List Place → Type 0
  AreTold history news places = (k : ℕ) (waiter : Waiter) → IsQuiet places k waiter
      → NoNews history news waiter.want ⊎ IsMate places waiter.want

  handed_to : (board : Shown M) (places : List Place) (waiter other : Waiter) (k : ℕ) → HandsOn board places waiter → IsQuiet places k other
      → other.want ≡ waiter.want → other.source ≡ waiter.source → WouldWait board other.want ⊎ IsMate places other.want
  handed_to board places waiter other k (inl would) quiet want source = inl (would_same board waiter.want other.want (sym want) would)
  handed_to board places waiter other k (inr mates) quiet want source =
      inr (subst (λ w. IsMate places w) (sym want) (mates k other quiet want source))

  -- who isn't due was quiet before, and so it would have waited, or had a mate: it has no news and would wait still, or it has a
  -- mate still, or the seat itself was its mate and handed on
  at_end : (before after : Shown M) (news : Option News) (So To : Waiter → Type 0)
      (places lates ends : List Place) (number k : ℕ) (waiter : Waiter)
      → AreAt after.history places → AreRoused So (with_freed places number) lates
      → AreTold after.history news lates → AreRoused To lates ends
      → ((own : Waiter) → slice_get places number ≡ Some (Waiting own) → HandsOn after ends own)
      → Follows news before after → (HasRoom before → HasRoom after) → IsQuiet ends k waiter
      → WouldWait before waiter.want ⊎ IsMate places waiter.want → WouldWait after waiter.want ⊎ IsMate ends waiter.want
  at_end before after news So To places lates ends number k waiter at first told second hands next room quiet (inl would) =
      elim (told k waiter (quiet_before To lates ends k waiter second quiet)) [
        | inl none ↦ inl (record { waits = next.waits waiter.want would.waits none; room = room would.room })
        | inr mate ↦ inr (mate_on To lates ends waiter.want second mate)
      ]
  at_end before after news So To places lates ends number k waiter at first told second hands next room quiet (inr mate) =
      elim (mate_stays places number (freed (get_or places number Free)) waiter.want mate) [
        | inl own ↦
            let was = freed_quiet places number k waiter
            (quiet_before So (with_freed places number) lates k waiter first (quiet_before To lates ends k waiter second quiet)) in
            handed_to after ends own.0 waiter k (hands own.0 own.1) quiet (sym own.2)
            (same_source after.history places k number waiter own.0 at was.here own.1 (sym own.2))
        | inr other ↦ inr (mate_on To lates ends waiter.want second (mate_on So (with_freed places number) lates waiter.want first other))
      ]

  -- a seat is free: they aren't stalled
  pub free_moves : (floor : FloorShown M) (places : List Place) (number : ℕ) → slice_get places number ≡ Some Free
      → ¬ (IsStalled floor (states_in places))
  free_moves floor places number free stalled = idle_at floor.board.history places number Free stalled.1 free

  -- the seat that ends its turn was this one
  pub handed : (after shown : Shown M) (places ends : List Place) (number : ℕ) (own : Waiter) → shown ≡ after
      → slice_get places number ≡ Some (Waiting own)
      → HandsOn shown ends own → (other : Waiter) → slice_get places number ≡ Some (Waiting other) → HandsOn after ends other
  handed after shown places ends number own same here hands other there =
      let is : Waiting own ≡ Waiting other = same_Some (Waiting own) (Waiting other) (sym here ∙ there) in
      subst (λ b. HandsOn b ends other) same (subst (λ w. HandsOn shown ends w) (same_waiter own other is) hands)

  pub ended_at : (So To : Waiter → Type 0) (history : List (Entry M)) (places mids lates ends : List Place) (number : ℕ)
      → AreAt history places
      → mids ≡ with_freed places number → AreRoused So mids lates → AreRoused To lates ends → AreAt history ends
  ended_at So To history places mids lates ends number at set first second =
      at_kept To history lates ends second (at_kept So history mids lates first (freed_at history places mids number set at))

  -- a seat has ended its turn
  pub ended : (before after : FloorShown M) (shown : Shown M) (news : Option News) (So To : Waiter → Type 0)
      (places mids lates ends : List Place) (all_due all_due' : Bool)
      (number : ℕ) → MayTurn (states_in places) number → AreAt after.board.history places → mids ≡ with_freed places number
      → shown ≡ after.board → AreRoused So mids lates → AreTold shown.history news lates → AreRoused To lates ends
      → ((own : Waiter) → slice_get places number ≡ Some (Waiting own) → HandsOn after.board ends own) → all_due' ≡ all_due
      → IsWatched before places all_due → Follows news before.board after.board → (HasRoom before.board → HasRoom after.board)
      → IsWatched after ends all_due'
  ended before after shown news So To places mids lates ends all_due all_due' number may at set same first
      shown_told second hands due was next room =
      let told : AreTold after.board.history news lates = subst (λ (b : Shown M). AreTold b.history news lates) same shown_told in
      let from : AreRoused So (with_freed places number) lates = subst (λ l. AreRoused So l lates) set first in
      let free =
      free_kept To lates ends number second (free_kept So (with_freed places number) lates number from (freed_here places number may)) in
      record {
        placed = ended_at So To after.board.history places mids lates ends number at set first second;
        rests = λ none k waiter quiet.
            let was_quiet = freed_quiet places number k waiter
            (quiet_before So (with_freed places number) lates k waiter from (quiet_before To lates ends k waiter second quiet)) in
            at_end before.board after.board news So To places lates ends number k waiter at from told second hands next room quiet
            (was.rests (sym due ∙ none) k waiter was_quiet);
        stalls = λ none k waiter quiet. free_moves after ends number free;
      }

  -- a call that waits brings no news
  pub none_told : (history : List (Entry M)) (news : Option News) (places : List Place) → news ≡ None → AreTold history news places
  none_told history news places none = λ k waiter quiet. inl (subst (λ (n : Option News). NoNews history n waiter.want) (sym none) tt)

  -- a full journal has no room
  pub not_full : (board : Shown M) → entries_in board.history ≡ full_at board → HasRoom board → ⊥
  not_full board full room = absurd (omega (arith, full, room))

  -- all that wait are due
  pub all_watched : (floor : FloorShown M) (places news : List Place) (all_due : Bool)
      → AreAt floor.board.history places → news ≡ places → all_due ≡ true
      → IsWatched floor news all_due
  all_watched floor places news all_due at same all = record {
    placed = subst (λ l. AreAt floor.board.history l) (sym same) at;
    rests = λ none. absurd (true≢false (sym all ∙ none));
    stalls = λ none. absurd (true≢false (sym all ∙ none));
  }

  -- no seat is forgotten after a call of a lane or a feed
  pub settled_rests : (before after : FloorShown M) (shown : Shown M) (news : Option News) (So : Waiter → Type 0)
      (places lates : List Place) (all_due all_due' : Bool)
      → shown ≡ after.board → AreRoused So places lates → AreTold shown.history news lates → all_due' ≡ all_due
      → HasRoom after.board → IsWatched before places all_due → Follows news before.board after.board
      → all_due' ≡ false → NoneForgotten after.board lates
  settled_rests before after shown news So places lates all_due all_due' same first told due room was next none k waiter quiet =
      elim (was.rests (sym due ∙ none) k waiter (quiet_before So places lates k waiter first quiet)) [
        | inl would ↦ elim (told k waiter quiet) [
          | inl no_news ↦ inl (record {
            waits = next.waits waiter.want would.waits (subst (λ (b : Shown M). NoNews b.history news waiter.want) same no_news);
            room = room;
          })
          | inr mate ↦ inr mate
        ]
        | inr mate ↦ inr (mate_on So places lates waiter.want first mate)
      ]

  -- which seats become due after a call of a lane or a feed
  pub settled : (before after : FloorShown M) (shown : Shown M) (news : Option News) (So : Waiter → Type 0)
      (places lates : List Place) (all_due all_due' : Bool)
      → AreAt after.board.history places → shown ≡ after.board → AreRoused So places lates
      → AreTold shown.history news lates → all_due' ≡ all_due
      → HasRoom after.board → ¬ (IsStalled after (states_in lates)) → IsWatched before places all_due
      → Follows news before.board after.board
      → IsWatched after lates all_due'
  settled before after shown news So places lates all_due all_due' at same first told due room moves was next = record {
    placed = at_kept So after.board.history places lates first at;
    rests = settled_rests before after shown news So places lates all_due all_due' same first told due room was next;
    stalls = λ none k waiter quiet. moves;
  }
