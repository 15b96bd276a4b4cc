-- What the end of a seat's turn needs and leaves, whichever way its call was made.
use Rattle.std.proofs.Common.{◌≡◌, ℕ, ◌⊎◌, Bool, true, false, MatchBool, slice_get, slice_set}
use Rattle.std.proofs.Common.{Option, Some, None, refl, sym, ap, subst, ◌∙◌}
use Rattle.std.specs.Prelude.{⊤}
use Rattle.cml_board.specs.{Call, Answer, Refusal, Want, want_in, HasRoom, IsAsBefore}
use Rattle.cml_board.specs.declared.outcome.Outcome.{Outcome}
use Rattle.cml_board.specs.declared.entry.Who.TheVariants.{Seat}
use Rattle.cml_board.specs.declared.outcome.Outcome.TheVariants.{Answered, WouldWait, Refused}
use Rattle.cml_lanes.specs.{FloorShown}
use Rattle.cml_room.specs.declared.news.News.{News}
use Rattle.cml_room.specs.declared.turns.Ended.{Ended}
use Rattle.cml_room.specs.declared.turns.Ended.TheVariants as ended
use Rattle.cml_room.specs.declared.state.State.TheVariants.{Free, Parked}
use Rattle.cml_room.specs.{RoomShown, SeatsShown, HasTurned, TurnEnds, ended_by, told_by, with_seats, states_in, news_in, news_by, MayTurn}
use Rattle.cml_room.specs.{MayEndTurn, EndsTurn, Reaches, IsBarred, IsWatched, IsStalled}
use Rattle.cml_room.specs.{WouldWait as CallsWait, Follows, HasRisen, HasAsked, notices_in}
use Rattle.cml_room.specs.{Asks, Turns, AskOf}
use Rattle.cml_room.proofs.TurningLemmas.{answered_asks, parked_asks, stalled_asks, refused_asks, answered_reaches}
use Rattle.cml_room.proofs.TurningLemmas.{waiting_reaches, refused_reaches}
use Rattle.cml_room.proofs.BringingLemmas.{Brings, placed_on}
use Rattle.cml_room.proofs.ParkingLemmas.{MayWait}
use Rattle.cml_room.proofs.FramesLemmas.{turns}
use Rattle.cml_room.proofs.RisingLemmas.{nobody_few}
use Rattle.cml_room.proofs.CallingLemmas.{answered_brings, refused_before, before_follows, before_watched, call_would, may_turn}
use Rattle.cml_room.proofs.CallingLemmas.{may_wait, waits_wants, may_brings, answered_news}

module _ {M : Type 0} where
  -- each way to end has its outcome
  answered_is : (call : Call M) (outcome : Outcome M) (news : Option News) → ended.Answered news ≡ ended_by call outcome
      → (answer : Answer M) × (outcome ≡ Answered answer) × (news ≡ news_in call)
  answered_is call (Answered answer) news is =
      let same : ended.Answered news ≡ ended.Answered (news_in call) = is in (answer, refl, cc)
  answered_is call (WouldWait back) news is = absurd (let clash : ended.Answered news ≡ ended.Waits (want_in back) = is in cc)
  answered_is call (Refused refusal back) news is = absurd (let clash : ended.Answered news ≡ ended.Failed = is in cc)

  failed_is : (call : Call M) (outcome : Outcome M) → ended.Failed ≡ ended_by call outcome
      → (refusal : Refusal) × (back : Call M) × (outcome ≡ Refused refusal back)
  failed_is call (Answered answer) is = absurd (let clash : ended.Failed ≡ ended.Answered (news_in call) = is in cc)
  failed_is call (WouldWait back) is = absurd (let clash : ended.Failed ≡ ended.Waits (want_in back) = is in cc)
  failed_is call (Refused refusal back) is = (refusal, back, refl)

  waits_is : (call : Call M) (outcome : Outcome M) (wants : Option Want) → ended.Waits wants ≡ ended_by call outcome
      → (back : Call M) × (outcome ≡ WouldWait back) × (wants ≡ want_in back)
  waits_is call (Answered answer) wants is = absurd (let clash : ended.Waits wants ≡ ended.Answered (news_in call) = is in cc)
  waits_is call (WouldWait back) wants is = let same : ended.Waits wants ≡ ended.Waits (want_in back) = is in (back, refl, cc)
  waits_is call (Refused refusal back) wants is = absurd (let clash : ended.Waits wants ≡ ended.Failed = is in cc)

  -- the seat is free, or waits for what its call wants
  turn_may : {chunk : ℕ} {sure : Bool} {room : RoomShown M} {before after : FloorShown M} {seats : SeatsShown} {number : ℕ}
      {call : Call M} (outcome : Outcome M) → HasTurned chunk sure room before after seats number call outcome
      → MayTurn (states_in seats.places) number
  turn_may {chunk} {sure} {room} {before} {after} {seats} {number} {call} outcome t =
      may_turn room (states_in seats.places) number call (ap (λ (r : RoomShown M). r.seats) t.view) t.may

  -- an answered call reached the board, and brought its news
  answered_reached : {chunk : ℕ} {sure : Bool} {room : RoomShown M} {before after : FloorShown M} {seats : SeatsShown} {number : ℕ}
      {call : Call M} (answer : Answer M) → HasTurned chunk sure room before after seats number call (Answered answer)
      → Reaches chunk sure before after number call (Answered answer)
  answered_reached {chunk} {sure} {room} {before} {after} {seats} {number} {call} answer t =
      answered_reaches chunk sure before after number call answer t.barred t.applied

  answered_news_brought : {chunk : ℕ} {sure : Bool} {room : RoomShown M} {before after : FloorShown M} {seats : SeatsShown} {number : ℕ}
      {call : Call M} (answer : Answer M) (news : Option News) → news ≡ news_in call
      → HasTurned chunk sure room before after seats number call (Answered answer) → Brings news before.board after.board
  answered_news_brought {chunk} {sure} {room} {before} {after} {seats} {number} {call} answer news is t =
      answered_brings chunk sure before.board after.board (Seat number) call answer news is (answered_reached answer t).applies

  -- a refused one reached it too, or an open feed bars it
  refused_reached : {chunk : ℕ} {sure : Bool} {room : RoomShown M} {before after : FloorShown M} {seats : SeatsShown} {number : ℕ}
      {call : Call M} (refusal : Refusal) (back : Call M) → HasTurned chunk sure room before after seats number call (Refused refusal back)
      → Reaches chunk sure before after number call (Refused refusal back) ⊎ IsBarred before after call refusal back
  refused_reached {chunk} {sure} {room} {before} {after} {seats} {number} {call} refusal back t =
      refused_reaches chunk sure before after number call back refusal t.barred t.applied

  refused_same : {chunk : ℕ} {sure : Bool} {room : RoomShown M} {before after : FloorShown M} {seats : SeatsShown} {number : ℕ}
      {call : Call M} (refusal : Refusal) (back : Call M) → HasTurned chunk sure room before after seats number call (Refused refusal back)
      → IsAsBefore before.board after.board
  refused_same {chunk} {sure} {room} {before} {after} {seats} {number} {call} refusal back t =
      refused_before chunk sure before after number call back refusal (refused_reached refusal back t)

  -- one that would wait reached it
  waiting_reached : {chunk : ℕ} {sure : Bool} {room : RoomShown M} {before after : FloorShown M} {seats : SeatsShown} {number : ℕ}
      {call : Call M} (back : Call M) → HasTurned chunk sure room before after seats number call (WouldWait back)
      → Reaches chunk sure before after number call (WouldWait back)
  waiting_reached {chunk} {sure} {room} {before} {after} {seats} {number} {call} back t =
      waiting_reaches chunk sure before after number call back t.barred t.applied

  waiting_wants : {chunk : ℕ} {sure : Bool} {room : RoomShown M} {before after : FloorShown M} {seats : SeatsShown} {number : ℕ}
      {call : Call M} (back : Call M) (want : Want) → Some want ≡ want_in back
      → HasTurned chunk sure room before after seats number call (WouldWait back) → want_in call ≡ Some want
  waiting_wants {chunk} {sure} {room} {before} {after} {seats} {number} {call} back want is t =
      ap want_in (sym (waiting_reached back t).applies.3) ∙ sym is

  -- what ends the turn of an answered call
  pub answered_may : {chunk : ℕ} {sure : Bool} {floor : FloorShown M} {seats : SeatsShown} {number : ℕ} {how : Ended} (news : Option News)
      → (turn : TurnEnds chunk sure floor seats number how) → how ≡ ended.Answered news
      → MayEndTurn floor.board.history number news seats.places
  answered_may {chunk} {sure} {floor} {seats} {number} {how} news turn way =
      let (answer, outcome, is) = answered_is turn.call turn.outcome news (sym way ∙ turn.is) in
      let t = subst (λ o. HasTurned chunk sure turn.room turn.before floor seats number turn.call o) outcome turn.turned in
      let brings = answered_news_brought answer news is t in
      record {
        may = turn_may (Answered answer) t;
        placed = placed_on turn.before floor seats.places seats.all_due news t.watched brings.follows;
        of = brings.of;
        brings = λ on parked. may_brings turn.room number turn.call on news t.may is
            (ap (λ (r : RoomShown M). slice_get r.seats number) (sym t.view) ∙ parked);
      }

  pub answered_follows : {chunk : ℕ} {sure : Bool} {floor : FloorShown M} {seats : SeatsShown} {number : ℕ} {how : Ended}
      (news : Option News)
      (turn : TurnEnds chunk sure floor seats number how) → how ≡ ended.Answered news → Follows news turn.before.board floor.board
  answered_follows {chunk} {sure} {floor} {seats} {number} {how} news turn way =
      let (answer, outcome, is) = answered_is turn.call turn.outcome news (sym way ∙ turn.is) in
      (answered_news_brought answer news is
      (subst (λ o. HasTurned chunk sure turn.room turn.before floor seats number turn.call o) outcome turn.turned)).follows

  pub answered_told : {chunk : ℕ} {sure : Bool} {floor : FloorShown M} {seats : SeatsShown} {number : ℕ} {how : Ended}
      (lates : SeatsShown) (news : Option News)
      (turn : TurnEnds chunk sure floor seats number how) → how ≡ ended.Answered news
      → EndsTurn floor.board.history number news seats.places lates.places
      → Asks chunk sure ⊤ turn.room (with_seats floor lates) number turn.call (told_by turn.outcome true)
  answered_told {chunk} {sure} {floor} {seats} {number} {how} lates news turn way ends =
      let (answer, outcome, is) = answered_is turn.call turn.outcome news (sym way ∙ turn.is) in
      let t = subst (λ o. HasTurned chunk sure turn.room turn.before floor seats number turn.call o) outcome turn.turned in
      subst (λ o. Asks chunk sure ⊤ turn.room (with_seats floor lates) number turn.call (told_by o true)) (sym outcome)
      (answered_asks chunk sure turn.room turn.before floor seats lates number turn.call answer t.view (answered_reached answer t)
      t.lanes t.feeds ends.states)

  pub answered_turns : {chunk : ℕ} {sure : Bool} {floor : FloorShown M} {seats : SeatsShown} {number : ℕ} {how : Ended}
      (lates : SeatsShown) (news : Option News)
      (turn : TurnEnds chunk sure floor seats number how) → how ≡ ended.Answered news
      → EndsTurn floor.board.history number news seats.places lates.places
      → (HasRoom floor.board → lates.all_due ≡ seats.all_due)
      → Turns number (AskOf number) (news_by (told_by turn.outcome true)) turn.room (with_seats floor lates)
  answered_turns {chunk} {sure} {floor} {seats} {number} {how} lates news turn way ends due =
      let (answer, outcome, is) = answered_is turn.call turn.outcome news (sym way ∙ turn.is) in
      let t = subst (λ o. HasTurned chunk sure turn.room turn.before floor seats number turn.call o) outcome turn.turned in
      subst (λ o. Turns number (AskOf number) (news_by (told_by o true)) turn.room (with_seats floor lates)) (sym outcome)
      (subst (λ n. Turns number (AskOf number) n turn.room (with_seats floor lates))
      (answered_news chunk sure turn.before.board floor.board (Seat number) turn.call answer news is (answered_reached answer t).applies)
      (turns turn.room turn.before floor seats lates number news t.view ends.asked ends.few due))

  -- and that of a call that failed
  pub failed_may : {chunk : ℕ} {sure : Bool} {floor : FloorShown M} {seats : SeatsShown} {number : ℕ} {how : Ended} →
      (turn : TurnEnds chunk sure floor seats number how) → how ≡ ended.Failed
      → MayEndTurn floor.board.history number None seats.places
  failed_may {chunk} {sure} {floor} {seats} {number} {how} turn way =
      let (refusal, back, outcome) = failed_is turn.call turn.outcome (sym way ∙ turn.is) in
      let t = subst (λ o. HasTurned chunk sure turn.room turn.before floor seats number turn.call o) outcome turn.turned in
      record {
        may = turn_may (Refused refusal back) t;
        placed = placed_on turn.before floor seats.places seats.all_due None t.watched
            (before_follows None turn.before.board floor.board (refused_same refusal back t));
        of = tt;
        brings = λ on parked. refl;
      }

  pub failed_same : {chunk : ℕ} {sure : Bool} {floor : FloorShown M} {seats : SeatsShown} {number : ℕ} {how : Ended}
      (turn : TurnEnds chunk sure floor seats number how) → how ≡ ended.Failed
      → IsAsBefore turn.before.board floor.board
  failed_same {chunk} {sure} {floor} {seats} {number} {how} turn way =
      let (refusal, back, outcome) = failed_is turn.call turn.outcome (sym way ∙ turn.is) in
      refused_same refusal back
      (subst (λ o. HasTurned chunk sure turn.room turn.before floor seats number turn.call o) outcome turn.turned)

  pub failed_told : {chunk : ℕ} {sure : Bool} {floor : FloorShown M} {seats : SeatsShown} {number : ℕ} {how : Ended} (lates : SeatsShown)
      (turn : TurnEnds chunk sure floor seats number how) → how ≡ ended.Failed
      → EndsTurn floor.board.history number None seats.places lates.places
      → Asks chunk sure ⊤ turn.room (with_seats floor lates) number turn.call (told_by turn.outcome true)
  failed_told {chunk} {sure} {floor} {seats} {number} {how} lates turn way ends =
      let (refusal, back, outcome) = failed_is turn.call turn.outcome (sym way ∙ turn.is) in
      let t = subst (λ o. HasTurned chunk sure turn.room turn.before floor seats number turn.call o) outcome turn.turned in
      subst (λ o. Asks chunk sure ⊤ turn.room (with_seats floor lates) number turn.call (told_by o true)) (sym outcome)
      (refused_asks chunk sure turn.room turn.before floor seats lates number turn.call back refusal t.view
      (refused_reached refusal back t) t.lanes t.feeds ends.states)

  pub failed_turns : {chunk : ℕ} {sure : Bool} {floor : FloorShown M} {seats : SeatsShown} {number : ℕ} {how : Ended} (lates : SeatsShown)
      (turn : TurnEnds chunk sure floor seats number how) → how ≡ ended.Failed
      → EndsTurn floor.board.history number None seats.places lates.places → lates.all_due ≡ seats.all_due
      → Turns number (AskOf number) (news_by (told_by turn.outcome true)) turn.room (with_seats floor lates)
  failed_turns {chunk} {sure} {floor} {seats} {number} {how} lates turn way ends due =
      let (refusal, back, outcome) = failed_is turn.call turn.outcome (sym way ∙ turn.is) in
      subst (λ o. Turns number (AskOf number) (news_by (told_by o true)) turn.room (with_seats floor lates)) (sym outcome)
      (turns turn.room turn.before floor seats lates number None turn.turned.view ends.asked ends.few (λ has. due))

  -- and that of one that would wait: it wants something
  pub waits_some : {chunk : ℕ} {sure : Bool} {floor : FloorShown M} {seats : SeatsShown} {number : ℕ} {how : Ended} →
      (turn : TurnEnds chunk sure floor seats number how) → how ≡ ended.Waits None → ⊥
  waits_some {chunk} {sure} {floor} {seats} {number} {how} turn way =
      let (back, outcome, is) = waits_is turn.call turn.outcome None (sym way ∙ turn.is) in
      let t = subst (λ o. HasTurned chunk sure turn.room turn.before floor seats number turn.call o) outcome turn.turned in
      let reaches = waiting_reached back t in
      waits_wants turn.before.board.history turn.call (ap want_in (sym reaches.applies.3) ∙ sym is) reaches.applies.2

  pub waits_may : {chunk : ℕ} {sure : Bool} {floor : FloorShown M} {seats : SeatsShown} {number : ℕ} {how : Ended} (want : Want) →
      (turn : TurnEnds chunk sure floor seats number how) → how ≡ ended.Waits (Some want)
      → MayWait (states_in seats.places) number want
  waits_may {chunk} {sure} {floor} {seats} {number} {how} want turn way =
      let (back, outcome, is) = waits_is turn.call turn.outcome (Some want) (sym way ∙ turn.is) in
      let t = subst (λ o. HasTurned chunk sure turn.room turn.before floor seats number turn.call o) outcome turn.turned in
      may_wait turn.room (states_in seats.places) number turn.call want (ap (λ (r : RoomShown M). r.seats) t.view) t.may
      (waiting_wants back want is t)

  pub waits_would : {chunk : ℕ} {sure : Bool} {floor : FloorShown M} {seats : SeatsShown} {number : ℕ} {how : Ended} (want : Want) →
      (turn : TurnEnds chunk sure floor seats number how) → how ≡ ended.Waits (Some want)
      → CallsWait floor.board want
  waits_would {chunk} {sure} {floor} {seats} {number} {how} want turn way =
      let (back, outcome, is) = waits_is turn.call turn.outcome (Some want) (sym way ∙ turn.is) in
      let t = subst (λ o. HasTurned chunk sure turn.room turn.before floor seats number turn.call o) outcome turn.turned in
      call_would chunk sure turn.before.board floor.board (Seat number) turn.call back want (waiting_wants back want is t)
      (waiting_reached back t).applies

  pub waits_watched : {chunk : ℕ} {sure : Bool} {floor : FloorShown M} {seats : SeatsShown} {number : ℕ} {how : Ended} (want : Want) →
      (turn : TurnEnds chunk sure floor seats number how) → how ≡ ended.Waits (Some want)
      → IsWatched floor seats.places seats.all_due
  waits_watched {chunk} {sure} {floor} {seats} {number} {how} want turn way =
      let (back, outcome, is) = waits_is turn.call turn.outcome (Some want) (sym way ∙ turn.is) in
      let t = subst (λ o. HasTurned chunk sure turn.room turn.before floor seats number turn.call o) outcome turn.turned in
      before_watched turn.before floor seats.places seats.all_due t.watched (waiting_reached back t).applies.4 t.lanes

  -- it waits now, or the seat is free and the call stalled
  pub waits_told : {chunk : ℕ} {sure : Bool} {floor : FloorShown M} {seats : SeatsShown} {number : ℕ} {how : Ended} (lates : SeatsShown)
      (want : Want) (goes_on : Bool)
      (turn : TurnEnds chunk sure floor seats number how) → how ≡ ended.Waits (Some want)
      → MatchBool goes_on
      (¬ (IsStalled floor (slice_set (states_in seats.places) number (Parked want)))
      × (states_in lates.places ≡ slice_set (states_in seats.places) number (Parked want)))
      (IsStalled floor (slice_set (states_in seats.places) number (Parked want))
      × (states_in lates.places ≡ slice_set (states_in seats.places) number Free))
      → Asks chunk sure ⊤ turn.room (with_seats floor lates) number turn.call (told_by turn.outcome goes_on)
  waits_told {chunk} {sure} {floor} {seats} {number} {how} lates want true turn way parked =
      let (back, outcome, is) = waits_is turn.call turn.outcome (Some want) (sym way ∙ turn.is) in
      let t = subst (λ o. HasTurned chunk sure turn.room turn.before floor seats number turn.call o) outcome turn.turned in
      subst (λ o. Asks chunk sure ⊤ turn.room (with_seats floor lates) number turn.call (told_by o true)) (sym outcome)
      (parked_asks chunk sure turn.room turn.before floor seats lates number turn.call back want t.view (waiting_reached back t)
      (waiting_wants back want is t) t.lanes t.feeds parked)
  waits_told {chunk} {sure} {floor} {seats} {number} {how} lates want false turn way stuck =
      let (back, outcome, is) = waits_is turn.call turn.outcome (Some want) (sym way ∙ turn.is) in
      let t = subst (λ o. HasTurned chunk sure turn.room turn.before floor seats number turn.call o) outcome turn.turned in
      subst (λ o. Asks chunk sure ⊤ turn.room (with_seats floor lates) number turn.call (told_by o false)) (sym outcome)
      (stalled_asks chunk sure turn.room turn.before floor seats lates number turn.call back want t.view (waiting_reached back t)
      (waiting_wants back want is t) t.lanes t.feeds stuck)

  no_news : (goes_on : Bool) (back : Call M) → news_by (told_by (WouldWait back) goes_on) ≡ None
  no_news true back = refl
  no_news false back = refl

  pub waits_turns : {chunk : ℕ} {sure : Bool} {floor : FloorShown M} {seats : SeatsShown} {number : ℕ} {how : Ended} (lates : SeatsShown)
      (want : Want) (goes_on : Bool)
      (turn : TurnEnds chunk sure floor seats number how) → how ≡ ended.Waits (Some want)
      → ((other : ℕ) (on : Want) → ¬ (HasRisen seats.places lates.places other on))
      → HasAsked number (notices_in seats.places) (notices_in lates.places) → lates.all_due ≡ seats.all_due
      → Turns number (AskOf number) (news_by (told_by turn.outcome goes_on)) turn.room (with_seats floor lates)
  waits_turns {chunk} {sure} {floor} {seats} {number} {how} lates want goes_on turn way none asked due =
      let (back, outcome, is) = waits_is turn.call turn.outcome (Some want) (sym way ∙ turn.is) in
      subst (λ o. Turns number (AskOf number) (news_by (told_by o goes_on)) turn.room (with_seats floor lates)) (sym outcome)
      (subst (λ n. Turns number (AskOf number) n turn.room (with_seats floor lates)) (sym (no_news goes_on back))
      (turns turn.room turn.before floor seats lates number None turn.turned.view asked
      (nobody_few floor.board.history None _ seats.places lates.places none) (λ has. due)))
