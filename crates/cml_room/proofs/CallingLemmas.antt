-- What the call of a seat brings to those who wait.
use Rattle.std.proofs.Common.{◌≡◌, ℕ, ◌⊎◌, inl, inr, Bool, true, false, cond, List, ◌∷◌, slice_get, Option, Some, None}
use Rattle.std.proofs.Common.{IsTrue, IsSome, IfSome, refl, sym, ap, subst, ◌∙◌}
use Rattle.std.proofs.lemmas.Bool.{false≢true}
use Rattle.std.proofs.lemmas.Option.{none-some, same_Some}
use Rattle.cml_calls.specs.{Kind, is_mailbox, is_channel, is_port}
use Rattle.cml_calls.specs.declared.kind.Kind.TheVariants.{Mailbox, Channel, Port}
use Rattle.cml_board.specs.{Call, Answer, Who, Reply, Entry, Refusal, Want, Fits, answer, is_open, want_in, Waits, Applies, IsAsBefore}
use Rattle.cml_board.specs.Shown.{Shown}
use Rattle.cml_board.specs.declared.call.Call.TheVariants.{ClosePort, CopyPort, Send, Cast, Recv, Poll, Put, Get, Take, Swap}
use Rattle.cml_board.specs.declared.outcome.Outcome.TheVariants as board
use Rattle.cml_lanes.specs.{FloorShown}
use Rattle.cml_lanes.proofs.MovesLemmas.{unchanged}
use Rattle.cml_room.specs.declared.news.News.{News}
use Rattle.cml_room.specs.{Place, State, MayTurn, news_in, IsOf, news_by, NoneOpen, RoomShown, MayAsk, MayAskAgain, WouldWait, Follows}
use Rattle.cml_room.specs.{IsWatched, Reaches, IsBarred}
use Rattle.cml_room.specs.declared.state.State.TheVariants.{Free, Parked}
use Rattle.cml_room.proofs.RestingLemmas.{fits_kept}
use Rattle.cml_room.proofs.RingNewsLemmas.{one_leads, follows, same_follows}
use Rattle.cml_room.proofs.UnmovedLemmas.{room_kept, same_watched}
use Rattle.cml_room.proofs.BringingLemmas.{Brings}
use Rattle.cml_room.proofs.ParkingLemmas.{MayWait}

-- what takes a message is a mailbox, and so on
mailbox_is : (kind : Option Kind) → IsSome kind → IfSome kind (λ k. IsTrue (is_mailbox k)) → kind ≡ Some Mailbox
mailbox_is None some is = absurd (false≢true some)
mailbox_is (Some Mailbox) some is = refl
mailbox_is (Some kind) some is = absurd (false≢true is)

channel_is : (kind : Option Kind) → IsSome kind → IfSome kind (λ k. IsTrue (is_channel k)) → kind ≡ Some Channel
channel_is None some is = absurd (false≢true some)
channel_is (Some Channel) some is = refl
channel_is (Some kind) some is = absurd (false≢true is)

port_is : (kind : Option Kind) → IsSome kind → IfSome kind (λ k. IsTrue (is_port k)) → kind ≡ Some Port
port_is None some is = absurd (false≢true some)
port_is (Some Port) some is = refl
port_is (Some kind) some is = absurd (false≢true is)

module _ {M : Type 0} where
  -- what a call that fits brings is of an object that takes it
  news_are_of : (entry : Entry M) (before : List (Entry M)) (call : Call M) → Fits before call
      → IfSome (news_in call) (IsOf (entry ∷ before))
  news_are_of entry before (Send name message) fits =
      let kept = fits_kept entry before name.0 (Send name message) fits.0 fits.1 in
      mailbox_is _ kept.0 kept.1
  news_are_of entry before (Cast name message) fits =
      let kept = fits_kept entry before name.0 (Cast name message) fits.0 fits.1 in
      channel_is _ kept.0 kept.1
  news_are_of entry before (ClosePort name) fits =
      let kept = fits_kept entry before name.0 (ClosePort name) fits.0 fits.1 in
      port_is _ kept.0 kept.1
  news_are_of entry before (Put name message) fits = (fits_kept entry before name.0 (Put name message) fits.0 fits.1).1
  news_are_of entry before call fits = tt

  -- an answered call brings its news
  pub answered_brings : (chunk : ℕ) (sure : Bool) (old new : Shown M) (who : Who) (call : Call M) (reply : Answer M) (news : Option News)
      → news ≡ news_in call
      → Applies chunk sure old new who call (board.Answered reply) → Brings news old new
  answered_brings chunk sure old new who call reply news is applies =
      let entry : Entry M = record { who = who; call = call; reply = reply.reply } in
      subst (λ n. Brings n old new) (sym is) (record {
        follows = follows (news_in call) old new (entry ∷ old.history) applies.5.history (one_leads entry old.history applies.2);
        of = subst (λ h. IfSome (news_in call) (IsOf h)) (sym applies.5.history) (news_are_of entry old.history call applies.0);
      })

  -- a call that may wait brings no news
  no_news : (call : Call M) (on : Want) → want_in call ≡ Some on → news_in call ≡ None
  no_news (Recv name) on wants = refl
  no_news (Get name) on wants = refl
  no_news (Take name) on wants = refl
  no_news (Swap name message) on wants = refl
  no_news call on wants = absurd (none-some on wants)

  pub may_brings : (room : RoomShown M) (number : ℕ) (call : Call M) (on : Want) (news : Option News)
      → MayAsk room number ⊎ MayAskAgain room number call
      → news ≡ news_in call → slice_get room.seats number ≡ Some (Parked on) → news ≡ None
  may_brings room number call on news (inl free) is parked = absurd (let clash : Free ≡ Parked on = same_Some _ _ (sym free ∙ parked) in cc)
  may_brings room number call on news (inr again) is parked = is ∙ no_news call again.0 again.1

  -- an answer has its call
  pub answered_news : (chunk : ℕ) (sure : Bool) (old new : Shown M) (who : Who) (call : Call M) (reply : Answer M) (news : Option News)
      → news ≡ news_in call
      → Applies chunk sure old new who call (board.Answered reply) → news ≡ news_by (board.Answered reply)
  answered_news chunk sure old new who call reply news is applies = is ∙ ap news_in (sym applies.3)

  -- a refused call left the board as it was
  pub refused_before : (chunk : ℕ) (sure : Bool) (old new : FloorShown M) (number : ℕ) (call back : Call M) (refusal : Refusal)
      → Reaches chunk sure old new number call (board.Refused refusal back) ⊎ IsBarred old new call refusal back
      → IsAsBefore old.board new.board
  refused_before chunk sure old new number call back refusal (inl reaches) = reaches.applies.2
  refused_before chunk sure old new number call back refusal (inr barred) =
      subst (λ (b : Shown M). IsAsBefore old.board b) (sym barred.board) (unchanged old.board)

  pub before_follows : (news : Option News) (old new : Shown M) → IsAsBefore old new → Follows news old new
  before_follows news old new same = same_follows news old new same.history

  -- who waits on a call, would wait on its want
  call_waits : (history : List (Entry M)) (call : Call M) (on : Want) → want_in call ≡ Some on → Fits history call
      → answer history call ≡ None → Waits history on
  call_waits history (Recv name) on wants fits none = subst (Waits history) (same_Some _ _ wants) (fits, none)
  call_waits history (Get name) on wants fits none = subst (Waits history) (same_Some _ _ wants) (fits, none)
  call_waits history (Take name) on wants fits none = subst (Waits history) (same_Some _ _ wants) (fits, none)
  call_waits history (Swap name message) on wants fits none = subst (Waits history) (same_Some _ _ wants) ((fits.0, fits.1), none)
  call_waits history call on wants fits none = absurd (none-some _ wants)

  pub call_would : (chunk : ℕ) (sure : Bool) (old new : Shown M) (who : Who) (call back : Call M) (on : Want) → want_in call ≡ Some on
      → Applies chunk sure old new who call (board.WouldWait back) → WouldWait new on
  call_would chunk sure old new who call back on wants applies = record {
    waits = subst (λ h. Waits h on) (sym applies.4.history) (call_waits old.history call on wants applies.0 applies.2);
    room = room_kept old new applies.4 applies.1;
  }

  -- a seat that may make the call is free, or waits for what it wants
  pub may_turn : (room : RoomShown M) (states : List State) (number : ℕ) (call : Call M) → states ≡ room.seats
      → MayAsk room number ⊎ MayAskAgain room number call → MayTurn states number
  may_turn room states number call same (inl free) = inl (ap (λ l. slice_get l number) same ∙ free)
  may_turn room states number call same (inr again) = inr (again.0, ap (λ l. slice_get l number) same ∙ again.2)

  pub may_wait : (room : RoomShown M) (states : List State) (number : ℕ) (call : Call M) (on : Want) → states ≡ room.seats
      → MayAsk room number ⊎ MayAskAgain room number call → want_in call ≡ Some on → MayWait states number on
  may_wait room states number call on same (inl free) wants = inl (ap (λ l. slice_get l number) same ∙ free)
  may_wait room states number call on same (inr again) wants =
      inr (ap (λ l. slice_get l number) same ∙ (again.2 ∙ ap (λ w. Some (Parked w)) (same_Some again.0 on (sym again.1 ∙ wants))))

  pub before_watched : (old new : FloorShown M) (places : List Place) (all_due : Bool)
      → IsWatched old places all_due → IsAsBefore old.board new.board
      → new.lanes ≡ old.lanes → IsWatched new places all_due
  before_watched old new places all_due was same lanes =
      same_watched old new places all_due was same.history (room_kept old.board new.board same) (λ none. subst NoneOpen lanes none)

  -- only calls that want something wait
  open_some : (t : Bool) (x y : Reply M) → ◌≡◌ {A = Option (Reply M)} (cond t (Some x) (Some y)) None → ⊥
  open_some true x y e = none-some x (sym e)
  open_some false x y e = none-some y (sym e)

  pub waits_wants : (history : List (Entry M)) (call : Call M) → want_in call ≡ None → answer history call ≡ None → ⊥
  waits_wants history (Recv name) wants none = none-some _ (sym wants)
  waits_wants history (Get name) wants none = none-some _ (sym wants)
  waits_wants history (Take name) wants none = none-some _ (sym wants)
  waits_wants history (Swap name message) wants none = none-some _ (sym wants)
  waits_wants history (CopyPort name) wants none = open_some (is_open history name.0) _ _ none
  waits_wants history (ClosePort name) wants none = open_some (is_open history name.0) _ _ none
  waits_wants history (Poll name) wants none = open_some (is_open history name.0) _ _ none
  waits_wants history call wants none = none-some _ (sym none)
