-- What a call is answered is a reply that it may have.
use Rattle.std.proofs.Common.{◌≡◌, ℕ, List, [], ◌∷◌, Bool, true, false, cond, slice_get, Option, Some, None, refl}
use Rattle.std.proofs.Common.{sym, ap, ◌∙◌, zero, suc, subst}
use Rattle.std.specs.Prelude.{unwrap_or, is_some}
use Rattle.std.specs.Option.{option_map}
use Rattle.std.proofs.lemmas.Option.{same_Some, none-some}
use Rattle.cml_board.specs.{Call, Entry, Reply, Lawful, answer, is_open, owed, held, row_of, may_have}
use Rattle.cml_board.specs.declared.call.Call.TheVariants as call
use Rattle.cml_board.specs.declared.entry.Reply.TheVariants as reply

module _ {M : Type 0} (c : Call M) (r : Reply M) where
  just : (x : Reply M) → may_have (row_of c) x ≡ true → Some x ≡ Some r → may_have (row_of c) r ≡ true
  just x suit e = ap (may_have (row_of c)) (sym (same_Some _ _ e)) ∙ suit

  where_it_is_open : (t : Bool) (x : Option (Reply M)) → (x ≡ Some r → may_have (row_of c) r ≡ true)
      → may_have {M = M} (row_of c) reply.Closed ≡ true → cond t x (Some reply.Closed) ≡ Some r → may_have (row_of c) r ≡ true
  where_it_is_open true x opened closed e = opened e
  where_it_is_open false x opened closed e = just reply.Closed closed e

  got_some : ((m : M) → may_have (row_of c) (reply.Got m) ≡ true) → (o : Option M) → option_map reply.Got o ≡ Some r
      → may_have (row_of c) r ≡ true
  got_some suit None e = absurd (none-some r e)
  got_some suit (Some m) e = just (reply.Got m) (suit m) e

  got_or_nothing : ((m : M) → may_have (row_of c) (reply.Got m) ≡ true) → may_have {M = M} (row_of c) reply.Nothing ≡ true
      → (o : Option M) → Some (unwrap_or (option_map reply.Got o) reply.Nothing) ≡ Some r → may_have (row_of c) r ≡ true
  got_or_nothing suit nothing None e = just reply.Nothing nothing e
  got_or_nothing suit nothing (Some m) e = just (reply.Got m) (suit m) e

  put_or_done : may_have {M = M} (row_of c) reply.Put ≡ true → may_have {M = M} (row_of c) reply.Done ≡ true
      → (t : Bool) → Some (cond t reply.Put reply.Done) ≡ Some r → may_have (row_of c) r ≡ true
  put_or_done put done true e = just reply.Put put e
  put_or_done put done false e = just reply.Done done e

module _ {M : Type 0} where
  pub answer_suits : (history : List (Entry M)) (c : Call M) (r : Reply M) → answer history c ≡ Some r → may_have (row_of c) r ≡ true
  answer_suits history (call.CopyPort name) r e =
      where_it_is_open (call.CopyPort name) r (is_open history name.0) _ (λ is. just (call.CopyPort name) r _ refl is) refl e
  answer_suits history (call.ClosePort name) r e =
      where_it_is_open (call.ClosePort name) r (is_open history name.0) _ (λ is. just (call.ClosePort name) r _ refl is) refl e
  answer_suits history (call.Recv name) r e = where_it_is_open (call.Recv name) r (is_open history name.0) _
      (λ is. got_some (call.Recv name) r (λ m. refl) (slice_get (owed history name.0) 0) is) refl e
  answer_suits history (call.Poll name) r e = where_it_is_open (call.Poll name) r (is_open history name.0) _
      (λ is. got_or_nothing (call.Poll name) r (λ m. refl) refl (slice_get (owed history name.0) 0) is) refl e
  answer_suits history (call.Put name message) r e = put_or_done (call.Put name message) r refl refl (is_some (held history name.0)) e
  answer_suits history (call.Get name) r e = got_some (call.Get name) r (λ m. refl) (held history name.0) e
  answer_suits history (call.GetPoll name) r e = got_or_nothing (call.GetPoll name) r (λ m. refl) refl (held history name.0) e
  answer_suits history (call.Take name) r e = got_some (call.Take name) r (λ m. refl) (held history name.0) e
  answer_suits history (call.TakePoll name) r e = got_or_nothing (call.TakePoll name) r (λ m. refl) refl (held history name.0) e
  answer_suits history (call.Swap name message) r e = got_some (call.Swap name message) r (λ m. refl) (held history name.0) e
  answer_suits history c r e = just c r _ refl e

  pub lawful_suits : (history : List (Entry M)) → Lawful history → (k : ℕ) (entry : Entry M) → slice_get history k ≡ Some entry
      → may_have (row_of entry.call) entry.reply ≡ true
  lawful_suits [] lawful k entry is = absurd (none-some entry is)
  lawful_suits (first ∷ before) lawful zero entry is =
      let same : first ≡ entry = same_Some _ _ is in
      subst (λ (e : Entry M). may_have (row_of e.call) e.reply ≡ true) same (answer_suits before first.call first.reply lawful.1)
  lawful_suits (first ∷ before) lawful (suc k) entry is = lawful_suits before lawful.2 k entry is
