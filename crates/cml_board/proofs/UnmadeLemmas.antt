-- Nothing was done with a name that was not made.
use Rattle.std.proofs.Common.{◌≡◌, ℕ, ◌≤◌, true, false, not, ◌&&◌, cond, eqb, List, [], ◌∷◌, ◌++◌, length, Some, None}
use Rattle.std.proofs.Common.{unwrap_or, IsSome, refl, ap, subst, ◌∙◌, arith}
use Rattle.std.proofs.lemmas.Bool.{false≢true, ne_eqb}
use Rattle.std.proofs.lemmas.List.{length-append, length_push}
use Rattle.std.proofs.lemmas.Option.{slice_get_past, same_Some}
use Rattle.std.specs.Option.{option_map}
use Rattle.cml_board.specs.{Name, Call, Reply, Entry, kind_by, mvar, only_at, left_by, held, Lawful, IsMade, made, if_made, begun_by}
use Rattle.cml_board.specs.{answer, kind_of, sent, sent_by, got, got_by, message_in, is_open, is_done, closes, facts_of}
use Rattle.cml_board.specs.Facts.{Facts}
use Rattle.cml_board.specs.declared.call.Call.TheVariants.{ClosePort, MVarInit, Send, Cast, Recv, Poll, Put, Take, TakePoll, Swap}
use Rattle.cml_board.specs.declared.entry.Reply.TheVariants.{Done, Made, Got}

-- nothing is left at another name
pub none_at : {X : Type 0} (name : Name) (k : ℕ) (x : X) → eqb name.0 k ≡ false → only_at name k x ≡ None
none_at name k x other = ap (λ t. cond t (Some x) None) other

module _ {M : Type 0} where
  -- facts are equal part by part
  pub facts_equal : (a b : Facts M) → a.origin ≡ b.origin → a.opened ≡ b.opened → a.sent ≡ b.sent → a.got ≡ b.got → a.held ≡ b.held → a ≡ b
  facts_equal a b origin opened sends gets holds =
      ap (λ x. record a { origin = x }) origin ∙ ap (λ x. record a { origin = b.origin; opened = x }) opened
      ∙ ap (λ x. record b { sent = x; got = a.got; held = a.held }) sends ∙ ap (λ x. record b { got = x; held = a.held }) gets
      ∙ ap (λ x. record b { held = x }) holds

  -- a call that fits is on another name
  unmade_name : (history : List (Entry M)) (name k : ℕ) → IsSome (kind_of history name) → length (made history) ≤ k → eqb name k ≡ false
  unmade_name history name k is_made past = ne_eqb name k (λ same.
      let none : kind_of history name ≡ None =
      ap (kind_of history) same ∙ ap (option_map kind_by) (slice_get_past (made history) k past) in
      false≢true (subst (λ o. IsSome o) none is_made))

  -- so it sends nothing to this one, receives nothing from it and doesn't close it
  pub untold : (history : List (Entry M)) (call : Call M) (reply : Reply M) (k : ℕ) → IsMade history call → length (made history) ≤ k
      → (sent_by call k ≡ []) × (got_by call reply k ≡ []) × (closes call reply k ≡ false)
  untold history (ClosePort name) reply k is_made past =
      (refl, refl, ap (λ t. cond t (is_done reply) false) (unmade_name history name.0 k is_made past))
  untold history (Send name message) reply k is_made past =
      (ap (λ t. cond t (message ∷ []) []) (unmade_name history name.0 k is_made past), refl, refl)
  untold history (Cast name message) reply k is_made past =
      (ap (λ t. cond t (message ∷ []) []) (unmade_name history name.0 k is_made past), refl, refl)
  untold history (Recv name) reply k is_made past =
      (refl, ap (λ t. cond t (message_in reply) []) (unmade_name history name.0 k is_made past), refl)
  untold history (Poll name) reply k is_made past =
      (refl, ap (λ t. cond t (message_in reply) []) (unmade_name history name.0 k is_made past), refl)
  untold history call reply k is_made past = (refl, refl, refl)

  -- the name in a reply
  abbrev name_in : Reply M → ℕ
  name_in (Made name) = name.0
  name_in reply = 0

  -- and leaves nothing in it; nor does one that makes an object before it
  pub unleft : (history : List (Entry M)) (call : Call M) (reply : Reply M) (k : ℕ) → IsMade history call → answer history call ≡ Some reply
      → length (made history) ≤ k → length (made history ++ if_made reply (begun_by (made history) history call)) ≤ k
      → left_by call reply k ≡ None
  unleft history (MVarInit message) (Made name) k is_made answered past later =
      none_at name k (Some message) (ne_eqb name.0 k (λ same.
      absurd (omega (arith, same, ap name_in (same_Some _ _ answered), length_push (made history) mvar, later))))
  unleft history (Put name message) Done k is_made answered past later =
      none_at name k (Some message) (unmade_name history name.0 k is_made past)
  unleft history (Swap name message) (Got old) k is_made answered past later =
      none_at name k (Some message) (unmade_name history name.0 k is_made past)
  unleft history (Take name) (Got message) k is_made answered past later = none_at name k None (unmade_name history name.0 k is_made past)
  unleft history (TakePoll name) (Got message) k is_made answered past later =
      none_at name k None (unmade_name history name.0 k is_made past)
  unleft history call reply k is_made answered past later = refl

  -- the names that were not made yet are among those that were not made before
  pub unmade_before : (entry : Entry M) (before : List (Entry M)) (k : ℕ) → length (made (entry ∷ before)) ≤ k → length (made before) ≤ k
  unmade_before entry before k past =
      omega (arith, length-append (made before) (if_made entry.reply (begun_by (made before) before entry.call)))

  -- so no entry told of it
  unmade_opened : (history : List (Entry M)) (k : ℕ) → Lawful history → length (made history) ≤ k → is_open history k ≡ true
  unmade_opened [] k lawful past = refl
  unmade_opened (entry ∷ before) k lawful past =
      let earlier = unmade_before entry before k past in
      let told = untold before entry.call entry.reply k lawful.0.0 earlier in
      ap (λ b. b && not (closes entry.call entry.reply k)) (unmade_opened before k lawful.2 earlier) ∙ ap (λ b. not b) told.2

  pub unmade_sent : (history : List (Entry M)) (k : ℕ) → Lawful history → length (made history) ≤ k → sent history k ≡ []
  unmade_sent [] k lawful past = refl
  unmade_sent (entry ∷ before) k lawful past =
      let earlier = unmade_before entry before k past in
      let told = untold before entry.call entry.reply k lawful.0.0 earlier in
      ap (λ xs. xs ++ sent_by entry.call k) (unmade_sent before k lawful.2 earlier) ∙ told.0

  pub unmade_got : (history : List (Entry M)) (k : ℕ) → Lawful history → length (made history) ≤ k → got history k ≡ []
  unmade_got [] k lawful past = refl
  unmade_got (entry ∷ before) k lawful past =
      let earlier = unmade_before entry before k past in
      let told = untold before entry.call entry.reply k lawful.0.0 earlier in
      ap (λ xs. xs ++ got_by entry.call entry.reply k) (unmade_got before k lawful.2 earlier) ∙ told.1

  unmade_held : (history : List (Entry M)) (k : ℕ) → Lawful history → length (made history) ≤ k → held history k ≡ None
  unmade_held [] k lawful past = refl
  unmade_held (entry ∷ before) k lawful past =
      let earlier = unmade_before entry before k past in
      ap (λ left. unwrap_or left (held before k)) (unleft before entry.call entry.reply k lawful.0.0 lawful.1 earlier past)
      ∙ unmade_held before k lawful.2 earlier

  -- so its facts are those of no object
  pub unmade : (history : List (Entry M)) (k : ℕ) → Lawful history → length (made history) ≤ k
      → facts_of history k ≡ record { origin = None; opened = true; sent = []; got = []; held = None }
  unmade history k lawful past =
      facts_equal (facts_of history k) (record { origin = None; opened = true; sent = []; got = []; held = None })
      (slice_get_past (made history) k past)
      (unmade_opened history k lawful past) (unmade_sent history k lawful past) (unmade_got history k lawful past)
      (unmade_held history k lawful past)
