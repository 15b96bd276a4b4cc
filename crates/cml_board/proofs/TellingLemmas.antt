-- What one more entry tells of each object.
use Rattle.std.proofs.Common.{◌≡◌, ◌≢◌, ℕ, ◌+◌, Bool, true, false, not, ◌&&◌, cond, eqb, List, [], ◌∷◌, ◌++◌, length, slice_get}
use Rattle.std.proofs.Common.{Option, None, unwrap_or, refl, sym, ap, ◌∙◌, arith}
use Rattle.std.proofs.lemmas.Bool.{false≢true, eq-eqb, ne_eqb}
use Rattle.std.proofs.lemmas.List.{append-nil, length_push}
use Rattle.cml_board.specs.{Name, Call, Who, Reply, Entry, Origin, given_call, asked_call, adds, takes_next, asks_port, left_by, held}
use Rattle.cml_board.specs.{Lawful, made, begun_by, origin_of, sent, sent_by, got, got_by, is_open, closes, facts_of, new_facts}
use Rattle.cml_board.specs.declared.call.Call.TheVariants.{ClosePort, Poll}
use Rattle.cml_calls.specs.{Ask, Give}
use Rattle.cml_calls.specs.declared.table.Ask.TheVariants as ask
use Rattle.cml_calls.specs.declared.table.Give.TheVariants as give
use Rattle.cml_board.specs.declared.entry.Reply.TheVariants.{Done, Made, Got, Nothing, Closed}
use Rattle.cml_board.proofs.LogsLemmas.{slice_get_pushed_other}
use Rattle.cml_board.proofs.ListLemmas.{slice_get_pushed}
use Rattle.cml_board.proofs.UnmadeLemmas.{facts_equal, unmade}

and_true : (b : Bool) → (b && true) ≡ b
and_true true = refl
and_true false = refl

and_false : (b : Bool) → (b && false) ≡ false
and_false true = refl
and_false false = refl

-- what a call does under its own name, and under another
at_name : {X : Type 0} (name : Name) (x y : X) → cond (eqb name.0 name.0) x y ≡ x
at_name name x y = ap (λ t. cond t x y) (eq-eqb name.0 name.0 refl)

at_other : {X : Type 0} (name : Name) (k : ℕ) (x y : X) → k ≢ name.0 → cond (eqb name.0 k) x y ≡ y
at_other name k x y other = ap (λ t. cond t x y) (ne_eqb name.0 k (λ e. other (sym e)))

no_messages : {X : Type 0} (t : Bool) → ◌≡◌ {A = List X} (cond t [] []) []
no_messages true = refl
no_messages false = refl

not_closing : (t : Bool) → cond t false false ≡ false
not_closing true = refl
not_closing false = refl

module _ {M : Type 0} where
  abbrev pub noted : Who → Call M → Reply M → Entry M
  noted who call reply = record { who = who; call = call; reply = reply }

  -- an entry that doesn't close, send or receive leaves what was open, sent and received
  pub stays_open : (h : List (Entry M)) (entry : Entry M) (k : ℕ) → closes entry.call entry.reply k ≡ false
      → is_open (entry ∷ h) k ≡ is_open h k
  stays_open h entry k none = ap (λ b. is_open h k && not b) none ∙ and_true (is_open h k)

  pub none_sent : (h : List (Entry M)) (entry : Entry M) (k : ℕ) → sent_by entry.call k ≡ [] → sent (entry ∷ h) k ≡ sent h k
  none_sent h entry k none = ap (λ xs. sent h k ++ xs) none ∙ append-nil (sent h k)

  pub none_got : (h : List (Entry M)) (entry : Entry M) (k : ℕ) → got_by entry.call entry.reply k ≡ [] → got (entry ∷ h) k ≡ got h k
  none_got h entry k none = ap (λ xs. got h k ++ xs) none ∙ append-nil (got h k)

  -- nor does one that leaves nothing change what a variable holds
  pub still_holds : (h : List (Entry M)) (entry : Entry M) (k : ℕ) → left_by entry.call entry.reply k ≡ None → held (entry ∷ h) k ≡ held h k
  still_holds h entry k none = ap (λ left. unwrap_or left (held h k)) none

  -- so all the facts of an object stay
  pub same_facts : (h : List (Entry M)) (entry : Entry M) (k : ℕ) → origin_of (entry ∷ h) k ≡ origin_of h k
      → sent_by entry.call k ≡ [] → got_by entry.call entry.reply k ≡ [] → closes entry.call entry.reply k ≡ false
      → left_by entry.call entry.reply k ≡ None → facts_of (entry ∷ h) k ≡ facts_of h k
  same_facts h entry k begun sends gets shuts leaves =
      facts_equal (facts_of (entry ∷ h) k) (facts_of h k) begun (stays_open h entry k shuts)
      (none_sent h entry k sends) (none_got h entry k gets)
      (still_holds h entry k leaves)

  -- where nothing is made
  pub same_origin : (h : List (Entry M)) (k : ℕ) → slice_get (made h ++ []) k ≡ origin_of h k
  same_origin h k = ap (λ origins. slice_get origins k) (append-nil (made h))

  pub same_made : (h : List (Entry M)) → length (made h ++ []) ≡ length (made h)
  same_made h = ap length (append-nil (made h))

  -- the calls that put a message
  put_sends : (gives : Give) (name : Name) (message : M) (k : ℕ) → adds gives ≡ true
      → sent_by (given_call gives name message) k ≡ cond (eqb name.0 k) (message ∷ []) []
  put_sends give.Send name message k is = refl
  put_sends give.Cast name message k is = refl
  put_sends other name message k is = absurd (false≢true is)

  put_gets : (gives : Give) (name : Name) (message : M) (k : ℕ) → adds gives ≡ true → got_by (given_call gives name message) Done k ≡ []
  put_gets give.Send name message k is = refl
  put_gets give.Cast name message k is = refl
  put_gets other name message k is = absurd (false≢true is)

  put_shuts : (gives : Give) (name : Name) (message : M) (k : ℕ) → adds gives ≡ true → closes (given_call gives name message) Done k ≡ false
  put_shuts give.Send name message k is = refl
  put_shuts give.Cast name message k is = refl
  put_shuts other name message k is = absurd (false≢true is)

  put_leaves : (gives : Give) (name : Name) (message : M) (k : ℕ) → adds gives ≡ true
      → left_by (given_call gives name message) Done k ≡ None
  put_leaves give.Send name message k is = refl
  put_leaves give.Cast name message k is = refl
  put_leaves other name message k is = absurd (false≢true is)

  -- the name has a message more, and nothing else changes
  pub put_here : (h : List (Entry M)) (who : Who) (gives : Give) (name : Name) (message : M) → adds gives ≡ true
      → facts_of (noted who (given_call gives name message) Done ∷ h) name.0
      ≡ record (facts_of h name.0) { sent = sent h name.0 ++ message ∷ [] }
  put_here h who gives name message is =
      let entry : Entry M = noted who (given_call gives name message) Done in
      facts_equal (facts_of (entry ∷ h) name.0) (record (facts_of h name.0) { sent = sent h name.0 ++ message ∷ [] })
      (same_origin h name.0) (stays_open h entry name.0 (put_shuts gives name message name.0 is))
      (ap (λ xs. sent h name.0 ++ xs) (put_sends gives name message name.0 is ∙ at_name name (message ∷ []) []))
      (none_got h entry name.0 (put_gets gives name message name.0 is))
      (still_holds h entry name.0 (put_leaves gives name message name.0 is))

  pub put_other : (h : List (Entry M)) (who : Who) (gives : Give) (name : Name) (message : M) (k : ℕ) → adds gives ≡ true → k ≢ name.0
      → facts_of (noted who (given_call gives name message) Done ∷ h) k ≡ facts_of h k
  put_other h who gives name message k is other =
      same_facts h (noted who (given_call gives name message) Done) k (same_origin h k)
      (put_sends gives name message k is ∙ at_other name k (message ∷ []) [] other) (put_gets gives name message k is)
      (put_shuts gives name message k is)
      (put_leaves gives name message k is)

  pub put_made : (h : List (Entry M)) (who : Who) (gives : Give) (name : Name) (message : M)
      → length (made (noted who (given_call gives name message) Done ∷ h)) ≡ length (made h)
  put_made h who gives name message = same_made h

  -- the calls that take a message
  taken_sends : (asks : Ask) (name : Name) (k : ℕ) → takes_next asks ≡ true → sent_by {M = M} (asked_call asks name) k ≡ []
  taken_sends ask.Recv name k is = refl
  taken_sends ask.Poll name k is = refl
  taken_sends other name k is = absurd (false≢true is)

  taken_gets : (asks : Ask) (name : Name) (message : M) (k : ℕ) → takes_next asks ≡ true
      → got_by (asked_call asks name) (Got message) k ≡ cond (eqb name.0 k) (message ∷ []) []
  taken_gets ask.Recv name message k is = refl
  taken_gets ask.Poll name message k is = refl
  taken_gets other name message k is = absurd (false≢true is)

  taken_shuts : (asks : Ask) (name : Name) (message : M) (k : ℕ) → takes_next asks ≡ true
      → closes (asked_call asks name) (Got message) k ≡ false
  taken_shuts ask.Recv name message k is = refl
  taken_shuts ask.Poll name message k is = refl
  taken_shuts other name message k is = absurd (false≢true is)

  taken_leaves : (asks : Ask) (name : Name) (message : M) (k : ℕ) → takes_next asks ≡ true
      → left_by (asked_call asks name) (Got message) k ≡ None
  taken_leaves ask.Recv name message k is = refl
  taken_leaves ask.Poll name message k is = refl
  taken_leaves other name message k is = absurd (false≢true is)

  -- the name received a message more, and nothing else changes
  pub taken_here : (h : List (Entry M)) (who : Who) (asks : Ask) (name : Name) (message : M) → takes_next asks ≡ true
      → facts_of (noted who (asked_call asks name) (Got message) ∷ h) name.0
      ≡ record (facts_of h name.0) { got = got h name.0 ++ message ∷ [] }
  taken_here h who asks name message is =
      let entry : Entry M = noted who (asked_call asks name) (Got message) in
      facts_equal (facts_of (entry ∷ h) name.0) (record (facts_of h name.0) { got = got h name.0 ++ message ∷ [] })
      (same_origin h name.0) (stays_open h entry name.0 (taken_shuts asks name message name.0 is))
      (none_sent h entry name.0 (taken_sends asks name name.0 is))
      (ap (λ xs. got h name.0 ++ xs) (taken_gets asks name message name.0 is ∙ at_name name (message ∷ []) []))
      (still_holds h entry name.0 (taken_leaves asks name message name.0 is))

  pub taken_other : (h : List (Entry M)) (who : Who) (asks : Ask) (name : Name) (message : M) (k : ℕ) → takes_next asks ≡ true → k ≢ name.0
      → facts_of (noted who (asked_call asks name) (Got message) ∷ h) k ≡ facts_of h k
  taken_other h who asks name message k is other =
      same_facts h (noted who (asked_call asks name) (Got message)) k (same_origin h k)
      (taken_sends asks name k is) (taken_gets asks name message k is ∙ at_other name k (message ∷ []) [] other)
      (taken_shuts asks name message k is)
      (taken_leaves asks name message k is)

  pub taken_made : (h : List (Entry M)) (who : Who) (asks : Ask) (name : Name) (message : M)
      → length (made (noted who (asked_call asks name) (Got message) ∷ h)) ≡ length (made h)
  taken_made h who asks name message = same_made h

  -- a closed port's answer changes nothing
  pub asking_same : (h : List (Entry M)) (who : Who) (asks : Ask) (name : Name) (k : ℕ) → asks_port asks ≡ true
      → facts_of (noted who (asked_call asks name) Closed ∷ h) k ≡ facts_of h k
  asking_same h who ask.Recv name k is =
      same_facts h (noted who (asked_call ask.Recv name) Closed) k (same_origin h k) refl (no_messages (eqb name.0 k)) refl refl
  asking_same h who ask.Poll name k is =
      same_facts h (noted who (asked_call ask.Poll name) Closed) k (same_origin h k) refl (no_messages (eqb name.0 k)) refl refl
  asking_same h who ask.ClosePort name k is =
      same_facts h (noted who (asked_call ask.ClosePort name) Closed) k (same_origin h k) refl refl (not_closing (eqb name.0 k)) refl
  asking_same h who other name k is = same_facts h (noted who (asked_call other name) Closed) k (same_origin h k) refl refl refl refl

  pub asking_made : (h : List (Entry M)) (who : Who) (asks : Ask) (name : Name)
      → length (made (noted who (asked_call asks name) Closed ∷ h)) ≡ length (made h)
  asking_made h who asks name = same_made h

  -- nor does a poll that finds nothing
  pub nothing_same : (h : List (Entry M)) (who : Who) (name : Name) (k : ℕ) → facts_of (noted who (Poll name) Nothing ∷ h) k ≡ facts_of h k
  nothing_same h who name k = same_facts h (noted who (Poll name) Nothing) k (same_origin h k) refl (no_messages (eqb name.0 k)) refl refl

  pub nothing_made : (h : List (Entry M)) (who : Who) (name : Name) → length (made (noted who (Poll name) Nothing ∷ h)) ≡ length (made h)
  nothing_made h who name = same_made h

  -- a port is closed, and nothing else changes
  pub shut_here : (h : List (Entry M)) (who : Who) (name : Name)
      → facts_of (noted who (ClosePort name) Done ∷ h) name.0 ≡ record (facts_of h name.0) { opened = false }
  shut_here h who name =
      facts_equal (facts_of (noted who (ClosePort name) Done ∷ h) name.0) (record (facts_of h name.0) { opened = false })
      (same_origin h name.0) (ap (λ b. is_open h name.0 && not b) (at_name name true false) ∙ and_false (is_open h name.0))
      (append-nil (sent h name.0)) (append-nil (got h name.0)) refl

  pub shut_other : (h : List (Entry M)) (who : Who) (name : Name) (k : ℕ) → k ≢ name.0
      → facts_of (noted who (ClosePort name) Done ∷ h) k ≡ facts_of h k
  shut_other h who name k other =
      same_facts h (noted who (ClosePort name) Done) k (same_origin h k) refl refl (at_other name k true false other) refl

  pub shut_made : (h : List (Entry M)) (who : Who) (name : Name) → length (made (noted who (ClosePort name) Done ∷ h)) ≡ length (made h)
  shut_made h who name = same_made h

  -- a call that makes an object that begins so and holds this, and sends nothing, receives nothing and closes nothing
  pub record Makes (h : List (Entry M)) (call : Call M) (n : Name) (origin : Origin) (value : Option M) : Type 0 where
    pub begins : begun_by (made h) h call ≡ origin ∷ []
    pub sends : (k : ℕ) → sent_by call k ≡ []
    pub gets : (k : ℕ) (reply : Reply M) → got_by call reply k ≡ []
    pub shuts : (k : ℕ) (reply : Reply M) → closes call reply k ≡ false
    pub leaves : unwrap_or (left_by call (Made n) (length (made h))) None ≡ value
    pub others : (k : ℕ) → k ≢ length (made h) → left_by call (Made n) k ≡ None

  -- the name is the next, with these facts
  pub makes_here : (h : List (Entry M)) (who : Who) (call : Call M) (n : Name) (origin : Origin) (value : Option M)
      → Lawful h → Makes h call n origin value
      → facts_of (noted who call (Made n) ∷ h) (length (made h)) ≡ new_facts origin value
  makes_here h who call n origin value lawful makes =
      let entry : Entry M = noted who call (Made n) in
      let next : ℕ = length (made h) in
      let none = unmade h next lawful (omega arith) in
      facts_equal (facts_of (entry ∷ h) next) (new_facts origin value)
      (ap (λ origins. slice_get (made h ++ origins) next) makes.begins ∙ slice_get_pushed (made h) origin)
      (stays_open h entry next (makes.shuts next (Made n)) ∙ ap (λ f. f.opened) none)
      (none_sent h entry next (makes.sends next) ∙ ap (λ f. f.sent) none)
      (none_got h entry next (makes.gets next (Made n)) ∙ ap (λ f. f.got) none)
      (ap (λ f. unwrap_or (left_by call (Made n) next) f.held) none ∙ makes.leaves)

  -- and each other name's stay
  pub makes_other : (h : List (Entry M)) (who : Who) (call : Call M) (n : Name) (origin : Origin) (value : Option M) (k : ℕ)
      → Makes h call n origin value
      → k ≢ length (made h) → facts_of (noted who call (Made n) ∷ h) k ≡ facts_of h k
  makes_other h who call n origin value k makes other =
      same_facts h (noted who call (Made n)) k
      (ap (λ origins. slice_get (made h ++ origins) k) makes.begins ∙ slice_get_pushed_other (made h) origin k other)
      (makes.sends k) (makes.gets k (Made n)) (makes.shuts k (Made n)) (makes.others k other)

  pub makes_more : (h : List (Entry M)) (who : Who) (call : Call M) (n : Name) (origin : Origin) (value : Option M)
      → Makes h call n origin value
      → length (made (noted who call (Made n) ∷ h)) ≡ length (made h) + 1
  makes_more h who call n origin value makes = ap (λ origins. length (made h ++ origins)) makes.begins ∙ length_push (made h) origin
