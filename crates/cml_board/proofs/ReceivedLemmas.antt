-- In a lawful history what was received is how what is due begins.
use Rattle.std.proofs.Common.{◌≡◌, ℕ, zero, suc, ◌<◌, ◌≤◌, inl, inr, Bool, true, false, cond, eqb, List, [], ◌∷◌, ◌++◌, length, drop}
use Rattle.std.proofs.Common.{slice_get, Option, Some, None, unwrap_or, refl, sym, ap, subst, ◌∙◌, arith}
use Rattle.std.proofs.lemmas.Bool.{eqb-true, cases_lt}
use Rattle.std.proofs.lemmas.List.{append-nil, append_assoc, drop_at}
use Rattle.std.proofs.lemmas.Option.{same_Some, none-some}
use Rattle.cml_board.specs.{Call, Reply, Entry, source_by, start_by, Lawful, answer, made, if_made, begun_by, origin_of, is_open, sent}
use Rattle.cml_board.specs.{sent_by, got, got_by, message_in, due, owed, received, where_open}
use Rattle.cml_board.specs.declared.call.Call.TheVariants.{Send, Cast, Recv, Poll}
use Rattle.cml_board.specs.declared.entry.Reply.TheVariants.{Got, Nothing, Closed}
use Rattle.cml_board.proofs.UnmadeLemmas.{untold, unmade_got}

-- an item of a list stays at its place when more items follow
pub slice_get-append_within : {X : Type 0} (xs ys : List X) (i : ℕ) → i < length xs → slice_get (xs ++ ys) i ≡ slice_get xs i
slice_get-append_within [] ys i within = absurd (omega arith)
slice_get-append_within (x ∷ xs) ys zero within = refl
slice_get-append_within (x ∷ xs) ys (suc i) within = slice_get-append_within xs ys i (omega arith)

module _ {M : Type 0} where
  -- one list is another and then some rest
  abbrev pub Begins : List M → List M → Type 0
  Begins front whole = (rest : List M) × (front ++ rest ≡ whole)

  begins_further : (front whole more : List M) → Begins front whole → Begins whole more → Begins front more
  begins_further front whole more one two =
      (one.0 ++ two.0, sym (append_assoc front one.0 two.0) ∙ ap (λ xs. xs ++ two.0) one.1 ∙ two.1)

  begins_nil : (front whole : List M) → Begins front whole → Begins (front ++ []) whole
  begins_nil front whole begins = (begins.0, ap (λ xs. xs ++ begins.0) (append-nil front) ∙ begins.1)

  -- what is left of a list where more follows
  drop_grows : (n : ℕ) (xs ys : List M) → Begins (drop n xs) (drop n (xs ++ ys))
  drop_grows zero xs ys = (ys, refl)
  drop_grows (suc n) [] ys = (drop (suc n) ys, refl)
  drop_grows (suc n) (x ∷ xs) ys = drop_grows n xs ys

  -- the message of a receive's reply is the first that is owed
  begins_received : (front whole : List M) (reply : Reply M) → Begins front whole → received (drop (length front) whole) ≡ Some reply
      → Begins (front ++ message_in reply) whole
  begins_received front whole reply begins first = by_rest begins.0 begins.1
    where
      owes : (rest : List M) → front ++ rest ≡ whole → drop (length front) whole ≡ rest
      owes rest is = ap (drop (length front)) (sym is) ∙ drop_at front rest (length front) refl

      by_rest : (rest : List M) → front ++ rest ≡ whole → Begins (front ++ message_in reply) whole
      by_rest [] is = absurd (none-some reply (sym (ap received (owes [] is)) ∙ first))
      by_rest (x ∷ xs) is =
          let gives : Got x ≡ reply = same_Some _ _ (sym (ap received (owes (x ∷ xs) is)) ∙ first) in
          subst (λ r. Begins (front ++ message_in r) whole) gives (xs, append_assoc front (x ∷ []) xs ∙ is)

  -- and so is that of a poll's, if there is one
  begins_polled : (front whole : List M) (reply : Reply M) → Begins front whole
      → unwrap_or (received (drop (length front) whole)) Nothing ≡ reply
      → Begins (front ++ message_in reply) whole
  begins_polled front whole reply begins is = by_first (received (drop (length front) whole)) refl is
    where
      by_first : (first : Option (Reply M)) → received (drop (length front) whole) ≡ first → unwrap_or first Nothing ≡ reply
          → Begins (front ++ message_in reply) whole
      by_first None none is = subst (λ r. Begins (front ++ message_in r) whole) is (begins_nil front whole begins)
      by_first (Some first) gives is = begins_received front whole reply begins (gives ∙ ap (λ r. Some r) is)

  -- a closed port gives no message
  begins_open : (front whole : List M) (opened : Bool) (given : Option (Reply M)) (reply : Reply M) → Begins front whole
      → (given ≡ Some reply → Begins (front ++ message_in reply) whole)
      → cond opened given (Some Closed) ≡ Some reply → Begins (front ++ message_in reply) whole
  begins_open front whole true given reply begins gives is = gives is
  begins_open front whole false given reply begins gives is =
      subst (λ r. Begins (front ++ message_in r) whole) (same_Some Closed reply is) (begins_nil front whole begins)

  -- a reply at another name is no message
  begins_here : (name object : ℕ) (front whole messages : List M) → Begins front whole → (name ≡ object → Begins (front ++ messages) whole)
      → Begins (front ++ cond (eqb name object) messages []) whole
  begins_here name object front whole messages begins here = by_name (eqb name object) refl
    where
      by_name : (t : Bool) → eqb name object ≡ t → Begins (front ++ cond t messages []) whole
      by_name true same = here (eqb-true name object same)
      by_name false other = begins_nil front whole begins

  -- so one more answer goes on in what was due before
  begins_answered : (before : List (Entry M)) (call : Call M) (reply : Reply M) (o : ℕ) → answer before call ≡ Some reply
      → Begins (got before o) (due before o) → Begins (got before o ++ got_by call reply o) (due before o)
  begins_answered before (Recv name) reply o answered begins =
      begins_here name.0 o (got before o) (due before o) (message_in reply) begins (λ here.
      begins_open (got before o) (due before o) (is_open before o) (received (owed before o)) reply begins
      (begins_received (got before o) (due before o) reply begins)
      (ap (λ n. where_open before n (received (owed before n))) (sym here) ∙ answered))
  begins_answered before (Poll name) reply o answered begins =
      begins_here name.0 o (got before o) (due before o) (message_in reply) begins (λ here.
      begins_open (got before o) (due before o) (is_open before o) (Some (unwrap_or (received (owed before o)) Nothing)) reply begins
      (λ given. begins_polled (got before o) (due before o) reply begins (same_Some _ _ given))
      (ap (λ n. where_open before n (Some (unwrap_or (received (owed before n)) Nothing))) (sym here) ∙ answered))
  begins_answered before call reply o answered begins = begins_nil (got before o) (due before o) begins

  -- what is due to an object that was made only grows
  due_grows : (entry : Entry M) (before : List (Entry M)) (o : ℕ) → o < length (made before)
      → Begins (due before o) (due (entry ∷ before) o)
  due_grows entry before o was =
      let same : origin_of (entry ∷ before) o ≡ origin_of before o =
      slice_get-append_within (made before) (if_made entry.reply (begun_by (made before) before entry.call)) o was in
      subst (λ origin. Begins (due before o) (drop (start_by origin) (sent (entry ∷ before) (source_by o origin)))) (sym same)
      (drop_grows (start_by (origin_of before o)) (sent before (source_by o (origin_of before o)))
      (sent_by entry.call (source_by o (origin_of before o))))

  -- what was received is how what is due begins
  pub got_begins_due : (h : List (Entry M)) (o : ℕ) → Lawful h → (rest : List M) × (got h o ++ rest ≡ due h o)
  got_begins_due [] o lawful = (due {M = M} [] o, refl)
  got_begins_due (entry ∷ before) o lawful = elim (cases_lt o (length (made before))) [
    | inl was ↦
        begins_further (got (entry ∷ before) o) (due before o) (due (entry ∷ before) o)
        (begins_answered before entry.call entry.reply o lawful.1 (got_begins_due before o lawful.2)) (due_grows entry before o was)
    | inr past ↦
        let none : got (entry ∷ before) o ≡ [] =
        ap (λ xs. xs ++ got_by entry.call entry.reply o) (unmade_got before o lawful.2 past)
        ∙ (untold before entry.call entry.reply o lawful.0.0 past).1 in
        (due (entry ∷ before) o, ap (λ xs. xs ++ due (entry ∷ before) o) none)
  ]

  -- what was received, followed by what is owed, is what is due
  pub got_append_owed : (h : List (Entry M)) (o : ℕ) → Lawful h → got h o ++ owed h o ≡ due h o
  got_append_owed h o lawful =
      let begins = got_begins_due h o lawful in
      let owes : owed h o ≡ begins.0 =
      ap (drop (length (got h o))) (sym begins.1) ∙ drop_at (got h o) begins.0 (length (got h o)) refl in
      ap (λ xs. got h o ++ xs) owes ∙ begins.1

  one_at_most : (t : Bool) (message : M) → length (cond t (message ∷ []) []) ≤ 1
  one_at_most true message = omega arith
  one_at_most false message = omega arith

  pub length-sent_by : (call : Call M) (o : ℕ) → length (sent_by call o) ≤ 1
  length-sent_by (Send name message) o = one_at_most (eqb name.0 o) message
  length-sent_by (Cast name message) o = one_at_most (eqb name.0 o) message
  length-sent_by call o = omega arith
