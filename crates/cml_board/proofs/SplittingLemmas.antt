-- What a history tells, by what it told at a cut and by the entries since.
use Rattle.std.proofs.Common.{◌≡◌, ℕ, zero, suc, ◌+◌, ◌<◌, ◌≤◌, Bool, true, false, not, ◌&&◌, cond, eqb, List, [], ◌∷◌, ◌++◌}
use Rattle.std.proofs.Common.{length, slice_get, Option, Some, unwrap_or, refl, sym, ap, ◌∙◌, arith}
use Rattle.std.proofs.Math.Bool.{and_assoc}
use Rattle.std.proofs.lemmas.Bool.{eqb-true, and_left}
use Rattle.std.proofs.lemmas.List.{append-nil, append_assoc, length-append}
use Rattle.std.proofs.lemmas.Option.{same_Some}
use Rattle.cml_board.specs.{Call, Reply, Entry, Lawful, answer, entries_in, rings_in, made, if_made, begun_by, origin_of, is_open, closes}
use Rattle.cml_board.specs.{sent, sent_by, got, got_by, message_in, owed, received}
use Rattle.cml_board.specs.declared.call.Call.TheVariants.{Recv, Poll}
use Rattle.cml_board.specs.declared.entry.Reply.TheVariants.{Nothing, Closed}
use Rattle.cml_board.proofs.ReceivedLemmas.{slice_get-append_within}

-- an item of a list past its front is in the rest
pub get_behind : {X : Type 0} (xs ys : List X) (i : ℕ) → length xs ≤ i → (j : ℕ) × (slice_get (xs ++ ys) i ≡ slice_get ys j)
get_behind [] ys i past = (i, refl)
get_behind (x ∷ xs) ys zero past = absurd (omega arith)
get_behind (x ∷ xs) ys (suc i) past = get_behind xs ys i (omega arith)

-- a test that nothing is added to
and_last : (t : Bool) → t ≡ (t && true)
and_last true = refl
and_last false = refl

-- what isn't open gives only that it is closed
closed_reply : {M : Type 0} (opened : Bool) (given : Option (Reply M)) (reply : Reply M) → opened ≡ false
    → cond opened given (Some Closed) ≡ Some reply → message_in reply ≡ []
closed_reply opened given reply closed is =
    ap message_in (sym (same_Some Closed reply (ap (λ t. cond t given (Some Closed)) (sym closed) ∙ is)))

module _ {M : Type 0} where
  -- what was lawful at the end was lawful at the cut
  pub lawful_past : (past since : List (Entry M)) → Lawful (since ++ past) → Lawful past
  lawful_past past [] lawful = lawful
  lawful_past past (entry ∷ before) lawful = lawful_past past before lawful.2

  -- what was sent to an object and received from it until the cut, followed by that since
  pub sent_split : (past since : List (Entry M)) (o : ℕ) → sent (since ++ past) o ≡ sent past o ++ sent since o
  sent_split past [] o = sym (append-nil (sent past o))
  sent_split past (entry ∷ before) o =
      ap (λ xs. xs ++ sent_by entry.call o) (sent_split past before o) ∙ append_assoc (sent past o) (sent before o) (sent_by entry.call o)

  pub got_split : (past since : List (Entry M)) (o : ℕ) → got (since ++ past) o ≡ got past o ++ got since o
  got_split past [] o = sym (append-nil (got past o))
  got_split past (entry ∷ before) o =
      ap (λ xs. xs ++ got_by entry.call entry.reply o) (got_split past before o)
      ∙ append_assoc (got past o) (got before o) (got_by entry.call entry.reply o)

  -- and how much it was
  pub length-sent_split : (past since : List (Entry M)) (o : ℕ)
      → length (sent (since ++ past) o) ≡ length (sent past o) + length (sent since o)
  length-sent_split past since o = ap length (sent_split past since o) ∙ length-append (sent past o) (sent since o)

  pub length-got_split : (past since : List (Entry M)) (o : ℕ) → length (got (since ++ past) o) ≡ length (got past o) + length (got since o)
  length-got_split past since o = ap length (got_split past since o) ∙ length-append (got past o) (got since o)

  -- an object is open that was closed neither before the cut nor since
  pub open_split : (past since : List (Entry M)) (o : ℕ) → is_open (since ++ past) o ≡ (is_open past o && is_open since o)
  open_split past [] o = and_last (is_open past o)
  open_split past (entry ∷ before) o =
      ap (λ t. t && not (closes entry.call entry.reply o)) (open_split past before o)
      ∙ and_assoc (is_open past o) (is_open before o) (not (closes entry.call entry.reply o))

  -- entries are counted on, and those of lanes and feeds
  pub entries_split : (past since : List (Entry M)) → entries_in past + entries_in since ≡ entries_in (since ++ past)
  entries_split past since = omega (arith, length-append since past)

  pub rings_split : (past since : List (Entry M)) → rings_in past + rings_in since ≡ rings_in (since ++ past)
  rings_split past [] = omega arith
  rings_split past (entry ∷ before) = omega (arith, rings_split past before)

  -- the objects that were there at the cut are still there, as they began
  pub made_split : (past since : List (Entry M)) → length (made past) ≤ length (made (since ++ past))
  made_split past [] = omega arith
  made_split past (entry ∷ before) =
      omega (
        arith,
        made_split past before,
        length-append (made (before ++ past)) (if_made entry.reply (begun_by (made (before ++ past)) (before ++ past) entry.call)),
      )

  pub origin_split : (past since : List (Entry M)) (o : ℕ) → o < length (made past) → origin_of (since ++ past) o ≡ origin_of past o
  origin_split past [] o was = refl
  origin_split past (entry ∷ before) o was =
      slice_get-append_within (made (before ++ past)) (if_made entry.reply (begun_by (made (before ++ past)) (before ++ past) entry.call)) o
      (omega (arith, made_split past before))
      ∙ origin_split past before o was

  -- a port that is closed gives no message
  got_by_closed : (h : List (Entry M)) (call : Call M) (reply : Reply M) (o : ℕ) → is_open h o ≡ false
      → answer h call ≡ Some reply → got_by call reply o ≡ []
  got_by_closed h (Recv name) reply o closed answered = by_name (eqb name.0 o) refl
    where
      by_name : (t : Bool) → eqb name.0 o ≡ t → cond t (message_in reply) [] ≡ []
      by_name true here =
          closed_reply (is_open h name.0) (received (owed h name.0)) reply (ap (is_open h) (eqb-true name.0 o here) ∙ closed) answered
      by_name false other = refl
  got_by_closed h (Poll name) reply o closed answered = by_name (eqb name.0 o) refl
    where
      by_name : (t : Bool) → eqb name.0 o ≡ t → cond t (message_in reply) [] ≡ []
      by_name true here =
          closed_reply (is_open h name.0) (Some (unwrap_or (received (owed h name.0)) Nothing)) reply
          (ap (is_open h) (eqb-true name.0 o here) ∙ closed) answered
      by_name false other = refl
  got_by_closed h call reply o closed answered = refl

  -- so from one that was closed before the cut nothing was received since
  pub got_none : (past since : List (Entry M)) (o : ℕ) → Lawful (since ++ past) → is_open past o ≡ false → got since o ≡ []
  got_none past [] o lawful closed = refl
  got_none past (entry ∷ before) o lawful closed =
      let still : is_open (before ++ past) o ≡ false = open_split past before o ∙ and_left (is_open past o) (is_open before o) closed in
      ap (λ xs. xs ++ got_by entry.call entry.reply o) (got_none past before o lawful.2 closed)
      ∙ got_by_closed (before ++ past) entry.call entry.reply o still lawful.1
