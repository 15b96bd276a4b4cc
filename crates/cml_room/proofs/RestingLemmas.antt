-- Who waits goes on waiting over an entry that brings no news for them.
use Rattle.std.proofs.Common.{◌≡◌, ℕ, ◌<◌, ◌≤◌, Bool, true, false, cond, eqb, List, [], ◌∷◌, length, drop, Option, Some, None, unwrap_or}
use Rattle.std.proofs.Common.{IsTrue, IsSome, IfSome, refl, sym, ap, subst, ◌∙◌, arith, length-append, length-drop}
use Rattle.std.specs.Prelude.{⊤}
use Rattle.std.specs.Option.{option_map}
use Rattle.std.proofs.lemmas.Option.{none-some, same_Some, slice_get_past}
use Rattle.std.proofs.lemmas.Bool.{false≢true, ne_eqb, eqb-true}
use Rattle.cml_board.specs.{Name, Call, Reply, Entry, Want, Origin, kind_by, source_by, start_by, takes, left_by, held, Fits, made, if_made}
use Rattle.cml_board.specs.{begun_by, origin_of, kind_of, sent, sent_by, got, got_by, closes, is_done, is_open, due, owed, received, given}
use Rattle.cml_board.specs.{answer, Waits}
use Rattle.cml_calls.specs.{Kind}
use Rattle.cml_board.specs.declared.call.Call.TheVariants.{ClosePort, MVarInit, Send, Cast, Recv, Get, Put, Take, TakePoll, Swap}
use Rattle.cml_board.specs.declared.entry.Reply.TheVariants.{Done, Made, Got, Closed}
use Rattle.cml_board.specs.declared.want.Want.TheVariants as want
use Rattle.cml_board.proofs.ClosingLemmas.{kind_kept}
use Rattle.cml_board.proofs.TellingLemmas.{stays_open, none_sent}
use Rattle.cml_board.proofs.ReceivedLemmas.{slice_get-append_within}
use Rattle.cml_board.proofs.UnmadeLemmas.{none_at}
use Rattle.cml_room.specs.{news_in, source_of, NoNews}

module _ {M : Type 0} where
  -- a receive that waits is on what is open and owes nothing
  open_none : (t : Bool) (xs : List M) → cond t (received xs) (Some Closed) ≡ None → (t ≡ true) × (length xs ≡ 0)
  open_none true [] e = (refl, refl)
  open_none true (x ∷ xs) e = absurd (none-some _ (sym e))
  open_none false xs e = absurd (none-some _ (sym e))

  none_open : (t : Bool) (xs : List M) → t ≡ true → length xs ≡ 0 → cond t (received xs) (Some Closed) ≡ None
  none_open true [] e none = refl
  none_open true (x ∷ xs) e none = absurd (omega (arith, none))
  none_open false xs e none = absurd (false≢true e)

  given_none : (o : Option M) → given o ≡ None → o ≡ None
  given_none None e = refl
  given_none (Some x) e = absurd (none-some _ (sym e))

  -- an object that was made stays of its kind, and began as it did
  same_kind : (entry : Entry M) (before : List (Entry M)) (object : ℕ) (k : Option Kind) → kind_of before object ≡ k → IsSome k
      → kind_of (entry ∷ before) object ≡ kind_of before object
  same_kind entry before object None is some = absurd (false≢true some)
  same_kind entry before object (Some k) is some = kind_kept entry before object k is ∙ sym is

  pub within_made : (before : List (Entry M)) (object : ℕ) → IsSome (kind_of before object) → object < length (made before)
  within_made before object some = by_cases (origin_of before object) refl some
    where
      by_cases : (o : Option Origin) → origin_of before object ≡ o → IsSome (option_map kind_by o) → object < length (made before)
      by_cases None e some = absurd (false≢true some)
      by_cases (Some origin) e some =
          omega (arith, λ (past : length (made before) ≤ object). none-some _ (sym (slice_get_past (made before) object past) ∙ e))

  pub fits_kept : (entry : Entry M) (before : List (Entry M)) (object : ℕ) (call : Call M) → IsSome (kind_of before object)
      → IfSome (kind_of before object) (λ kind. IsTrue (takes kind call))
      → IsSome (kind_of (entry ∷ before) object) × IfSome (kind_of (entry ∷ before) object) (λ kind. IsTrue (takes kind call))
  fits_kept entry before object call is_made is_taken =
      let same = same_kind entry before object (kind_of before object) refl is_made in
      (subst (λ k. IsSome k) (sym same) is_made, subst (λ k. IfSome k (λ kind. IsTrue (takes kind call))) (sym same) is_taken)

  -- what brings no news there sends nothing there, and doesn't close it
  sends_none : (before : List (Entry M)) (call : Call M) (at : Name) → NoNews before (news_in call) (want.Recv at)
      → sent_by call (source_of before at.0) ≡ []
  sends_none before (Send name message) at none = ap (λ t. cond t (message ∷ []) []) none
  sends_none before (Cast name message) at none = ap (λ t. cond t (message ∷ []) []) none
  sends_none before call at none = refl

  shuts_none : (before : List (Entry M)) (call : Call M) (reply : Reply M) (at : Name)
      → NoNews before (news_in call) (want.Recv at) → closes call reply at.0 ≡ false
  shuts_none before (ClosePort name) reply at none = ap (λ t. cond t (is_done reply) false) none
  shuts_none before call reply at none = refl

  -- an object that is owed nothing still isn't
  owes_none : (entry : Entry M) (before : List (Entry M)) (object : ℕ) → object < length (made before)
      → sent_by entry.call (source_of before object) ≡ []
      → length (owed before object) ≡ 0 → length (owed (entry ∷ before) object) ≡ 0
  owes_none entry before object within sends none =
      let same : origin_of (entry ∷ before) object ≡ origin_of before object =
      slice_get-append_within (made before) (if_made entry.reply (begun_by (made before) before entry.call)) object within in
      let due_same : due (entry ∷ before) object ≡ due before object =
      ap (λ o. drop (start_by o) (sent (entry ∷ before) (source_by object o))) same
      ∙ ap (drop (start_by (origin_of before object))) (none_sent before entry (source_of before object) sends) in
      omega (
        arith,
        ap length due_same,
        length-drop (length (got before object)) (due before object),
        length-drop (length (got (entry ∷ before) object)) (due (entry ∷ before) object),
        length-append (got before object) (got_by entry.call entry.reply object),
        none,
      )

  pub recv_waits : (entry : Entry M) (before : List (Entry M)) (name : Name) → Fits before (Recv name) → answer before (Recv name) ≡ None
      → NoNews before (news_in entry.call) (want.Recv name) → answer (entry ∷ before) (Recv name) ≡ None
  recv_waits entry before name fits none untold =
      let was = open_none (is_open before name.0) (owed before name.0) none in
      none_open (is_open (entry ∷ before) name.0) (owed (entry ∷ before) name.0)
      (stays_open before entry name.0 (shuts_none before entry.call entry.reply name untold) ∙ was.0)
      (owes_none entry before name.0 (within_made before name.0 fits.0) (sends_none before entry.call name untold) was.1)

  -- a variable that holds nothing still doesn't
  abbrev name_in : Reply M → ℕ
  name_in (Made name) = name.0
  name_in reply = 0

  taken_none : (t : Bool) (nothing value : Option M) → nothing ≡ None → value ≡ None → unwrap_or (cond t (Some nothing) None) value ≡ None
  taken_none true nothing value is none = is
  taken_none false nothing value is none = none

  swapped_none : (name : Name) (object : ℕ) (message old : M) (before : List (Entry M)) (t : Bool)
      → eqb name.0 object ≡ t → held before object ≡ None
      → given (held before name.0) ≡ Some (Got old) → unwrap_or (cond t (Some (Some message)) None) (held before object) ≡ None
  swapped_none name object message old before false e none answered = none
  swapped_none name object message old before true e none answered =
      absurd (none-some _ (sym (ap given (ap (held before) (eqb-true name.0 object e) ∙ none)) ∙ answered))

  -- no value is put into the variable
  abbrev PutsNone : Call M → ℕ → Type 0
  PutsNone (Put name message) object = eqb name.0 object ≡ false
  PutsNone call object = ⊤

  holds_none : (before : List (Entry M)) (call : Call M) (reply : Reply M) (object : ℕ)
      → object < length (made before) → PutsNone call object
      → answer before call ≡ Some reply → held before object ≡ None → unwrap_or (left_by call reply object) (held before object) ≡ None
  holds_none before (MVarInit message) (Made name) object within puts answered none =
      ap (λ left. unwrap_or left (held before object)) (none_at name object (Some message) (ne_eqb name.0 object (λ same.
      absurd (omega (arith, same, within, ap name_in (same_Some _ _ answered)))))) ∙ none
  holds_none before (Put name message) Done object within puts answered none =
      ap (λ left. unwrap_or left (held before object)) (none_at name object (Some message) puts) ∙ none
  holds_none before (Swap name message) (Got old) object within puts answered none =
      swapped_none name object message old before (eqb name.0 object) refl none answered
  holds_none before (Take name) (Got message) object within puts answered none =
      taken_none (eqb name.0 object) None (held before object) refl none
  holds_none before (TakePoll name) (Got message) object within puts answered none =
      taken_none (eqb name.0 object) None (held before object) refl none
  holds_none before call reply object within puts answered none = none

  get_none : (before : List (Entry M)) (call : Call M) (at : Name) → NoNews before (news_in call) (want.Get at) → PutsNone call at.0
  get_none before (Put name message) at none = none
  get_none before call at none = tt

  take_none : (before : List (Entry M)) (call : Call M) (at : Name) → NoNews before (news_in call) (want.Take at) → PutsNone call at.0
  take_none before (Put name message) at none = none
  take_none before call at none = tt

  swap_none : (before : List (Entry M)) (call : Call M) (at : Name) → NoNews before (news_in call) (want.Swap at) → PutsNone call at.0
  swap_none before (Put name message) at none = none
  swap_none before call at none = tt

  -- who waits goes on waiting
  pub still_waits : (entry : Entry M) (before : List (Entry M)) (on : Want) → answer before entry.call ≡ Some entry.reply
      → NoNews before (news_in entry.call) on
      → Waits before on → Waits (entry ∷ before) on
  still_waits entry before (want.Recv name) answered untold waits = (
    fits_kept entry before name.0 (Recv name) waits.0.0 waits.0.1,
    recv_waits entry before name waits.0 waits.1 untold,
  )
  still_waits entry before (want.Get name) answered untold waits = (
    fits_kept entry before name.0 (Get name) waits.0.0 waits.0.1,
    ap given (holds_none before entry.call entry.reply name.0 (within_made before name.0 waits.0.0)
        (get_none before entry.call name untold) answered (given_none _ waits.1)),
  )
  still_waits entry before (want.Take name) answered untold waits = (
    fits_kept entry before name.0 (Take name) waits.0.0 waits.0.1,
    ap given (holds_none before entry.call entry.reply name.0 (within_made before name.0 waits.0.0)
        (take_none before entry.call name untold) answered (given_none _ waits.1)),
  )
  still_waits entry before (want.Swap name) answered untold waits = (
    fits_kept entry before name.0 (Take name) waits.0.0 waits.0.1,
    ap given (holds_none before entry.call entry.reply name.0 (within_made before name.0 waits.0.0)
        (swap_none before entry.call name untold) answered (given_none _ waits.1)),
  )
