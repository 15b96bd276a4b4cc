-- How entries of a lane, and entries of others, change what the journal has of each lane.
use Rattle.std.proofs.Common.{◌≡◌, ◌≢◌, ℕ, ◌≤◌, Bool, true, false, cond, List, [], ◌∷◌, ◌++◌, length, Some, IsSome, IfSome}
use Rattle.std.proofs.Common.{IsTrue, subst, refl, sym, ap, ◌∙◌, arith, length-append}
use Rattle.std.proofs.lemmas.Bool.{eq-eqb, ne_eqb}
use Rattle.std.proofs.lemmas.List.{append-nil}
use Rattle.cml_board.specs.{Name, Call, Entry, takes, kind_of, answer, Fits, has_message}
use Rattle.cml_calls.specs.{Kind}
use Rattle.cml_board.specs.declared.call.Call.TheVariants as call
use Rattle.cml_board.specs.declared.entry.Reply.TheVariants.{Done}
use Rattle.cml_board.proofs.ClosingLemmas.{kind_kept}
use Rattle.cml_lanes.specs.{Way, way_call, way_kind, is_lane, moved_by, laned, lane_entry, with_lane}
use Rattle.cml_lanes.specs.declared.way.Way.TheVariants.{Send, Cast}
use Rattle.cml_lanes.proofs.EnteredLemmas.{unchanged, appended, lasting}

module _ {M : Type 0} where
  one_at_most : (b : Bool) (call : Call M) → length (cond b (moved_by call) []) ≤ 1
  one_at_most false call = omega arith
  one_at_most true (call.Send name message) = omega arith
  one_at_most true (call.Cast name message) = omega arith
  one_at_most true call = omega arith

  -- a lane has no more messages in the journal than there are entries
  pub laned_within : (history : List (Entry M)) (number : ℕ) → length (laned history number) ≤ length history
  laned_within [] number = omega arith
  laned_within (entry ∷ before) number =
      omega (
        arith,
        laned_within before number,
        one_at_most (is_lane entry.who number) entry.call,
        length-append (laned before number) (cond (is_lane entry.who number) (moved_by entry.call) []),
      )

  -- an entry of another adds none
  pub laned_other : (entry : Entry M) (history : List (Entry M)) (number : ℕ) → is_lane entry.who number ≡ false
      → laned (entry ∷ history) number ≡ laned history number
  laned_other entry history number other = ap (λ b. laned history number ++ cond b (moved_by entry.call) []) other
      ∙ append-nil (laned history number)

  moved_way : (way : Way) (target : Name) (message : M) → moved_by (way_call way target message) ≡ message ∷ []
  moved_way Send target message = refl
  moved_way Cast target message = refl

  pub laned_one : (number : ℕ) (way : Way) (target : Name) (message : M) (history : List (Entry M))
      → laned (lane_entry number way target message ∷ history) number ≡ laned history number ++ message ∷ []
  laned_one number way target message history =
      ap (λ b. laned history number ++ cond b (moved_by (way_call way target message)) []) (eq-eqb number number refl)
      ∙ ap (λ ms. laned history number ++ ms) (moved_way way target message)

  -- the entries of a lane's messages add them to what it has, and leave the others
  pub laned_more : (number : ℕ) (way : Way) (target : Name) (messages : List M) (history : List (Entry M))
      → laned (with_lane number way target messages history) number ≡ laned history number ++ messages
  laned_more number way target = appended (lane_entry number way target) (λ h. laned h number) (laned_one number way target)

  pub laned_apart : (number : ℕ) (way : Way) (target : Name) (messages : List M) (history : List (Entry M)) (other : ℕ) → other ≢ number
      → laned (with_lane number way target messages history) other ≡ laned history other
  laned_apart number way target messages history other apart =
      unchanged (lane_entry number way target) (λ h. laned h other)
      (λ message h. laned_other (lane_entry number way target message) h other (ne_eqb number other (λ e. apart (sym e)))) messages history

  -- and no object changes its kind
  pub kind_more : (number : ℕ) (way : Way) (target : Name) (messages : List M) (history : List (Entry M)) (object : ℕ) (kind : Kind)
      → kind_of history object ≡ Some kind → kind_of (with_lane number way target messages history) object ≡ Some kind
  kind_more number way target messages history object kind =
      lasting (lane_entry number way target) (λ h. kind_of h object ≡ Some kind)
      (λ message h. kind_kept (lane_entry number way target message) h object kind) messages history

  -- a lane's call fits its target, is answered, and has a message
  pub fits_way : (history : List (Entry M)) (way : Way) (target : Name) (message : M) → kind_of history target.0 ≡ Some (way_kind way)
      → Fits history (way_call way target message)
  fits_way history Send target message is = (
    subst (λ k. IsSome k) (sym is) refl,
    subst (λ k. IfSome k (λ kind. IsTrue (takes kind (way_call Send target message)))) (sym is) refl,
  )
  fits_way history Cast target message is = (
    subst (λ k. IsSome k) (sym is) refl,
    subst (λ k. IfSome k (λ kind. IsTrue (takes kind (way_call Cast target message)))) (sym is) refl,
  )

  pub answer_way : (history : List (Entry M)) (way : Way) (target : Name) (message : M)
      → answer history (way_call way target message) ≡ Some Done
  answer_way history Send target message = refl
  answer_way history Cast target message = refl

  pub way_has_message : (way : Way) (target : Name) (message : M) → has_message (way_call way target message) ≡ true
  way_has_message Send target message = refl
  way_has_message Cast target message = refl

  pub same_way_call : {w v : Way} {t u : Name} {m n : M} → w ≡ v → t ≡ u → m ≡ n → way_call w t m ≡ way_call v u n
  same_way_call {w} {v} {t} {u} {m} {n} way target message =
      ap (λ x. way_call x t m) way ∙ ap (λ x. way_call v x m) target ∙ ap (λ x. way_call v u x) message
