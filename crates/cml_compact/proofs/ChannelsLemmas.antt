-- A port's channel was made before the port.
use Rattle.std.proofs.Common.{◌≡◌, ℕ, zero, suc, ◌+◌, ◌<◌, ◌≤◌, inl, inr, List, [], ◌∷◌, length, slice_get}
use Rattle.std.proofs.Common.{Option, Some, None, IsTrue, IsSome, IfSome, refl, sym, ap, subst, ◌∙◌, arith}
use Rattle.std.specs.Bool.{⊤}
use Rattle.std.specs.Option.{option_map}
use Rattle.std.proofs.lemmas.Bool.{cases_lt, false≢true}
use Rattle.std.proofs.lemmas.Option.{slice_get_within}
use Rattle.cml_calls.specs.declared.kind.Kind.{Kind}
use Rattle.cml_calls.specs.declared.kind.Kind.TheVariants as kind
use Rattle.cml_calls.specs.Kinds.{is_channel}
use Rattle.cml_board.specs.declared.call.Call.{Call}
use Rattle.cml_board.specs.declared.call.Call.TheVariants.{NewMailbox, NewChannel, NewPort, CopyPort, NewIVar, NewMVar, MVarInit}
use Rattle.cml_board.specs.declared.entry.Reply.{Reply}
use Rattle.cml_board.specs.declared.entry.Reply.TheVariants.{Made}
use Rattle.cml_board.specs.declared.entry.Entry.{Entry}
use Rattle.cml_board.specs.Origins.{Origin, mailbox, channel, port, ivar, mvar, copy_of, kind_by}
use Rattle.cml_board.specs.History.{Lawful, Fits, made, if_made, begun_by, origin_of, kind_of, sent, got}
use Rattle.cml_board.proofs.ReceivedLemmas.{slice_get-append_within}
use Rattle.cml_board.proofs.SplittingLemmas.{get_behind}
use Rattle.cml_board.proofs.ClosingLemmas.{kind_kept}

channel_kind : (k : Option Kind) → IsSome k → IfSome k (λ kind. IsTrue (is_channel kind)) → k ≡ Some kind.Channel
channel_kind None some is = absurd (false≢true some)
channel_kind (Some kind.Channel) some is = refl
channel_kind (Some other) some is = absurd (false≢true is)

module _ {M : Type 0} where
  -- what is of a kind was made
  pub kind_within : (h : List (Entry M)) (o : ℕ) (k : Kind) → kind_of h o ≡ Some k → o < length (made h)
  kind_within h o k is = by_origin (origin_of h o) refl
    where
      by_origin : (x : Option Origin) → origin_of h o ≡ x → o < length (made h)
      by_origin (Some origin) e = slice_get_within (made h) o origin e
      by_origin None e = let none : ◌≡◌ {A = Option Kind} None (Some k) = sym (ap (option_map kind_by) e) ∙ is in cc

  -- this origin is no port's, or one of a channel that was made before
  abbrev OfChannel : List (Entry M) → ℕ → Option Origin → Type 0
  OfChannel h o (Some (port source start)) = (source < o) × (kind_of h source ≡ Some kind.Channel)
  OfChannel h o origin = ⊤

  one_of : (h : List (Entry M)) (o j : ℕ) (x : Origin) → OfChannel h o (Some x) → OfChannel h o (slice_get (x ∷ []) j)
  one_of h o zero x is = is
  one_of h o (suc j) x is = tt

  begun_of : (h : List (Entry M)) (o j : ℕ) (call : Call M) → Fits h call → ((k : ℕ) → OfChannel h k (origin_of h k)) → length (made h) ≤ o
      → OfChannel h o (slice_get (begun_by (made h) h call) j)
  begun_of h o j NewMailbox fits others past = one_of h o j mailbox tt
  begun_of h o j NewChannel fits others past = one_of h o j channel tt
  begun_of h o j NewIVar fits others past = one_of h o j ivar tt
  begun_of h o j NewMVar fits others past = one_of h o j mvar tt
  begun_of h o j (MVarInit message) fits others past = one_of h o j mvar tt
  begun_of h o j (NewPort name) fits others past =
      let is : kind_of h name.0 ≡ Some kind.Channel = channel_kind (kind_of h name.0) fits.0 fits.1 in
      one_of h o j (port name.0 (length (sent h name.0))) (omega (arith, kind_within h name.0 kind.Channel is, past), is)
  begun_of h o j (CopyPort name) fits others past = copied (origin_of h name.0) refl
    where
      copied : (origin : Option Origin) → origin_of h name.0 ≡ origin → OfChannel h o (slice_get (copy_of origin (length (got h name.0))) j)
      copied (Some (port source start)) e =
          let own : (source < name.0) × (kind_of h source ≡ Some kind.Channel) = subst (λ x. OfChannel h name.0 x) e (others name.0) in
          one_of h o j (port source (start + length (got h name.0)))
          (omega (arith, own.0, slice_get_within (made h) name.0 (port source start) e, past), own.1)
      copied (Some mailbox) e = tt
      copied (Some channel) e = tt
      copied (Some ivar) e = tt
      copied (Some mvar) e = tt
      copied None e = tt
  begun_of h o j call fits others past = tt

  made_of : (h : List (Entry M)) (o j : ℕ) (call : Call M) (reply : Reply M) → Fits h call → ((k : ℕ) → OfChannel h k (origin_of h k))
      → length (made h) ≤ o
      → OfChannel h o (slice_get (if_made reply (begun_by (made h) h call)) j)
  made_of h o j call (Made n) fits others past = begun_of h o j call fits others past
  made_of h o j call reply fits others past = tt

  of_later : (entry : Entry M) (h : List (Entry M)) (o : ℕ) (x : Option Origin) → OfChannel h o x → OfChannel (entry ∷ h) o x
  of_later entry h o (Some (port source start)) is = (is.0, kind_kept entry h source kind.Channel is.1)
  of_later entry h o (Some mailbox) is = tt
  of_later entry h o (Some channel) is = tt
  of_later entry h o (Some ivar) is = tt
  of_later entry h o (Some mvar) is = tt
  of_later entry h o None is = tt

  all_of : (h : List (Entry M)) (o : ℕ) → Lawful h → OfChannel h o (origin_of h o)
  all_of [] o lawful = tt
  all_of (entry ∷ before) o lawful =
      let begun = if_made entry.reply (begun_by (made before) before entry.call) in
      elim (cases_lt o (length (made before))) [
        | inl was ↦
            of_later entry before o (origin_of (entry ∷ before) o)
            (subst (λ x. OfChannel before o x) (sym (slice_get-append_within (made before) begun o was)) (all_of before o lawful.2))
        | inr past ↦
            let there = get_behind (made before) begun o past in
            of_later entry before o (origin_of (entry ∷ before) o)
            (subst (λ x. OfChannel before o x) (sym there.1)
            (made_of before o there.0 entry.call entry.reply lawful.0 (λ k. all_of before k lawful.2) past))
      ]

  pub port_after : (h : List (Entry M)) (o source start : ℕ) → Lawful h → origin_of h o ≡ Some (port source start)
      → (source < o) × (kind_of h source ≡ Some kind.Channel)
  port_after h o source start lawful is = subst (λ x. OfChannel h o x) is (all_of h o lawful)
