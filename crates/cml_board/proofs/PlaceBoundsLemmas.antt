-- No object's place is after the end of what it reads.
use Rattle.std.proofs.Common.{◌≡◌, ℕ, zero, suc, ◌+◌, ◌-◌, ◌≤◌, inl, inr, List, [], ◌∷◌, length, drop, slice_get, Option}
use Rattle.std.proofs.Common.{Some, refl, sym, ap, subst, ◌∙◌, arith}
use Rattle.std.proofs.lemmas.Bool.{cases_lt}
use Rattle.std.proofs.lemmas.List.{length-append, length-drop}
use Rattle.cml_board.specs.{Call, Reply, Entry, Origin, mailbox, channel, port, ivar, mvar, source_by, start_by, copy_of, Lawful, made}
use Rattle.cml_board.specs.{if_made, begun_by, origin_of, sent, sent_by, got, due}
use Rattle.cml_board.specs.declared.call.Call.TheVariants.{NewMailbox, NewChannel, NewPort, CopyPort, NewIVar, NewMVar, MVarInit}
use Rattle.cml_board.specs.declared.entry.Reply.TheVariants.{Made}
use Rattle.cml_board.proofs.ReceivedLemmas.{slice_get-append_within, got_begins_due}
use Rattle.cml_board.proofs.SplittingLemmas.{get_behind}

module _ {M : Type 0} where
  -- an object begins no later than the end of what it reads
  abbrev BeginsWithin : List (Entry M) → ℕ → Option Origin → Type 0
  BeginsWithin h o origin = start_by origin ≤ length (sent h (source_by o origin))

  within_one : (h : List (Entry M)) (o j : ℕ) (origin : Origin) → BeginsWithin h o (Some origin)
      → BeginsWithin h o (slice_get (origin ∷ []) j)
  within_one h o zero origin within = within
  within_one h o (suc j) origin within = omega arith

  -- nor does one that a call makes, where the others don't
  made_within : (h : List (Entry M)) (o j : ℕ) (call : Call M) → Lawful h → ((k : ℕ) → BeginsWithin h k (origin_of h k))
      → BeginsWithin h o (slice_get (begun_by (made h) h call) j)
  made_within h o j NewMailbox lawful others = within_one h o j mailbox (omega arith)
  made_within h o j NewChannel lawful others = within_one h o j channel (omega arith)
  made_within h o j NewIVar lawful others = within_one h o j ivar (omega arith)
  made_within h o j NewMVar lawful others = within_one h o j mvar (omega arith)
  made_within h o j (MVarInit message) lawful others = within_one h o j mvar (omega arith)
  made_within h o j (NewPort name) lawful others = within_one h o j (port name.0 (length (sent h name.0))) (omega arith)
  made_within h o j (CopyPort name) lawful others = copied (origin_of h name.0) refl
    where
      copied : (origin : Option Origin) → origin_of h name.0 ≡ origin
          → BeginsWithin h o (slice_get (copy_of origin (length (got h name.0))) j)
      copied (Some (port from start)) is = within_one h o j (port from (start + length (got h name.0))) (
          let begins = got_begins_due h name.0 lawful in
          let stream : length (due h name.0) ≡ length (sent h from) - start =
          ap (λ origin. length (drop (start_by origin) (sent h (source_by name.0 origin)))) is ∙ length-drop start (sent h from) in
          let within : start ≤ length (sent h from) = subst (λ origin. BeginsWithin h name.0 origin) is (others name.0) in
          omega (arith, within, stream, ap length begins.1, length-append (got h name.0) begins.0))
      copied origin is = omega arith
  made_within h o j call lawful others = omega arith

  entry_within : (h : List (Entry M)) (o j : ℕ) (call : Call M) (reply : Reply M) → Lawful h → ((k : ℕ) → BeginsWithin h k (origin_of h k))
      → BeginsWithin h o (slice_get (if_made reply (begun_by (made h) h call)) j)
  entry_within h o j call (Made n) lawful others = made_within h o j call lawful others
  entry_within h o j call reply lawful others = omega arith

  -- what is sent later comes after
  within_later : (entry : Entry M) (before : List (Entry M)) (o : ℕ) (origin : Option Origin) → BeginsWithin before o origin
      → BeginsWithin (entry ∷ before) o origin
  within_later entry before o origin within =
      omega (arith, within, length-append (sent before (source_by o origin)) (sent_by entry.call (source_by o origin)))

  begins_within : (h : List (Entry M)) (o : ℕ) → Lawful h → BeginsWithin h o (origin_of h o)
  begins_within [] o lawful = omega arith
  begins_within (entry ∷ before) o lawful =
      let begun = if_made entry.reply (begun_by (made before) before entry.call) in
      elim (cases_lt o (length (made before))) [
        | inl was ↦
            let same : origin_of (entry ∷ before) o ≡ origin_of before o = slice_get-append_within (made before) begun o was in
            subst (λ origin. BeginsWithin (entry ∷ before) o origin) (sym same)
            (within_later entry before o (origin_of before o) (begins_within before o lawful.2))
        | inr new ↦
            let there = get_behind (made before) begun o new in
            subst (λ origin. BeginsWithin (entry ∷ before) o origin) (sym there.1)
            (within_later entry before o (slice_get begun there.0)
            (entry_within before o there.0 entry.call entry.reply lawful.2 (λ k. begins_within before k lawful.2)))
      ]

  -- so no object's place is after the end
  pub stands_within : (h : List (Entry M)) (o : ℕ) → Lawful h
      → start_by (origin_of h o) + length (got h o) ≤ length (sent h (source_by o (origin_of h o)))
  stands_within h o lawful =
      let origin = origin_of h o in
      let begins = got_begins_due h o lawful in
      omega (
        arith,
        begins_within h o lawful,
        length-append (got h o) begins.0,
        ap length begins.1,
        length-drop (start_by origin) (sent h (source_by o origin)),
      )
