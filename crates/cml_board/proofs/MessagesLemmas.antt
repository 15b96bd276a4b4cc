-- Nothing that was sent is lost, told twice or out of order: what a board's journal shows of its messages.
use Rattle.std.proofs.Common.{◌≡◌, ℕ, ◌<◌, List, ◌++◌, length, drop, Option, Some, None, refl, ap, ◌∙◌}
use Rattle.std.specs.Option.{option_map}
use Rattle.std.proofs.lemmas.Option.{none-some, slice_get_within}
use Rattle.cml_log.specs.{owed_items}
use Rattle.cml_calls.specs.declared.kind.Kind.TheVariants as kind
use Rattle.cml_board.specs.{Entry, Origin, mailbox, channel, port, ivar, mvar, kind_by, source_by, start_by, made, origin_of, sent, got}
use Rattle.cml_board.specs.{due, facts_of, cursor_at, Reads, KeepsMailboxes, KeepsPorts, KeepsClosed}
use Rattle.cml_board.specs.Facts.{Facts}
use Rattle.cml_board.specs.Shown.{Shown}
use Rattle.cml_board.specs.Keeps.{Keeps}
use Rattle.cml_board.proofs.StandingLemmas.{cursor_of_mailbox, cursor_of_port, kept_is}
use Rattle.cml_board.proofs.ReceivedLemmas.{got_begins_due, got_append_owed}
use Rattle.cml_board.proofs.LookingLemmas.{owed_told}

-- what began as a mailbox
pub is_mailbox : (origin : Option Origin) → option_map kind_by origin ≡ Some kind.Mailbox → origin ≡ Some mailbox
is_mailbox (Some mailbox) is = refl
is_mailbox (Some channel) is = absurd (cc)
is_mailbox (Some (port source start)) is = absurd (cc)
is_mailbox (Some ivar) is = absurd (cc)
is_mailbox (Some mvar) is = absurd (cc)
is_mailbox None is = absurd (none-some kind.Mailbox is)

module _ {M : Type 0} where
  -- an object with a cursor reads that log
  reads_there : (chunk : ℕ) (board : Shown M) (name source key : ℕ) → Keeps chunk board → cursor_at board.objects name ≡ Some (source, key)
      → source_by name (origin_of board.history name) ≡ source
      → (own : Reads board name source) × (got board.history name ++ owed_items own.log own.key ≡ due board.history name)
  reads_there chunk board name source key keeps reads from =
      let n : ℕ = length (made board.history) in
      let f : ℕ → Facts M = facts_of board.history in
      let own = keeps.shows.cursors name source key reads in
      let kept = kept_is chunk n f board.objects name source key own.0 keeps.shows reads own.1 in (
        record { key = key; log = own.0; reads = reads; found = own.1; kept = kept.0; within = kept.1 },
        ap (λ xs. got board.history name ++ xs)
            (owed_told chunk board.history board.objects name source key own.0 keeps.shows reads own.1 from)
            ∙ got_append_owed board.history name keeps.lawful,
      )

  -- every mailbox has its messages
  pub keeps_mailboxes : (chunk : ℕ) (board : Shown M) → Keeps chunk board → KeepsMailboxes board
  keeps_mailboxes chunk board keeps = λ name is.
      let h : List (Entry M) = board.history in
      let begun : origin_of h name ≡ Some mailbox = is_mailbox (origin_of h name) is in
      let was : name < length (made h) = slice_get_within (made h) name mailbox begun in
      let cursor = cursor_of_mailbox chunk (length (made h)) (facts_of h) board.objects name keeps.shows begun was in
      let own = reads_there chunk board name name cursor.0 keeps cursor.1 (ap (source_by name) begun) in
      (own.0, own.1 ∙ mailbox_due h name begun)
    where
      mailbox_due : (h : List (Entry M)) (name : ℕ) → origin_of h name ≡ Some mailbox → due h name ≡ sent h name
      mailbox_due h name begun = ap (λ origin. drop (start_by origin) (sent h (source_by name origin))) begun

  -- every open port is kept what it has still to receive
  pub keeps_ports : (chunk : ℕ) (board : Shown M) → Keeps chunk board → KeepsPorts board
  keeps_ports chunk board keeps = λ name source start begun opened.
      let h : List (Entry M) = board.history in
      let was : name < length (made h) = slice_get_within (made h) name (port source start) begun in
      let cursor = cursor_of_port chunk (length (made h)) (facts_of h) board.objects name source start keeps.shows begun opened was in
      reads_there chunk board name source cursor.0 keeps cursor.1 (ap (source_by name) begun)

  -- every closed port received how it began
  pub keeps_closed : (chunk : ℕ) (board : Shown M) → Keeps chunk board → KeepsClosed board
  keeps_closed chunk board keeps = λ name source start begun closed. got_begins_due board.history name keeps.lawful
