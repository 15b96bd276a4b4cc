-- What a board shows since its journal was last cut.
use Rattle.std.proofs.Common.{◌≡◌, ℕ, inl, inr, true, false, List, ◌++◌, length, drop, Option, Some, refl, sym, ap, subst, ◌∙◌}
use Rattle.std.specs.Option.{option_map, option_map_or}
use Rattle.std.proofs.lemmas.Bool.{cases_lt}
use Rattle.std.proofs.lemmas.List.{append_assoc, drop_at}
use Rattle.std.proofs.lemmas.Option.{slice_get_past}
use Rattle.cml_log.specs.{owed_items}
use Rattle.cml_board.specs.{Entry, Origin, mailbox, port, kind_by, source_by, start_by, Lawful, made, kind_of, origin_of, is_open, sent}
use Rattle.cml_board.specs.{got, due, owed, place, reads, reads_by, kept_from, is_a, base_of, open_since, reads_since, MailboxesSince}
use Rattle.cml_board.specs.{PortsSince, ClosedSince, LogSince, KeepsSince}
use Rattle.cml_board.specs.Shown.{Shown}
use Rattle.cml_board.specs.Keeps.{Keeps}
use Rattle.cml_calls.specs.{is_source, is_receiver}
use Rattle.cml_board.proofs.KeepingLemmas.{keeps_logs}
use Rattle.cml_board.proofs.MessagesLemmas.{is_mailbox, keeps_mailboxes, keeps_ports}
use Rattle.cml_board.proofs.ReceivedLemmas.{got_append_owed}
use Rattle.cml_board.proofs.SplittingLemmas.{lawful_past, sent_split, got_split, origin_split}
use Rattle.cml_board.proofs.ResumingLemmas.{open_told, origin_told, place_told}
use Rattle.cml_board.proofs.ReceivingLemmas.{received_open, received_closed}
use Rattle.cml_board.proofs.TrailingLemmas.{kept_told, messages_told}

-- what follows the same front is the same
rest_same : {X : Type 0} (front xs ys : List X) → front ++ xs ≡ front ++ ys → xs ≡ ys
rest_same front xs ys same = sym (drop_at front xs (length front) refl) ∙ ap (drop (length front)) same
    ∙ drop_at front ys (length front) refl

-- a port receives
port_receives : (origin : Option Origin) (channel start : ℕ) → origin ≡ Some (port channel start)
    → option_map_or is_receiver (option_map kind_by origin) false ≡ true
port_receives origin channel start begun = ap (λ o. option_map_or is_receiver (option_map kind_by o) false) begun

module _ {M : Type 0} where
  -- what was due at the cut to what is a mailbox now is what was sent to it by then
  due_before : (past since : List (Entry M)) (name : ℕ) → origin_of (since ++ past) name ≡ Some mailbox → due past name ≡ sent past name
  due_before past since name begun = elim (cases_lt name (length (made past))) [
    | inl was ↦ ap (λ origin. drop (start_by origin) (sent past (source_by name origin))) (sym (origin_split past since name was) ∙ begun)
    | inr later ↦ ap (λ origin. drop (start_by origin) (sent past (source_by name origin))) (slice_get_past (made past) name later)
  ]

  mailboxes_since : (chunk : ℕ) (board : Shown M) (since : List (Entry M)) → Keeps chunk board → Lawful (since ++ board.past)
      → board.history ≡ since ++ board.past → MailboxesSince board since
  mailboxes_since chunk board since keeps lawful e = λ name is.
      let past = board.past in
      let own = keeps_mailboxes chunk board keeps name is in
      let items = owed_items own.0.log own.0.key in
      let begun : origin_of (since ++ past) name ≡ Some mailbox =
      is_mailbox (origin_of (since ++ past) name) (ap (λ h. kind_of h name) (sym e) ∙ is) in
      let before : got past name ++ owed past name ≡ sent past name = got_append_owed past name (lawful_past past since lawful)
      ∙ due_before past since name begun in (
        own.0,
        rest_same (got past name) (got since name ++ items) (owed past name ++ sent since name)
            (sym (append_assoc (got past name) (got since name) items)
            ∙ ap (λ xs. xs ++ items) (sym (got_split past since name))
            ∙ ap (λ h. got h name ++ items) (sym e)
            ∙ own.1
            ∙ ap (λ h. sent h name) e
            ∙ sent_split past since name
            ∙ ap (λ xs. xs ++ sent since name) (sym before)
            ∙ append_assoc (got past name) (owed past name) (sent since name)),
      )

  ports_since : (chunk : ℕ) (board : Shown M) (since : List (Entry M)) → Keeps chunk board → Lawful (since ++ board.past)
      → board.history ≡ since ++ board.past → PortsSince chunk board since
  ports_since chunk board since keeps lawful e = λ name channel start begun opened.
      let past = board.past in
      let own = keeps_ports chunk board keeps name channel start begun opened in
      let items = owed_items own.0.log own.0.key in
      let owes : items ≡ owed (since ++ past) name =
      rest_same (got board.history name) items (owed board.history name) (own.1 ∙ sym (got_append_owed board.history name keeps.lawful))
      ∙ ap (λ h. owed h name) e in (
        own.0,
        ap (λ xs. got since name ++ xs) owes
            ∙ received_open chunk past since name lawful
            (port_receives (origin_of (since ++ past) name) channel start (ap (λ h. origin_of h name) (sym e) ∙ begun))
            (ap (λ h. is_open h name) (sym e) ∙ opened),
      )

  closed_since : (chunk : ℕ) (board : Shown M) (since : List (Entry M)) → Lawful (since ++ board.past)
      → board.history ≡ since ++ board.past → ClosedSince chunk board since
  closed_since chunk board since lawful e = λ name channel start begun closed.
      received_closed chunk board.past since name lawful
      (port_receives (origin_of (since ++ board.past) name) channel start (ap (λ h. origin_of h name) (sym e) ∙ begun))

  -- the base and the entries since give who reads
  reads_told : (chunk : ℕ) (past since : List (Entry M)) (source reader : ℕ) → Lawful (since ++ past)
      → reads_since (base_of chunk past) since source reader ≡ reads (since ++ past) source reader
  reads_told chunk past since source reader lawful =
      ap (λ origin. reads_by reader origin (open_since (base_of chunk past) since reader) source)
      (origin_told chunk past since reader lawful)
      ∙ ap (λ opened. reads_by reader (origin_of (since ++ past) reader) opened source) (open_told chunk past since reader)

  log_since : (chunk : ℕ) (board : Shown M) (since : List (Entry M)) → Keeps chunk board → Lawful (since ++ board.past)
      → board.history ≡ since ++ board.past
      → (name : ℕ) → is_a is_source board.history name ≡ true → LogSince chunk board since name
  log_since chunk board since keeps lawful e name is =
      let past = board.past in
      let own = keeps_logs chunk board keeps name is in
      record {
        log = own.log;
        found = own.found;
        first = own.first ∙ ap (λ h. kept_from chunk h name) e ∙ sym (kept_told chunk past since name lawful);
        kept = own.kept ∙ ap (λ n. drop n (sent board.history name)) own.first ∙ ap (λ h. drop (kept_from chunk h name) (sent h name)) e
            ∙ sym (messages_told chunk past since name lawful);
        readers = λ reader told.
            let found =
            own.readers reader (ap (λ h. reads h name reader) e ∙ sym (reads_told chunk past since name reader lawful) ∙ told) in
            (found.0, found.1, found.2 ∙ ap Some (ap (λ h. place h reader) e ∙ sym (place_told chunk past since reader lawful)));
      }

  pub keeps_since : (chunk : ℕ) (board : Shown M) → Keeps chunk board → KeepsSince chunk board
  keeps_since chunk board keeps = λ since e.
      let lawful = subst Lawful e keeps.lawful in
      record {
        mailboxes = mailboxes_since chunk board since keeps lawful e;
        ports = ports_since chunk board since keeps lawful e;
        closed = closed_since chunk board since lawful e;
        logs = log_since chunk board since keeps lawful e;
      }
