-- How many messages an object received.
use Rattle.std.proofs.Common.{◌≡◌, ℕ, ◌-◌, ◌≤◌, ◌&&◌, true, [], length, Some, refl, sym, ap, subst, ◌∙◌, arith}
use Rattle.std.specs.Option.{option_map, option_and_then}
use Rattle.std.proofs.lemmas.Bool.{cond-true, and_from}
use Rattle.std.proofs.lemmas.Option.{same_Some}
use Rattle.cml_log.specs.Log.{Log}
use Rattle.cml_log.specs.{IsOpen, owed_items, place_of}
use Rattle.cml_board.specs.{Object, Port as port_data, start_by, got, owed, owed_to, place, origin_of, is_a, is_open, got_count, map_log, log_in, log_at, key_in}
use Rattle.cml_board.specs.{cursor_in, ReadsAt, Stands}
use Rattle.cml_board.specs.Shown.{Shown}
use Rattle.cml_board.specs.declared.object.Object.TheVariants.{Mailbox, Port}
use Rattle.cml_board.specs.declared.object.Reading.TheVariants.{Open}
use Rattle.cml_calls.specs.{is_receiver}

module _ {M : Type 0} where
  -- a cursor is open in whatever log it reads
  pub reading_open : (board : Shown M) (name source key : ℕ) (log : Log M) → ReadsAt board name source key
      → log_at board.objects source ≡ Some log → IsOpen log key
  reading_open board name source key log own found =
      subst (λ l. IsOpen l key) (same_Some _ _ (sym own.cursor.stands.found ∙ found)) own.cursor.opened

  pub reading_place : (board : Shown M) (name source key : ℕ) (log : Log M) → ReadsAt board name source key
      → log_at board.objects source ≡ Some log → place_of log key ≡ place board.history name
  reading_place board name source key log own found =
      ap (λ l. place_of l key) (same_Some _ _ (sym found ∙ own.cursor.stands.found)) ∙ own.at

  -- what it has still to read is what a mailbox or an open port is owed
  pub reading_owed : (board : Shown M) (name source key : ℕ) (log : Log M) → ReadsAt board name source key
      → log_at board.objects source ≡ Some log → owed_items log key ≡ owed_to board.history name
  reading_owed board name source key log own found =
      let both : (is_a is_receiver board.history name && is_open board.history name) ≡ true =
      and_from (is_a is_receiver board.history name) (is_open board.history name) own.receiver own.opened in
      ap (λ l. owed_items l key) (same_Some _ _ (sym found ∙ own.cursor.stands.found)) ∙ own.owes
      ∙ sym (cond-true (is_a is_receiver board.history name && is_open board.history name) (owed board.history name) [] both)

  own_log : (chunk : ℕ) (board : Shown M) (name : ℕ) (object : Object M (Log M)) (log : Log M) → Stands chunk board name object
      → log_in object ≡ Some log → log_at board.objects name ≡ Some log
  own_log chunk board name object log stands own = ap (option_and_then log_in) stands.found ∙ own

  counted : (board : Shown M) (name n : ℕ) → is_a is_receiver board.history name ≡ true → n ≡ length (got board.history name)
      → Some n ≡ got_count board.history name
  counted board name n is e = rw (is, e) refl

module _ {A M : Type 0} where
  pub mailbox_open : (chunk : ℕ) (log : A → Log M) (board : Shown M) (name key : ℕ) (own : A) (x : Object M A)
      → Stands chunk board name (map_log log x) → x ≡ Mailbox own key → IsOpen (log own) key
  unfolding own_log
  mailbox_open chunk log board name key own x stands e =
      let there : Stands chunk board name (Mailbox (log own) key) = subst (λ o. Stands chunk board name (map_log log o)) e stands in
      reading_open board name name key (log own) (there.reads name key refl)
      (own_log chunk board name (Mailbox (log own) key) (log own) there refl)

  pub mailbox_got : (chunk : ℕ) (log : A → Log M) (board : Shown M) (name key n : ℕ) (own : A) (x : Object M A)
      → Stands chunk board name (map_log log x) → x ≡ Mailbox own key
      → n ≡ place_of (log own) key → Some n ≡ got_count board.history name
  mailbox_got chunk log board name key n own x stands e at =
      let there : Stands chunk board name (Mailbox (log own) key) = subst (λ o. Stands chunk board name (map_log log o)) e stands in
      let reads = there.reads name key refl in
      let placed =
      reading_place board name name key (log own) reads (own_log chunk board name (Mailbox (log own) key) (log own) there refl) in
      counted board name n reads.receiver (omega (arith, at, placed, ap start_by there.agrees.0))

  pub port_reads : (chunk : ℕ) (log : A → Log M) (board : Shown M) (name key : ℕ) (p : port_data) (x : Object M A)
      → Stands chunk board name (map_log log x) → x ≡ Port p
      → p.reading ≡ Open key → ReadsAt board name p.channel.0 key
  port_reads chunk log board name key p x stands e opened =
      stands.reads p.channel.0 key
      (ap (λ o. cursor_in name (map_log log o)) e ∙ ap (λ r. option_map (λ k. (p.channel.0, k)) (key_in r)) opened)

  pub port_begun : (chunk : ℕ) (log : A → Log M) (board : Shown M) (name : ℕ) (p : port_data) (x : Object M A)
      → Stands chunk board name (map_log log x) → x ≡ Port p
      → start_by (origin_of board.history name) ≡ p.start
  port_begun chunk log board name p x stands e =
      let there : Stands chunk board name (map_log log (Port p)) = subst (λ o. Stands chunk board name (map_log log o)) e stands in
      ap start_by there.agrees.0

  pub port_past : (chunk : ℕ) (log : A → Log M) (board : Shown M) (name key n : ℕ) (p : port_data) (x : Object M A) (l : Log M)
      → Stands chunk board name (map_log log x) → x ≡ Port p
      → p.reading ≡ Open key → log_at board.objects p.channel.0 ≡ Some l → n ≡ place_of l key → p.start ≤ n
  port_past chunk log board name key n p x l stands e opened found at =
      omega (
        arith,
        at,
        reading_place board name p.channel.0 key l (port_reads chunk log board name key p x stands e opened) found,
        port_begun chunk log board name p x stands e,
      )

  pub port_got : (chunk : ℕ) (log : A → Log M) (board : Shown M) (name key n : ℕ) (p : port_data) (x : Object M A) (l : Log M)
      → Stands chunk board name (map_log log x) → x ≡ Port p
      → p.reading ≡ Open key → log_at board.objects p.channel.0 ≡ Some l → n ≡ place_of l key
      → Some (n - p.start) ≡ got_count board.history name
  port_got chunk log board name key n p x l stands e opened found at =
      let reads = port_reads chunk log board name key p x stands e opened in
      counted board name (n - p.start) reads.receiver
      (omega (arith, at, reading_place board name p.channel.0 key l reads found, port_begun chunk log board name p x stands e))
