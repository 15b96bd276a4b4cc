-- What the objects that show the facts are, one by one.
use Rattle.std.proofs.Common.{◌≡◌, ◌≢◌, ℕ, zero, suc, ◌<◌, ◌≤◌, true, List, [], ◌∷◌, length, drop, slice_get, Option}
use Rattle.std.proofs.Common.{Some, refl, sym, ap, subst, ◌∙◌, arith}
use Rattle.std.specs.Option.{option_and_then}
use Rattle.std.proofs.lemmas.Bool.{false≢true}
use Rattle.cml_log.specs.Log.{Log}
use Rattle.cml_log.specs.{next_of, IsOpen, place_of, owed_items}
use Rattle.cml_log.proofs.LogLemmas.{place_of-at, IsOpen-at}
use Rattle.cml_log.proofs.HoldsLemmas.{Holds-next, Holds-owed, Holds-first_le_place}
use Rattle.cml_board.specs.{Object, Reading, Origin, mailbox, channel, port, place_by, log_in, cursor_in, log_at, cursor_at, HasLog}
use Rattle.cml_board.specs.{HasCursor, HasOwed, Agrees, AgreesReading}
use Rattle.cml_board.specs.Facts.{Facts}
use Rattle.cml_board.specs.declared.object.Object.TheVariants.{Mailbox, Channel, Port, Variable}
use Rattle.cml_board.specs.declared.object.Form.TheVariants.{Once, Mutable}
use Rattle.cml_board.specs.declared.object.Reading.TheVariants.{Open, Closed}
use Rattle.cml_board.specs.Keeps.{Shows}
use Rattle.cml_board.proofs.ChangingLemmas.{cursor_place}

-- each place of a list has an element
some_stands : {X : Type 0} (xs : List X) (i : ℕ) → i < length xs → (x : X) × (slice_get xs i ≡ Some x)
some_stands [] i within = absurd (omega arith)
some_stands (x ∷ xs) zero within = (x, refl)
some_stands (x ∷ xs) (suc i) within = some_stands xs i (omega arith)

some_owed : {X : Type 0} (xs : List X) → xs ≢ [] → 0 < length xs
some_owed [] some = absurd (some refl)
some_owed (x ∷ xs) some = omega arith

-- two ports that began alike
same_channel : (source other start from : ℕ) → ◌≡◌ {A = Option Origin} (Some (port source start)) (Some (port other from)) → source ≡ other
same_channel source other start from same = cc

same_start : (source other start from : ℕ) → ◌≡◌ {A = Option Origin} (Some (port source start)) (Some (port other from)) → start ≡ from
same_start source other start from same = cc

module _ {M : Type 0} where
  -- there is an object under each name that was made
  pub object_stands : (chunk n : ℕ) (f : ℕ → Facts M) (objects : List (Object M (Log M))) (name : ℕ) → Shows chunk n f objects → name < n
      → (object : Object M (Log M)) × (slice_get objects name ≡ Some object)
  object_stands chunk n f objects name shows made = some_stands objects name (omega (arith, shows.all))

  -- a mailbox is one
  pub mailbox_object : (chunk n : ℕ) (f : ℕ → Facts M) (objects : List (Object M (Log M))) (name : ℕ) → Shows chunk n f objects
      → (f name).origin ≡ Some mailbox → name < n → (log : Log M) × (key : ℕ) × (slice_get objects name ≡ Some (Mailbox log key))
  mailbox_object chunk n f objects name shows begun made =
      let stands = object_stands chunk n f objects name shows made in
      by_object stands.0 stands.1 (shows.each name stands.0 stands.1)
    where
      by_object : (object : Object M (Log M)) → slice_get objects name ≡ Some object → Agrees (f name) object
          → (log : Log M) × (key : ℕ) × (slice_get objects name ≡ Some (Mailbox log key))
      by_object (Mailbox log key) found agrees = (log, key, found)
      by_object (Channel log) found agrees = absurd (cc)
      by_object (Port p) found agrees = absurd (cc)
      by_object (Variable Once held) found agrees = absurd (cc)
      by_object (Variable Mutable held) found agrees = absurd (cc)

  -- a channel is one
  pub channel_object : (chunk n : ℕ) (f : ℕ → Facts M) (objects : List (Object M (Log M))) (name : ℕ) → Shows chunk n f objects
      → (f name).origin ≡ Some channel → name < n → (log : Log M) × (slice_get objects name ≡ Some (Channel log))
  channel_object chunk n f objects name shows begun made =
      let stands = object_stands chunk n f objects name shows made in
      by_object stands.0 stands.1 (shows.each name stands.0 stands.1)
    where
      by_object : (object : Object M (Log M)) → slice_get objects name ≡ Some object → Agrees (f name) object
          → (log : Log M) × (slice_get objects name ≡ Some (Channel log))
      by_object (Mailbox log key) found agrees = absurd (cc)
      by_object (Channel log) found agrees = (log, found)
      by_object (Port p) found agrees = absurd (cc)
      by_object (Variable Once held) found agrees = absurd (cc)
      by_object (Variable Mutable held) found agrees = absurd (cc)

  -- a port is one, of its channel and with its start
  pub port_object : (chunk n : ℕ) (f : ℕ → Facts M) (objects : List (Object M (Log M))) (name source start : ℕ) → Shows chunk n f objects
      → (f name).origin ≡ Some (port source start) → name < n
      → (reading : Reading)
      × (slice_get objects name ≡ Some (Port (record { channel = record { 0 = source }; start = start; reading = reading })))
      × AgreesReading (f name) reading
  port_object chunk n f objects name source start shows begun made =
      let stands = object_stands chunk n f objects name shows made in
      by_object stands.0 stands.1 (shows.each name stands.0 stands.1)
    where
      by_object : (object : Object M (Log M)) → slice_get objects name ≡ Some object → Agrees (f name) object
          → (reading : Reading)
          × (slice_get objects name ≡ Some (Port (record { channel = record { 0 = source }; start = start; reading = reading })))
          × AgreesReading (f name) reading
      by_object (Mailbox log key) found agrees = absurd (cc)
      by_object (Channel log) found agrees = absurd (cc)
      by_object (Variable Once held) found agrees = absurd (cc)
      by_object (Variable Mutable held) found agrees = absurd (cc)
      by_object (Port p) found agrees =
          let same = sym agrees.0 ∙ begun in
          let first = same_channel p.channel.0 source p.start start same in
          let second = same_start p.channel.0 source p.start start same in (
            p.reading,
            found ∙ ap (λ c. Some (Port (record { channel = record { 0 = c }; start = p.start; reading = p.reading }))) first
                ∙ ap (λ s. Some (Port (record { channel = record { 0 = source }; start = s; reading = p.reading }))) second,
            agrees.1,
          )

  -- an open port has a cursor
  pub open_port_object : (chunk n : ℕ) (f : ℕ → Facts M) (objects : List (Object M (Log M))) (name source start : ℕ)
      → Shows chunk n f objects
      → (f name).origin ≡ Some (port source start) → (f name).opened ≡ true → name < n
      → (key : ℕ) × (slice_get objects name ≡ Some (Port (record { channel = record { 0 = source }; start = start; reading = Open key })))
  open_port_object chunk n f objects name source start shows begun opened made =
      let stands = port_object chunk n f objects name source start shows begun made in
      by_reading stands.0 stands.1 stands.2
    where
      by_reading : (reading : Reading)
          → slice_get objects name ≡ Some (Port (record { channel = record { 0 = source }; start = start; reading = reading }))
          → AgreesReading (f name) reading
          → (key : ℕ)
          × (slice_get objects name ≡ Some (Port (record { channel = record { 0 = source }; start = start; reading = Open key })))
      by_reading (Open key) found agrees = (key, found)
      by_reading (Closed received) found agrees = absurd (false≢true (sym agrees.0 ∙ opened))

  -- a mailbox has a log
  pub source_stands_mailbox : (chunk n : ℕ) (f : ℕ → Facts M) (objects : List (Object M (Log M))) (name : ℕ) → Shows chunk n f objects
      → (f name).origin ≡ Some mailbox → name < n → HasLog objects name
  source_stands_mailbox chunk n f objects name shows begun made =
      let stands = mailbox_object chunk n f objects name shows begun made in
      record { log = stands.0; found = ap (option_and_then log_in) stands.2 }

  -- and so has a channel
  pub source_stands_channel : (chunk n : ℕ) (f : ℕ → Facts M) (objects : List (Object M (Log M))) (name : ℕ) → Shows chunk n f objects
      → (f name).origin ≡ Some channel → name < n → HasLog objects name
  source_stands_channel chunk n f objects name shows begun made =
      let stands = channel_object chunk n f objects name shows begun made in
      record { log = stands.0; found = ap (option_and_then log_in) stands.1 }

  -- a mailbox reads its own log
  pub cursor_of_mailbox : (chunk n : ℕ) (f : ℕ → Facts M) (objects : List (Object M (Log M))) (name : ℕ) → Shows chunk n f objects
      → (f name).origin ≡ Some mailbox → name < n → (key : ℕ) × (cursor_at objects name ≡ Some (name, key))
  cursor_of_mailbox chunk n f objects name shows begun made =
      let stands = mailbox_object chunk n f objects name shows begun made in
      (stands.1, ap (option_and_then (cursor_in name)) stands.2)

  -- an open port that of its channel
  pub cursor_of_port : (chunk n : ℕ) (f : ℕ → Facts M) (objects : List (Object M (Log M))) (name source start : ℕ) → Shows chunk n f objects
      → (f name).origin ≡ Some (port source start) → (f name).opened ≡ true → name < n
      → (key : ℕ) × (cursor_at objects name ≡ Some (source, key))
  cursor_of_port chunk n f objects name source start shows begun opened made =
      let stands = open_port_object chunk n f objects name source start shows begun opened made in
      (stands.0, ap (option_and_then (cursor_in name)) stands.1)

  -- a log's next place is the number of messages that were sent
  pub next_is : (chunk n : ℕ) (f : ℕ → Facts M) (objects : List (Object M (Log M))) (name : ℕ) (log : Log M) → Shows chunk n f objects
      → log_at objects name ≡ Some log → next_of log ≡ length (f name).sent
  next_is chunk n f objects name log shows found = Holds-next chunk log (f name).sent (shows.logs name log found)

  -- an object's cursor is open, at its place
  pub cursor_is : (chunk n : ℕ) (f : ℕ → Facts M) (objects : List (Object M (Log M))) (name source key : ℕ) → Shows chunk n f objects
      → cursor_at objects name ≡ Some (source, key)
      → (cursor : HasCursor objects source key) × (place_of cursor.stands.log key ≡ place_by (f name))
  cursor_is chunk n f objects name source key shows reads =
      let own = shows.cursors name source key reads in (
        record { stands = record { log = own.0; found = own.1 }; opened = IsOpen-at own.0 key (place_by (f name)) own.2 },
        place_of-at own.0 key (place_by (f name)) own.2,
      )

  -- so in the log that is known to be there
  pub cursor_opened : (chunk n : ℕ) (f : ℕ → Facts M) (objects : List (Object M (Log M))) (name source key : ℕ) (log : Log M)
      → Shows chunk n f objects
      → cursor_at objects name ≡ Some (source, key) → log_at objects source ≡ Some log → IsOpen log key
  cursor_opened chunk n f objects name source key log shows reads found =
      IsOpen-at log key (place_by (f name)) (cursor_place chunk n f objects name source key log shows reads found)

  pub place_is : (chunk n : ℕ) (f : ℕ → Facts M) (objects : List (Object M (Log M))) (name source key : ℕ) (log : Log M)
      → Shows chunk n f objects
      → cursor_at objects name ≡ Some (source, key) → log_at objects source ≡ Some log → place_of log key ≡ place_by (f name)
  place_is chunk n f objects name source key log shows reads found =
      place_of-at log key (place_by (f name)) (cursor_place chunk n f objects name source key log shows reads found)

  -- what the log really owes the object is what was sent from its place on
  pub owed_is : (chunk n : ℕ) (f : ℕ → Facts M) (objects : List (Object M (Log M))) (name source key : ℕ) (log : Log M)
      → Shows chunk n f objects
      → cursor_at objects name ≡ Some (source, key) → log_at objects source ≡ Some log
      → owed_items log key ≡ drop (place_by (f name)) (f source).sent
  owed_is chunk n f objects name source key log shows reads found =
      Holds-owed chunk log (f source).sent key (shows.logs source log found)
      (cursor_opened chunk n f objects name source key log shows reads found)
      ∙ ap (λ p. drop p (f source).sent) (place_is chunk n f objects name source key log shows reads found)

  -- where that is something, the cursor is owed a message
  pub owes : (chunk n : ℕ) (f : ℕ → Facts M) (objects : List (Object M (Log M))) (name source key : ℕ) → Shows chunk n f objects
      → cursor_at objects name ≡ Some (source, key) → drop (place_by (f name)) (f source).sent ≢ [] → HasOwed objects source key
  owes chunk n f objects name source key shows reads some =
      let cursor = (cursor_is chunk n f objects name source key shows reads).0 in
      let is = owed_is chunk n f objects name source key cursor.stands.log shows reads cursor.stands.found in
      record { cursor = cursor; owed = subst (λ xs. 0 < length xs) (sym is) (some_owed (drop (place_by (f name)) (f source).sent) some) }

  -- nothing is freed that the object has still to read, and its place is no later than the end
  pub kept_is : (chunk n : ℕ) (f : ℕ → Facts M) (objects : List (Object M (Log M))) (name source key : ℕ) (log : Log M)
      → Shows chunk n f objects
      → cursor_at objects name ≡ Some (source, key) → log_at objects source ≡ Some log
      → (log.first ≤ place_by (f name)) × (place_by (f name) ≤ next_of log)
  kept_is chunk n f objects name source key log shows reads found =
      let holds = shows.logs source log found in
      let at = cursor_place chunk n f objects name source key log shows reads found in
      let opened = IsOpen-at log key (place_by (f name)) at in
      let first = Holds-first_le_place chunk log (f source).sent key holds opened in
      let within = holds.within key (place_by (f name)) at in
      (omega (arith, first, place_of-at log key (place_by (f name)) at), omega (arith, within, Holds-next chunk log (f source).sent holds))
