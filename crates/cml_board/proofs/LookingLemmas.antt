-- What a look at a board finds.
use Rattle.std.proofs.Common.{◌≡◌, ◌≢◌, ℕ, zero, suc, ◌+◌, ◌<◌, ◌≤◌, true, false, List, [], ◌∷◌, length, drop, slice_get}
use Rattle.std.proofs.Common.{Some, None, refl, sym, ap, subst, ◌∙◌, arith}
use Rattle.std.specs.Option.{option_map, option_map_or, option_and_then}
use Rattle.std.proofs.lemmas.List.{drop-drop}
use Rattle.std.proofs.lemmas.Option.{none-some, some_pair_parts, slice_get_past, same_Some}
use Rattle.cml_log.specs.Log.{Log}
use Rattle.cml_log.specs.{next_of, owed_items}
use Rattle.cml_board.specs.{Entry, Object, Reading, kind_by, source_by, start_by, entries_in, made, origin_of, sent, got, owed, facts_of}
use Rattle.cml_board.specs.{key_in, log_in, cursor_in, log_at, cursor_at, HasLog, HasRoomAt, HasOwed, Agrees, AgreesReading, ReadsAt}
use Rattle.cml_board.specs.{Stands, HasRoom}
use Rattle.cml_board.specs.Facts.{Facts}
use Rattle.cml_board.specs.Shown.{Shown}
use Rattle.cml_board.specs.Keeps.{Keeps}
use Rattle.cml_board.specs.declared.object.Object.TheVariants.{Mailbox, Channel, Port, Variable}
use Rattle.cml_board.specs.declared.object.Reading.TheVariants.{Open, Closed}
use Rattle.cml_calls.specs.{is_receiver}
use Rattle.cml_board.specs.Keeps.{Shows}
use Rattle.cml_board.proofs.StandingLemmas.{next_is, cursor_is, owed_is}
use Rattle.cml_board.proofs.KeepingLemmas.{first_is_told}
use Rattle.std.proofs.Math.Nat.{min-le_right}
use Rattle.cml_board.proofs.WithinLemmas.{sent_and_made}

-- a place with no item is past the list's end
none_within : {X : Type 0} (xs : List X) (i : ℕ) → slice_get xs i ≡ None → length xs ≤ i
none_within [] i none = omega arith
none_within (x ∷ xs) zero none = absurd (none-some x (sym none))
none_within (x ∷ xs) (suc i) none = omega (arith, none_within xs i none)

-- a list that isn't empty has a length
some_length : {X : Type 0} (xs : List X) → xs ≢ [] → 0 < length xs
some_length [] some = absurd (some refl)
some_length (x ∷ xs) some = omega arith

module _ {M : Type 0} where
  -- the facts of a mailbox or an open port that reads this log
  record IsReader (facts : Facts M) (name source : ℕ) : Type 0 where
    pub receiver : option_map_or is_receiver (option_map kind_by facts.origin) false ≡ true
    pub opened : facts.opened ≡ true
    pub from : source_by name facts.origin ≡ source

  -- an object with a cursor is one
  reader_told : {A : Type 0} (facts : Facts M) (name source key : ℕ) (object : Object M A)
      → Agrees facts object → cursor_in name object ≡ Some (source, key) → IsReader facts name source
  reader_told facts name source key (Mailbox log own) agrees reads = record {
    receiver = ap (λ o. option_map_or is_receiver (option_map kind_by o) false) agrees.0;
    opened = agrees.1;
    from = ap (source_by name) agrees.0 ∙ (some_pair_parts name source own key reads).0;
  }
  reader_told facts name source key (Channel log) agrees reads = absurd (none-some (source, key) reads)
  reader_told facts name source key (Variable form held) agrees reads = absurd (none-some (source, key) reads)
  reader_told facts name source key (Port p) agrees reads = by_reading p.reading agrees.1 reads
    where
      by_reading : (reading : Reading) → AgreesReading facts reading
          → option_map {U = ℕ × ℕ} (λ k. (p.channel.0, k)) (key_in reading) ≡ Some (source, key)
          → IsReader facts name source
      by_reading (Open own) opened reads = record {
        receiver = ap (λ o. option_map_or is_receiver (option_map kind_by o) false) agrees.0;
        opened = opened;
        from = ap (source_by name) agrees.0 ∙ (some_pair_parts p.channel.0 source own key reads).0;
      }
      by_reading (Closed received) closed reads = absurd (none-some (source, key) reads)

  -- what its log really owes it is what it is owed
  pub owed_told : (chunk : ℕ) (h : List (Entry M)) (objects : List (Object M (Log M))) (name source key : ℕ) (log : Log M)
      → Shows chunk (length (made h)) (facts_of h) objects → cursor_at objects name ≡ Some (source, key) → log_at objects source ≡ Some log
      → source_by name (origin_of h name) ≡ source → owed_items log key ≡ owed h name
  owed_told chunk h objects name source key log shows reads found from =
      owed_is chunk (length (made h)) (facts_of h) objects name source key log shows reads found
      ∙ sym (drop-drop (length (got h name)) (start_by (origin_of h name)) (sent h source))
      ∙ ap (λ s. drop (length (got h name)) (drop (start_by (origin_of h name)) (sent h s))) (sym from)

  -- a cursor that an object has
  reads_at : (chunk : ℕ) (board : Shown M) (name source key : ℕ) (object : Object M (Log M)) → Keeps chunk board
      → slice_get board.objects name ≡ Some object → cursor_in name object ≡ Some (source, key) → ReadsAt board name source key
  reads_at chunk board name source key object keeps found own =
      let n : ℕ = length (made board.history) in
      let f : ℕ → Facts M = facts_of board.history in
      let reads : cursor_at board.objects name ≡ Some (source, key) = ap (option_and_then (cursor_in name)) found ∙ own in
      let reader = reader_told (f name) name source key object (keeps.shows.each name object found) own in
      let cursor = cursor_is chunk n f board.objects name source key keeps.shows reads in
      record {
        reads = reads;
        receiver = reader.receiver;
        opened = reader.opened;
        cursor = cursor.0;
        at = cursor.1;
        owes = owed_told chunk board.history board.objects name source key cursor.0.stands.log keeps.shows reads
            cursor.0.stands.found reader.from;
      }

  -- an object that was found
  pub stands_at : (chunk : ℕ) (board : Shown M) (name : ℕ) (object : Object M (Log M)) → Keeps chunk board
      → slice_get board.objects name ≡ Some object → Stands chunk board name object
  stands_at chunk board name object keeps found =
      let at : (log : Log M) → log_in object ≡ Some log → log_at board.objects name ≡ Some log =
      λ log own. ap (option_and_then log_in) found ∙ own in
      record {
        found = found;
        agrees = keeps.shows.each name object found;
        next =
            λ log own. next_is chunk (length (made board.history)) (facts_of board.history) board.objects name log keeps.shows (at log own);
        first = λ log own. first_is_told chunk board.history board.objects name log keeps.shows (at log own);
        low = λ log own. omega arith;
        reads = λ source key own. reads_at chunk board name source key object keeps found own;
      }

  -- where none is found, none was made
  pub none_made : (chunk : ℕ) (board : Shown M) (name : ℕ) → Keeps chunk board → slice_get board.objects name ≡ None
      → origin_of board.history name ≡ None
  none_made chunk board name keeps none =
      slice_get_past (made board.history) name (omega (arith, none_within board.objects name none, keeps.shows.all))

  -- if there is a log, there is an object
  some_object : (objects : List (Object M (Log M))) (name : ℕ) (log : Log M) → log_at objects name ≡ Some log → 0 < length objects
  some_object [] name log found = absurd (none-some log found)
  some_object (object ∷ objects) name log found = omega arith

  -- a log has room for a message more
  pub has_room : (chunk : ℕ) (board : Shown M) (name : ℕ) → Keeps chunk board → HasRoom board
      → HasLog board.objects name → HasRoomAt board.objects name
  has_room chunk board name keeps room stands =
      let next : next_of stands.log ≡ length (sent board.history name) =
      next_is chunk (length (made board.history)) (facts_of board.history) board.objects name stands.log keeps.shows stands.found in
      record {
        stands = stands;
        room = omega (
          arith,
          next,
          sent_and_made board.history name,
          keeps.shows.all,
          some_object board.objects name stands.log stands.found,
          room,
          min-le_right (entries_in board.past + board.limit) 18446744073709551615,
        );
      }

  -- a reader that is owed something has a message to take
  pub reads_owed : (board : Shown M) (name source key : ℕ) → ReadsAt board name source key → owed board.history name ≢ []
      → HasOwed board.objects source key
  reads_owed board name source key own some = record {
    cursor = own.cursor;
    owed = subst (λ xs. 0 < length xs) (sym own.owes) (some_length (owed board.history name) some);
  }

  -- the message at a cursor's place is the first that is owed
  pub first_owed : (board : Shown M) (name source key : ℕ) (log : Log M) (message : M) → ReadsAt board name source key
      → log_at board.objects source ≡ Some log
      → slice_get (owed_items log key) 0 ≡ Some message → slice_get (owed board.history name) 0 ≡ Some message
  first_owed board name source key log message own found first =
      let same : log ≡ own.cursor.stands.log = same_Some _ _ (sym found ∙ own.cursor.stands.found) in
      ap (λ xs. slice_get xs 0) (sym own.owes ∙ ap (λ l. owed_items l key) (sym same)) ∙ first
