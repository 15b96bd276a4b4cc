-- What is really kept of a log is what the history tells.
use Rattle.std.proofs.Common.{◌≡◌, inl, inr, ℕ, zero, suc, ◌*◌, ◌/◌, ◌<◌, ◌≤◌, min, true, false, eqb, List, length, slice_get}
use Rattle.std.proofs.Common.{Option, Some, None, refl, sym, ap, ◌∙◌, arith}
use Rattle.std.specs.Option.{option_map}
use Rattle.std.proofs.lemmas.Bool.{cases_eq, cases_Bool, false≢true, eq-eqb, eqb-true, and_parts, and_from, cond-true, cond-false}
use Rattle.std.proofs.lemmas.Option.{none-some, same_Some, some_pair_parts, option_and_then_some, slice_get_within}
use Rattle.cml_log.specs.Log.{Log}
use Rattle.cml_log.specs.{least}
use Rattle.cml_log.proofs.LeastLemmas.{least-le_end, least-le_place, least-ge}
use Rattle.cml_board.specs.{Entry, Object, Reading, Origin, mailbox, port, made, origin_of, is_open, sent, place, facts_of, key_in}
use Rattle.cml_board.specs.{cursor_in, log_at, cursor_at, KeepsLogs, Agrees, AgreesReading, reads_by, reads, least_of, least_place}
use Rattle.cml_board.specs.{kept_from}
use Rattle.cml_board.specs.Facts.{Facts}
use Rattle.cml_board.specs.Shown.{Shown}
use Rattle.cml_board.specs.Keeps.{Keeps}
use Rattle.cml_board.specs.declared.object.Object.TheVariants.{Mailbox, Channel, Port, Variable}
use Rattle.cml_board.specs.declared.object.Reading.TheVariants.{Open, Closed}
use Rattle.cml_board.specs.Keeps.{Shows}
use Rattle.cml_board.proofs.ChangingLemmas.{cursor_place}
use Rattle.cml_board.proofs.StandingLemmas.{cursor_of_mailbox, cursor_of_port}
use Rattle.cml_board.proofs.SourcesLemmas.{source_stands}

module _ {M : Type 0} where
  -- one object more
  least_of_reads : (history : List (Entry M)) (source n : ℕ) → reads history source n ≡ true
      → least_of history source (suc n) ≡ min (place history n) (least_of history source n)
  least_of_reads history source n reader = cond-true (reads history source n) _ _ reader

  least_of_other : (history : List (Entry M)) (source n : ℕ) → reads history source n ≡ false
      → least_of history source (suc n) ≡ least_of history source n
  least_of_other history source n other = cond-false (reads history source n) _ _ other

  -- the told place is no later than the end
  pub least_of-le_end : (history : List (Entry M)) (source n : ℕ) → least_of history source n ≤ length (sent history source)
  least_of-le_end history source zero = omega arith
  least_of-le_end history source (suc n) = elim (cases_Bool (reads history source n)) [
    | inl reader ↦ omega (arith, least_of_reads history source n reader, least_of-le_end history source n)
    | inr other ↦ omega (arith, least_of_other history source n other, least_of-le_end history source n)
  ]

  -- nor than that of an object that reads
  pub least_of-le_place : (history : List (Entry M)) (source n k : ℕ) → k < n → reads history source k ≡ true
      → least_of history source n ≤ place history k
  least_of-le_place history source zero k below reader = absurd (omega arith)
  least_of-le_place history source (suc n) k below reader = elim (cases_Bool (reads history source n)) [
    | inl last ↦ elim (cases_eq k n) [
      | inl same ↦
          let at : place history k ≡ place history n = ap (place history) same in
          omega (arith, least_of_reads history source n last, at)
      | inr earlier ↦ omega (arith, least_of_reads history source n last, least_of-le_place history source n k (omega arith) reader)
    ]
    | inr other ↦ elim (cases_eq k n) [
      | inl same ↦ absurd (false≢true (sym other ∙ ap (reads history source) (sym same) ∙ reader))
      | inr earlier ↦ omega (arith, least_of_other history source n other, least_of-le_place history source n k (omega arith) reader)
    ]
  ]

  -- a bound that is no later than those is no later than it
  pub least_of-ge : (history : List (Entry M)) (source bound n : ℕ) → bound ≤ length (sent history source)
      → ((k : ℕ) → k < n → reads history source k ≡ true → bound ≤ place history k) → bound ≤ least_of history source n
  least_of-ge history source bound zero end below = end
  least_of-ge history source bound (suc n) end below =
      let earlier = least_of-ge history source bound n end (λ k within reader. below k (omega arith) reader) in
      elim (cases_Bool (reads history source n)) [
        | inl reader ↦ omega (arith, least_of_reads history source n reader, earlier, below n (omega arith) reader)
        | inr other ↦ omega (arith, least_of_other history source n other, earlier)
      ]

  -- by the history, an object with a cursor of a log reads that log
  reads_told : {A : Type 0} (facts : Facts M) (name source key : ℕ) (object : Object M A)
      → Agrees facts object → cursor_in name object ≡ Some (source, key) → reads_by name facts.origin facts.opened source ≡ true
  reads_told facts name source key (Mailbox log own) agrees reads =
      ap (λ o. reads_by name o facts.opened source) agrees.0 ∙ eq-eqb name source (some_pair_parts name source own key reads).0
  reads_told facts name source key (Channel log) agrees reads = absurd (none-some (source, key) reads)
  reads_told facts name source key (Variable form held) agrees reads = absurd (none-some (source, key) reads)
  reads_told facts name source key (Port p) agrees reads =
      ap (λ o. reads_by name o facts.opened source) agrees.0 ∙ by_reading p.reading agrees.1 reads
    where
      by_reading : (reading : Reading) → AgreesReading facts reading
          → option_map {U = ℕ × ℕ} (λ k. (p.channel.0, k)) (key_in reading) ≡ Some (source, key)
          → reads_by name (Some (port p.channel.0 p.start)) facts.opened source ≡ true
      by_reading (Open own) opened reads =
          and_from facts.opened (eqb p.channel.0 source) opened
          (eq-eqb p.channel.0 source (some_pair_parts p.channel.0 source own key reads).0)
      by_reading (Closed received) closed reads = absurd (none-some (source, key) reads)

  -- and was made
  reader_told : (chunk n : ℕ) (f : ℕ → Facts M) (objects : List (Object M (Log M))) (name source key : ℕ) → Shows chunk n f objects
      → cursor_at objects name ≡ Some (source, key) → (name < n) × (reads_by name (f name).origin (f name).opened source ≡ true)
  reader_told chunk n f objects name source key shows reads =
      option_and_then_some (cursor_in name) (slice_get objects name) (source, key) reads (λ object found own. (
        omega (arith, slice_get_within objects name object found, shows.all),
        reads_told (f name) name source key object (shows.each name object found) own,
      ))

  -- an object that by the history reads a log has a cursor there
  told_reader : (chunk n : ℕ) (f : ℕ → Facts M) (objects : List (Object M (Log M))) (name source : ℕ) → Shows chunk n f objects → name < n
      → reads_by name (f name).origin (f name).opened source ≡ true → (key : ℕ) × (cursor_at objects name ≡ Some (source, key))
  told_reader chunk n f objects name source shows made reader = by_origin (f name).origin refl reader
    where
      by_origin : (origin : Option Origin) → (f name).origin ≡ origin → reads_by name origin (f name).opened source ≡ true
          → (key : ℕ) × (cursor_at objects name ≡ Some (source, key))
      by_origin (Some mailbox) begun reader =
          let own = cursor_of_mailbox chunk n f objects name shows begun made in
          (own.0, own.1 ∙ ap (λ (j : ℕ). Some (j, own.0)) (eqb-true name source reader))
      by_origin (Some (port from start)) begun reader =
          let both = and_parts (f name).opened (eqb from source) reader in
          let own = cursor_of_port chunk n f objects name from start shows begun both.0 made in
          (own.0, own.1 ∙ ap (λ (j : ℕ). Some (j, own.0)) (eqb-true from source both.1))
      by_origin origin begun reader = absurd (false≢true reader)

  -- so the least place of a log's cursors is the told one
  pub least_is_told : (chunk : ℕ) (history : List (Entry M)) (objects : List (Object M (Log M))) (source : ℕ) (log : Log M)
      → Shows chunk (length (made history)) (facts_of history) objects → log_at objects source ≡ Some log
      → least (length (sent history source)) log.places ≡ least_place history source
  least_is_told chunk history objects source log shows found =
      let n : ℕ = length (made history) in
      let end : ℕ = length (sent history source) in
      let up : least_of history source n ≤ least end log.places =
      least-ge (least_of history source n) end log.places (least_of-le_end history source n) (λ key at placed.
      let owner = shows.owners source log key at found placed in
      let told = reader_told chunk n (facts_of history) objects owner.0 source key shows owner.1 in
      let stands = cursor_place chunk n (facts_of history) objects owner.0 source key log shows owner.1 found in
      let same : place history owner.0 ≡ at = same_Some _ _ (sym stands ∙ placed) in
      omega (arith, least_of-le_place history source n owner.0 told.0 told.1, same)) in
      let down : least end log.places ≤ least_of history source n =
      least_of-ge history source (least end log.places) n (least-le_end end log.places) (λ k within reader.
      let own = told_reader chunk n (facts_of history) objects k source shows within reader in
      least-le_place end log.places own.0 (place history k)
      (cursor_place chunk n (facts_of history) objects k source own.0 log shows own.1 found)) in
      omega (arith, up, down)

  -- so is the place that it is kept from
  pub first_is_told : (chunk : ℕ) (history : List (Entry M)) (objects : List (Object M (Log M))) (source : ℕ) (log : Log M)
      → Shows chunk (length (made history)) (facts_of history) objects → log_at objects source ≡ Some log
      → log.first ≡ kept_from chunk history source
  first_is_told chunk history objects source log shows found =
      (shows.logs source log found).first ∙ ap (λ p. chunk * (p / chunk)) (least_is_told chunk history objects source log shows found)

  -- an object that by the history reads a log was made
  pub reader_made : (history : List (Entry M)) (source name : ℕ) → reads history source name ≡ true → name < length (made history)
  reader_made history source name reader = by_origin (origin_of history name) refl reader
    where
      by_origin : (origin : Option Origin) → origin_of history name ≡ origin
          → reads_by name origin (is_open history name) source ≡ true → name < length (made history)
      by_origin None begun reader = absurd (false≢true reader)
      by_origin (Some origin) begun reader = slice_get_within (made history) name origin begun

  -- every log holds what the history says
  pub keeps_logs : (chunk : ℕ) (board : Shown M) → Keeps chunk board → KeepsLogs chunk board
  keeps_logs chunk board keeps = λ name source.
      let n : ℕ = length (made board.history) in
      let f : ℕ → Facts M = facts_of board.history in
      let stands = source_stands chunk board name keeps source in
      record {
        log = stands.log;
        found = stands.found;
        first = first_is_told chunk board.history board.objects name stands.log keeps.shows stands.found;
        kept = (keeps.shows.logs name stands.log stands.found).kept;
        readers = λ reader reads.
            let own = told_reader chunk n f board.objects reader name keeps.shows (reader_made board.history name reader reads) reads in
            (own.0, own.1, cursor_place chunk n f board.objects reader name own.0 stands.log keeps.shows own.1 stands.found);
        cursors = λ key at placed.
            let owner = keeps.shows.owners name stands.log key at stands.found placed in
            (owner.0, (reader_told chunk n f board.objects owner.0 name key keeps.shows owner.1).1, owner.1);
        apart = λ one two key first second. keeps.shows.distinct one two name key first second;
      }
