-- What was received since a cut, followed by what is owed, is what is due since it.
use Rattle.std.proofs.Common.{◌≡◌, ℕ, ◌+◌, ◌-◌, ◌<◌, ◌≤◌, inl, inr, Bool, true, false, cond, eqb, List, [], ◌++◌, length}
use Rattle.std.proofs.Common.{drop, slice_get, Option, Some, refl, sym, ap, ◌∙◌, arith}
use Rattle.std.specs.Option.{option_map, option_map_or}
use Rattle.std.proofs.lemmas.Bool.{cases_lt, cases_Bool, eq-eqb, and_parts, and_from, cond-true, cond-false, false≢true}
use Rattle.std.proofs.lemmas.List.{append_assoc, drop_at, drop-drop, drop-append-le}
use Rattle.std.proofs.lemmas.Option.{slice_get_past}
use Rattle.cml_board.specs.{Entry, Origin, mailbox, port, kind_by, source_by, start_by, Lawful, made, origin_of, is_open, sent, got, owed}
use Rattle.cml_board.specs.{reads_by, kept_from, is_a, base_of, stood_at, stream_start, stream_since, origin_since, due_since, owed_since}
use Rattle.cml_calls.specs.{is_receiver}
use Rattle.cml_board.proofs.ReceivedLemmas.{got_append_owed}
use Rattle.cml_board.proofs.SplittingLemmas.{lawful_past, sent_split, got_split, length-got_split, open_split, origin_split, got_none}
use Rattle.cml_board.proofs.ResumingLemmas.{stood_told, origin_told}
use Rattle.cml_board.proofs.PlaceBoundsLemmas.{stands_within}
use Rattle.cml_board.proofs.TrailingLemmas.{stood_later, kept_from-le_least, stream_from}

-- a mailbox or an open port reads where its messages are
reads_own : (origin : Option Origin) (opened : Bool) (o : ℕ)
    → option_map_or is_receiver (option_map kind_by origin) false ≡ true → opened ≡ true
    → reads_by o origin opened (source_by o origin) ≡ true
reads_own (Some mailbox) opened o is now = eq-eqb o o refl
reads_own (Some (port source start)) opened o is now = and_from opened (eqb source source) now (eq-eqb source source refl)
reads_own origin opened o is now = absurd (false≢true is)

-- a receiver was made
receiver_made : (origins : List Origin) (o : ℕ)
    → option_map_or is_receiver (option_map kind_by (slice_get origins o)) false ≡ true → o < length origins
receiver_made origins o is = elim (cases_lt o (length origins)) [
  | inl within ↦ within
  | inr behind ↦ absurd
      (false≢true (sym (ap (λ origin. option_map_or is_receiver (option_map kind_by origin) false) (slice_get_past origins o behind)) ∙ is))
]

module _ {M : Type 0} where
  -- what was not closed at the end was not closed at the cut
  pub open_before : (past since : List (Entry M)) (o : ℕ) → is_open (since ++ past) o ≡ true → is_open past o ≡ true
  open_before past since o opened = (and_parts (is_open past o) (is_open since o) (sym (open_split past since o) ∙ opened)).0

  -- what is due since the cut is what the whole history sent from where the object stood then on
  due_told : (chunk : ℕ) (past since : List (Entry M)) (o : ℕ) → Lawful (since ++ past)
      → is_a is_receiver (since ++ past) o ≡ true → is_open past o ≡ true
      → due_since (base_of chunk past) since o
      ≡ drop (start_by (origin_of (since ++ past) o) + length (got past o))
      (sent (since ++ past) (source_by o (origin_of (since ++ past) o)))
  due_told chunk past since o lawful is opened =
      let b = base_of chunk past in
      let origin = origin_of (since ++ past) o in
      let source = source_by o origin in
      let at = start_by origin + length (got past o) in
      let reading : reads_by o origin (is_open past o) source ≡ true = reads_own origin (is_open past o) o is opened in
      let later : kept_from chunk past source ≤ at =
      omega (arith, kept_from-le_least chunk past source, stood_later past since source lawful o reading) in
      ap (λ begun. cond (is_open past o)
      (drop (stood_at b o begun - stream_start b (source_by o begun)) (stream_since b since (source_by o begun))) [])
      (origin_told chunk past since o lawful)
      ∙ cond-true (is_open past o) (drop (stood_at b o origin - stream_start b source) (stream_since b since source)) [] opened
      ∙ ap (λ n. drop (n - stream_start b source) (stream_since b since source)) (stood_told chunk past since o lawful)
      ∙ stream_from chunk past since source at later

  -- so the base and the entries since give what is owed
  pub owed_told : (chunk : ℕ) (past since : List (Entry M)) (o : ℕ) → Lawful (since ++ past)
      → is_a is_receiver (since ++ past) o ≡ true → is_open past o ≡ true
      → owed_since (base_of chunk past) since o ≡ owed (since ++ past) o
  owed_told chunk past since o lawful is opened =
      let start = start_by (origin_of (since ++ past) o) in
      let stream = sent (since ++ past) (source_by o (origin_of (since ++ past) o)) in
      let same : (start + length (got past o)) + length (got since o) ≡ start + length (got (since ++ past) o) =
      omega (arith, length-got_split past since o) in
      ap (drop (length (got since o))) (due_told chunk past since o lawful is opened)
      ∙ drop-drop (length (got since o)) (start + length (got past o)) stream
      ∙ ap (λ n. drop n stream) same
      ∙ sym (drop-drop (length (got (since ++ past) o)) start stream)

  -- what a receiver received since that was not closed before the cut, followed by what it is owed, is what is due
  pub received_since : (chunk : ℕ) (past since : List (Entry M)) (o : ℕ) → Lawful (since ++ past)
      → is_a is_receiver (since ++ past) o ≡ true → is_open past o ≡ true
      → got since o ++ owed (since ++ past) o ≡ due_since (base_of chunk past) since o
  received_since chunk past since o lawful is opened =
      let start = start_by (origin_of (since ++ past) o) in
      let stream = sent (since ++ past) (source_by o (origin_of (since ++ past) o)) in
      let rest = got since o ++ owed (since ++ past) o in
      let whole : got past o ++ rest ≡ drop start stream =
      sym (append_assoc (got past o) (got since o) (owed (since ++ past) o))
      ∙ ap (λ xs. xs ++ owed (since ++ past) o) (sym (got_split past since o)) ∙ got_append_owed (since ++ past) o lawful in
      sym (drop_at (got past o) rest (length (got past o)) refl) ∙ ap (drop (length (got past o))) whole
      ∙ drop-drop (length (got past o)) start stream ∙ sym (due_told chunk past since o lawful is opened)

  -- and so it is with one that is open at the end
  pub received_open : (chunk : ℕ) (past since : List (Entry M)) (o : ℕ) → Lawful (since ++ past) → is_a is_receiver (since ++ past) o ≡ true
      → is_open (since ++ past) o ≡ true
      → got since o ++ owed (since ++ past) o ≡ due_since (base_of chunk past) since o
  received_open chunk past since o lawful is opened = received_since chunk past since o lawful is (open_before past since o opened)

  -- from one that was closed before the cut nothing was received, and nothing is due
  pub received_nothing : (chunk : ℕ) (past since : List (Entry M)) (o : ℕ) → Lawful (since ++ past) → is_open past o ≡ false
      → (got since o ≡ []) × (due_since (base_of chunk past) since o ≡ [])
  received_nothing chunk past since o lawful closed =
      let b = base_of chunk past in
      let origin = origin_since b since o in (
        got_none past since o lawful closed,
        cond-false (is_open past o)
            (drop (stood_at b o origin - stream_start b (source_by o origin)) (stream_since b since (source_by o origin))) [] closed,
      )

  -- whether it was closed or not, a receiver received how what is due begins
  pub received_closed : (chunk : ℕ) (past since : List (Entry M)) (o : ℕ) → Lawful (since ++ past)
      → is_a is_receiver (since ++ past) o ≡ true
      → (rest : List M) × (got since o ++ rest ≡ due_since (base_of chunk past) since o)
  received_closed chunk past since o lawful is = elim (cases_Bool (is_open past o)) [
    | inl opened ↦ (owed (since ++ past) o, received_since chunk past since o lawful is opened)
    | inr closed ↦
        let nothing = received_nothing chunk past since o lawful closed in
        ([], ap (λ xs. xs ++ []) nothing.0 ∙ sym nothing.1)
  ]

  -- what waited at the cut, followed by what was sent since, is what is due to a receiver that was open then
  pub waiting_since : (chunk : ℕ) (past since : List (Entry M)) (o : ℕ) → Lawful (since ++ past)
      → is_a is_receiver past o ≡ true → is_open past o ≡ true
      → due_since (base_of chunk past) since o ≡ owed past o ++ sent since (source_by o (origin_of past o))
  waiting_since chunk past since o lawful is opened =
      let origin = origin_of past o in
      let source = source_by o origin in
      let at = start_by origin + length (got past o) in
      let same : origin_of (since ++ past) o ≡ origin = origin_split past since o (receiver_made (made past) o is) in
      let still : is_a is_receiver (since ++ past) o ≡ true =
      ap (λ begun. option_map_or is_receiver (option_map kind_by begun) false) same ∙ is in
      due_told chunk past since o lawful still opened
      ∙ ap (λ begun. drop (start_by begun + length (got past o)) (sent (since ++ past) (source_by o begun))) same
      ∙ ap (drop at) (sent_split past since source)
      ∙ drop-append-le at (sent past source) (sent since source) (stands_within past o (lawful_past past since lawful))
      ∙ ap (λ xs. xs ++ sent since source) (sym (drop-drop (length (got past o)) (start_by origin) (sent past source)))
