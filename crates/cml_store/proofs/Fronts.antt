-- Fronts of a whole text: they are read, and give fronts of its entries.
use Rattle.std.proofs.Common.{◌≡◌, ℕ, ◌+◌, Bool, true, false, ◌==◌, ◌&&◌, ◌||◌, nat_lt, if◌then◌else◌, List, [], ◌∷◌, ◌++◌, length, take, drop, Option, Some, None, Result, Ok, Err, refl, sym, ◌∙◌, ap, subst, inl, inr, true≢false, take-append-drop}
use Rattle.std.specs.Prelude.{reverse, codes, nat_eq}
use Rattle.std.specs.List.{starts_with, list_any}
use Rattle.std.specs.Option.{option_to_list}
use Rattle.std.proofs.lemmas.Bool.{and_parts, eqb-true, eq-eqb}
use Rattle.std.proofs.lemmas.List.{nil_from_length, reverse-append}
use Rattle.cml_board.specs.{Entry, Lawful}
use Rattle.cml_grammar.specs.{is_bad_byte}
use Rattle.cml_journal.specs.{What, Stage, Read, State, waiting_at, behind, byte_read, held, turned, no_entry, line_read, line_step, reading, most}
use Rattle.cml_journal.specs.{numbered_line, numbered, tailed, headed, headed_by, header_fault, plain_headed, sealed_headed, begins_journal, unended_at, unended_behind}
use Rattle.cml_journal.specs.declared.fault.What.TheVariants.{BadBytes, TooLong, WrongSum, NoHeader}
use Rattle.cml_journal.specs.declared.fault.Unended.TheVariants.{Open, Torn, NoJournal}
use Rattle.cml_journal.specs.declared.reader.Link.TheVariants.{Any, First, Unsealed, Behind}
use Rattle.cml_journal.specs.declared.reader.Stage.TheVariants.{Waiting, Headed, Inside}
use Rattle.cml_journal.proofs.FeedLemmas.{on, placed, reading-append}
use Rattle.cml_journal.proofs.WordLemmas.{bind_ok, ok_is, chosen, not_failed}
use Rattle.cml_journal.proofs.StreamLemmas.{numbered_takes}
use Rattle.cml_journal.proofs.LineAddsLemmas.{behind_ok, turning_to}
use Rattle.cml_store.specs.Recovery.{printed}
use Rattle.cml_store.specs.Texts.{is_whole_read, is_journal, is_front_read, entries_of, IsFrontOf, is_whole_text, is_front_text, entries_in, KeepsEntries}
use Rattle.cml_store.proofs.Keeping.{Keeps, take_take}

-- ---- the first line
starts_alike : (xs : List ℕ) → starts_with nat_eq xs xs ≡ true
starts_alike [] = refl
starts_alike (x ∷ xs) = ap (λ t. t && starts_with nat_eq xs xs) (eq-eqb x x refl) ∙ starts_alike xs

starts_shorter : (xs front : List ℕ) (b : ℕ) → starts_with nat_eq xs (front ++ b ∷ []) ≡ true
    → starts_with nat_eq xs front ≡ true
starts_shorter xs [] b h = refl
starts_shorter [] (y ∷ front) b h = h
starts_shorter (x ∷ xs) (y ∷ front) b h =
    let parts = and_parts (nat_eq y x) (starts_with nat_eq xs (front ++ b ∷ [])) h in
    ap (λ t. t && starts_with nat_eq xs front) parts.0 ∙ starts_shorter xs front b parts.1

either : (a b c d : Bool) → (a ≡ true → c ≡ true) → (b ≡ true → d ≡ true) → (a || b) ≡ true → (c || d) ≡ true
either true b c d one other h = ap (λ t. t || d) (one refl)
either false b true d one other h = refl
either false b false d one other h = other h

second : (a b : Bool) → b ≡ true → (a || b) ≡ true
second true b e = refl
second false b e = e

module _ (version : ℕ) where
  plain_begins : (line : List ℕ) → line ≡ numbered_line (codes "journal") version → begins_journal version line ≡ true
  plain_begins line is =
      ap (λ t. t || starts_with nat_eq (numbered_line (codes "journal") (version + 2)) line)
      (ap (starts_with nat_eq (numbered_line (codes "journal") version)) is
      ∙ starts_alike (numbered_line (codes "journal") version))

  sealed_begins : (line : List ℕ) → line ≡ numbered_line (codes "journal") (version + 2) → begins_journal version line ≡ true
  sealed_begins line is =
      second (starts_with nat_eq (numbered_line (codes "journal") version) line)
      (starts_with nat_eq (numbered_line (codes "journal") (version + 2)) line)
      (ap (starts_with nat_eq (numbered_line (codes "journal") (version + 2))) is
      ∙ starts_alike (numbered_line (codes "journal") (version + 2)))

  begins_shorter : (line : List ℕ) (b : ℕ) → begins_journal version (line ++ b ∷ []) ≡ true → begins_journal version line ≡ true
  begins_shorter line b h =
      let one = numbered_line (codes "journal") version in
      let other = numbered_line (codes "journal") (version + 2) in
      either (starts_with nat_eq one (line ++ b ∷ [])) (starts_with nat_eq other (line ++ b ∷ [])) (starts_with nat_eq one line)
      (starts_with nat_eq other line)
      (starts_shorter one line b) (starts_shorter other line b) h

  begins_nothing : (line : List ℕ) → length line ≡ 0 → begins_journal version line ≡ true
  begins_nothing line none = ap (begins_journal version) (nil_from_length line none)

  -- where a text without a line may become a journal, it isn't refused
  behind_piece : (before : Option ℕ) (lines left : ℕ) → is_journal (unended_behind before lines left) ≡ true
  behind_piece (Some end) lines left =
      elim (left == 0) as (λ t. is_journal (if t then None else Some (Torn lines)) ≡ true) [ true ↦ refl | false ↦ refl ]
  behind_piece None lines left = refl

  within_piece : (lines left : ℕ) → is_journal (Some (if left == 0 then Open lines else Torn lines)) ≡ true
  within_piece lines left =
      elim (left == 0) as (λ t. is_journal (Some (if t then Open lines else Torn lines)) ≡ true) [ true ↦ refl | false ↦ refl ]

  torn_or : (before : Option ℕ) (lines left : ℕ)
      → is_journal (if lines == 0 then Some (Torn 0) else unended_behind before lines left) ≡ true
  torn_or before lines left =
      elim (lines == 0) as (λ t. is_journal (if t then Some (Torn 0) else unended_behind before lines left) ≡ true) [
        | true ↦ refl
        | false ↦ behind_piece before lines left
      ]

  goes_on : (stage : Stage) (lines : ℕ) (line : List ℕ)
      → ((before : Option ℕ) → stage ≡ Waiting before First → begins_journal version line ≡ true)
      → is_journal (unended_at version stage lines line) ≡ true
  goes_on (Waiting before First) lines line begins =
      elim (lines == 0) as (λ t. is_journal (if t then Some (if begins_journal version line then Torn 0 else NoJournal)
      else unended_behind before lines (length line)) ≡ true) [
        | true ↦ ap (λ t. is_journal (Some (if t then Torn 0 else NoJournal))) (begins before refl)
        | false ↦ behind_piece before lines (length line)
      ]
  goes_on (Waiting before Any) lines line begins = torn_or before lines (length line)
  goes_on (Waiting before Unsealed) lines line begins = torn_or before lines (length line)
  goes_on (Waiting before (Behind sum)) lines line begins = torn_or before lines (length line)
  goes_on (Headed before form) lines line begins = within_piece lines (length line)
  goes_on (Inside position form) lines line begins = within_piece lines (length line)

module _ {M : Type 0} (version : ℕ) (meaning : List ℕ → Option M) where
  -- the first line of a journal is one of two
  header_begins : (before : Option ℕ) (line : List ℕ) (told : Stage × Option (Entry M))
      → headed version before First line ≡ Ok told
      → begins_journal version line ≡ true
  unfolding headed
  header_begins before line told e = by (numbered (codes "journal") line) (tailed (codes "journal") line) refl e
    where
      failed_not : (what : What) → ◌≡◌ {A = Result (Stage × Option (Entry M)) What} (Err what) (Ok told) → ⊥
      failed_not what g = cc

      by : (o : Option ℕ) (tail : Option (ℕ × List ℕ)) → numbered (codes "journal") line ≡ o
          → headed_by {M = M} version before First o tail ≡ Ok told
          → begins_journal version line ≡ true
      by (Some n) tail is f =
          let line_is = numbered_takes (codes "journal") line n is in
          elim (chosen (n == version) (plain_headed before First) _ (Ok told) f) [
            | inl h ↦ plain_begins version line (line_is ∙ ap (numbered_line (codes "journal")) (eqb-true n version h.0))
            | inr h ↦ elim (chosen (n == version + 2) (sealed_headed before First None) (Err (header_fault version n))
                (Ok told) h.1) [
                  | inl k ↦
                      sealed_begins version line (line_is ∙ ap (numbered_line (codes "journal")) (eqb-true n (version + 2) k.0))
                  | inr k ↦ absurd (failed_not (header_fault version n) k.1)
                ]
          ]
      by None (Some found) is f =
          elim (chosen (found.0 == version + 2) (sealed_headed before First (Some found.1)) (Err (header_fault version found.0))
          (Ok told) f) [
            | inl k ↦ absurd (failed_not WrongSum k.1)
            | inr k ↦ absurd (failed_not (header_fault version found.0) k.1)
          ]
      by None None is f = absurd (failed_not NoHeader f)

  -- a byte is read so
  abbrev ByteRead : State → ℕ → Bool → Bool → State × Option (Entry M) → Type 0
  ByteRead state b done zero x =
      (if done then Ok (state, None) else if zero then Ok (record state { over = true }, None)
      else if b == 10 then turned version meaning state else no_entry (held state b)) ≡ Ok x

  abbrev silent : State → State × Option (Entry M)
  silent state = (state, None)

  kept_line : (t : Bool) (state : State) (b : ℕ) (x : State × Option (Entry M))
      → no_entry (if t then Ok (record state { line = state.line ++ b ∷ [] }) else Err TooLong) ≡ Ok x
      → silent (record state { line = state.line ++ b ∷ [] }) ≡ x
  kept_line true state b x f = ok_is (silent (record state { line = state.line ++ b ∷ [] })) x f
  kept_line false state b x f = absurd cc

  -- where no line has ended yet, what has come of the first one begins a journal's, if a whole text follows
  first_byte : (before : Option ℕ) (state : State) (b : ℕ) (x : State × Option (Entry M)) → state.stage ≡ Waiting before First
      → byte_read version meaning state b ≡ Ok x → (x.0.stage ≡ Waiting before First → begins_journal version x.0.line ≡ true)
      → begins_journal version state.line ≡ true
  unfolding turned line_read
  first_byte before state b x stage e later = by state.over (b == 0) e
    where
      silently : (next : State) → next.stage ≡ Waiting before First → silent next ≡ x → begins_journal version next.line ≡ true
      silently next waits is =
          subst (λ (y : State × Option (Entry M)). begins_journal version y.0.line ≡ true) (sym is)
          (later (subst (λ (y : State × Option (Entry M)). y.0.stage ≡ Waiting before First) is waits))

      by : (done zero : Bool) → ByteRead state b done zero x → begins_journal version state.line ≡ true
      by true zero f = silently state stage (ok_is (silent state) x f)
      by false true f = silently (record state { over = true }) stage (ok_is (silent (record state { over = true })) x f)
      by false false f =
          elim (chosen (b == 10) (turned version meaning state) (no_entry (held state b)) (Ok x) f) [
            | inl h ↦
                let a = bind_ok (line_read version meaning state.summed state.stage state.line) (turning_to state) x h.1 in
                let step = (not_failed (list_any is_bad_byte state.line) BadBytes
                (line_step version meaning state.summed state.stage state.line) a.0 a.1).1 in
                header_begins before state.line a.0
                (sym (ap (λ s. line_step version meaning state.summed s state.line) stage) ∙ step)
            | inr h ↦
                begins_shorter version state.line b
                (silently (record state { line = state.line ++ b ∷ [] }) stage
                (kept_line (nat_lt (length state.line) most) state b x h.1))
          ]

  line_begins : (rest : List ℕ) (before : Option ℕ) (state last : State) (entries : List (Entry M))
      → state.stage ≡ Waiting before First
      → reading version meaning state rest ≡ Ok (last, entries) → length last.line ≡ 0
      → begins_journal version state.line ≡ true
  unfolding reading
  line_begins [] before state last entries stage is ends =
      let same = ok_is (state, []) (last, entries) is in
      begins_nothing version state.line (ap (λ (x : State × List (Entry M)). length x.0.line) same ∙ ends)
  line_begins (b ∷ bs) before state last entries stage is ends =
      let first = bind_ok (byte_read version meaning state b)
      (λ x. behind (option_to_list x.1) (reading version meaning x.0 bs)) (last, entries) is in
      let later = behind_ok (option_to_list first.0.1) (reading version meaning first.0.0 bs) (last, entries) first.2 in
      first_byte before state b first.0 stage first.1
      (λ waits. line_begins bs before first.0.0 later.0.0 later.0.1 waits later.1
      (ap (λ (x : State × List (Entry M)). length x.0.line) later.2 ∙ ends))

  -- ---- the entries
  pub empty_is_whole : is_whole_text version meaning [] ≡ true
  unfolding reading
  empty_is_whole = refl

  -- of a text that is read each front is read, and gives a front of the entries
  record Parts (state last : State) (front rest : List ℕ) (entries : List (Entry M)) : Type 0 where
    next : State
    given : List (Entry M)
    later : List (Entry M)
    is : reading version meaning state front ≡ Ok (next, given)
    after : reading version meaning next rest ≡ Ok (last, later)
    all : entries ≡ given ++ later

  parts : (state last : State) (front rest : List ℕ) (entries : List (Entry M))
      → reading version meaning state (front ++ rest) ≡ Ok (last, entries)
      → Parts state last front rest entries
  parts state last front rest entries is =
      by (reading version meaning state front) refl (sym (reading-append version meaning state front rest) ∙ is)
    where
      by : (r : Read M) → reading version meaning state front ≡ r → on version meaning rest r ≡ Ok (last, entries)
          → Parts state last front rest entries
      by (Ok x) e f =
          let found = behind_ok x.1 (reading version meaning x.0 rest) (last, entries) f in
          record {
            next = x.0;
            given = x.1;
            later = found.0.1;
            is = e;
            after = found.1 ∙ ap (λ (y : State × List (Entry M)). placed {M = M} y.0 found.0.1) found.2;
            all = sym (ap (λ (y : State × List (Entry M)). y.1) found.2);
          }
      by (Err what) e f = absurd cc

  -- a whole text was read
  record WasRead (text : List ℕ) : Type 0 where
    last : State
    entries : List (Entry M)
    is : reading version meaning (waiting_at 0) text ≡ Ok (last, entries)
    ends : length last.line ≡ 0

  was_read : (text : List ℕ) → is_whole_text version meaning text ≡ true → WasRead text
  was_read text whole = by (reading version meaning (waiting_at 0) text) refl whole
    where
      by : (r : Read M) → reading version meaning (waiting_at 0) text ≡ r → is_whole_read r ≡ true → WasRead text
      by (Ok x) e ends =
          let line_ends = (and_parts (length x.0.line == 0) (x.0.header == 0) ends).0 in
          record { last = x.0; entries = x.1; is = e; ends = eqb-true (length x.0.line) 0 line_ends }
      by (Err what) e ends = absurd (true≢false (sym ends))

  front_read : (text : List ℕ) (n : ℕ) (w : WasRead text) → Parts (waiting_at 0) w.last (take n text) (drop n text) w.entries
  front_read text n w =
      parts (waiting_at 0) w.last (take n text) (drop n text) w.entries
      (ap (λ t. reading version meaning (waiting_at 0) t) (take-append-drop n text) ∙ w.is)

  entries_front : (text : List ℕ) (n : ℕ) → is_whole_text version meaning text ≡ true
      → IsFrontOf (entries_in version meaning (take n text)) (entries_in version meaning text)
  entries_front text n whole =
      let w = was_read text whole in
      let p = front_read text n w in (
        p.later,
        ap (λ (r : Read M). entries_of r) w.is ∙ p.all
            ∙ ap (λ (es : List (Entry M)). es ++ p.later) (sym (ap (λ (r : Read M). entries_of r) p.is)),
      )

  -- a front of a whole text may become a journal
  pub take_front : (text : List ℕ) (n : ℕ) → is_whole_text version meaning text ≡ true
      → is_front_text version meaning (take n text) ≡ true
  take_front text n whole =
      let w = was_read text whole in
      let p = front_read text n w in
      ap (λ (r : Read M). is_front_read version r) p.is
      ∙ goes_on version p.next.stage p.next.lines p.next.line
      (λ before waits. line_begins (drop n text) before p.next w.last p.later waits p.after w.ends)

  later_lawful : (later before : List (Entry M)) → Lawful (later ++ before) → Lawful before
  later_lawful [] before h = h
  later_lawful (entry ∷ later) before h = later_lawful later before h.2

  -- a beginning of a lawful history is lawful
  front_lawful : (front whole : List (Entry M)) → IsFrontOf front whole → Lawful (reverse whole) → Lawful (reverse front)
  front_lawful front whole is h =
      later_lawful (reverse is.0) (reverse front)
      (subst (λ (l : List (Entry M)). Lawful l) (ap reverse is.1 ∙ reverse-append front is.0) h)

  -- what recovery keeps has the entries before the mark, and no others than the text
  pub keeps_entries : (mark : ℕ) (text c : List ℕ) → Keeps (is_whole_text version meaning) mark text c
      → is_whole_text version meaning text ≡ true
      → is_front_text version meaning (printed c) ≡ true → KeepsEntries version meaning mark text c
  keeps_entries mark text c k whole accepted =
      let sure = subst (λ t. IsFrontOf (entries_in version meaning t) (entries_in version meaning (take k.many text)))
      (take_take mark k.many text k.sure)
      (entries_front (take k.many text) mark k.whole_still) in
      let front = entries_front text k.many whole in
      record {
        sure =
            subst (λ t. IsFrontOf (entries_in version meaning (take mark text)) (entries_in version meaning t)) (sym k.is) sure;
        front = subst (λ t. IsFrontOf (entries_in version meaning t) (entries_in version meaning text)) (sym k.is) front;
        lawful = λ is_lawful. subst (λ t. Lawful (reverse (entries_in version meaning t))) (sym k.is)
            (front_lawful (entries_in version meaning (take k.many text)) (entries_in version meaning text) front is_lawful);
        accepted = accepted;
      }
