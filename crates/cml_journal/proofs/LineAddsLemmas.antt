-- What each line adds to what is read, by its stage, up to a whole stream.
use Rattle.std.proofs.Common.{◌≡◌, ℕ, ◌+◌, ◌^◌, ◌%◌, Bool, true, false, ◌==◌, nat_lt, if◌then◌else◌, List, [], ◌∷◌, ◌++◌, length, Option}
use Rattle.std.proofs.Common.{Some, None, Result, Ok, Err, refl, sym, ap, subst, ◌∙◌, arith, append_assoc, inl, inr}
use Rattle.std.proofs.Common.{is_some}
use Rattle.std.specs.Prelude.{codes}
use Rattle.std.specs.List.{flat_map, list_any}
use Rattle.std.specs.Option.{option_map, option_to_list}
use Rattle.std.specs.Str.{bytes_eq}
use Rattle.std.proofs.lemmas.Bool.{eqb-true}
use Rattle.std.proofs.lemmas.List.{append-nil, nil_from_length}
use Rattle.std.proofs.lemmas.Option.{none-some}
use Rattle.cml_board.specs.{Entry}
use Rattle.cml_grammar.specs.{is_bad_byte}
use Rattle.cml_journal.specs.{Sum, Summed, nothing_summed, sum_by, sum_word, sum_in, What, Form, Link, Stage, IsWritten, ◌>>=◌, entry_in}
use Rattle.cml_journal.specs.{numbered_line, with_line_end, text_of, IsTextOf, from_lines, sealed_header, sealed_end, State, fresh}
use Rattle.cml_journal.specs.{end_by, end_of, numbered, tailed, headed, headed_by, header_fault, plain_headed, sealed_headed, begun}
use Rattle.cml_journal.specs.{entered, ended_by, closed_by, sealed_by, inside, from_by, behind_header, line_step, line_read, sums}
use Rattle.cml_journal.specs.{kept_behind, header_behind, printed, sums_line, most, held, turned, no_entry, byte_read, behind, reading, IsJournalOf, waiting_at}
use Rattle.cml_journal.specs.{sealed_stream_lines, stream_lines}
use Rattle.cml_journal.specs.declared.fault.What.TheVariants.{BadNumber, BadBytes, NoHeader, Gap, WrongEnd, WrongSum, TooMany, TooLong}
use Rattle.cml_journal.specs.declared.reader.Form.TheVariants.{Plain, Sealed}
use Rattle.cml_journal.specs.declared.reader.Link.TheVariants.{Any, First, Unsealed, Behind}
use Rattle.cml_journal.specs.declared.reader.Stage.TheVariants.{Waiting, Headed, Inside}
use Rattle.cml_journal.proofs.WordLemmas.{bind_ok, ok_is, chosen, passed, not_failed, same_bytes}
use Rattle.cml_journal.proofs.EntryLemmas.{entry_takes}
use Rattle.cml_journal.proofs.SumWordsLemmas.{word_takes}
use Rattle.cml_journal.proofs.StreamLemmas.{numbered_takes, tailed_takes, StartsAt, Allows, AllowsPlain, IsText, Whole, sums_none, Rest}
use Rattle.cml_journal.proofs.StreamLemmas.{Opened, Claim, Ready, header_adds, sealed_adds, end_adds, entry_adds}

-- what a line adds that was read as this
abbrev pub Adds : {M : Type 0} → ℕ → (M → List ℕ) → Stage → Summed → List ℕ → Stage × Option (Entry M) → Type 0
Adds {M} version text stage summed line told =
    (bytes : List ℕ) (entries : List (Entry M)) (end : ℕ)
    → Claim version text told.0 (sums_line told.0 summed line) bytes entries end
    → Claim version text stage summed (with_line_end line ++ bytes) (option_to_list told.1 ++ entries) end

pub entered_adds : {M : Type 0} (version : ℕ) (text : M → List ℕ) (fits : M → Bool) (read : List ℕ → Option M)
    (written : IsWritten text fits read) (form : Form) (summed : Summed) (position : ℕ) (line : List ℕ) (told : Stage × Option (Entry M))
    → entered read form position line ≡ Ok told → Adds version text (Inside position form) summed line told
unfolding entered
entered_adds {M} version text fits read written form summed position line told f =
    let a = bind_ok (entry_in read line)
    (λ entry. if nat_lt (position + 1) (2 ^ 64) then Ok (Inside (position + 1) form, Some entry) else Err TooMany) told f in
    let line_is = (entry_takes text fits read written line a.0 a.1).0 in
    let (few, same) = passed (nat_lt (position + 1) (2 ^ 64)) (Inside (position + 1) form, Some a.0) told TooMany a.2 in
    subst (Adds version text (Inside position form) summed line) same
    (λ bytes entries end claim.
    subst (λ (l : List ℕ). Rest version text form summed position (with_line_end l ++ bytes) (a.0 ∷ entries) end) (sym line_is)
    (entry_adds version text form summed position a.0 bytes entries end
    (subst (λ (l : List ℕ). Rest version text form (sums form summed (with_line_end l)) (position + 1) bytes entries end) line_is claim)))

pub inside_adds : {M : Type 0} (version : ℕ) (text : M → List ℕ) (fits : M → Bool) (read : List ℕ → Option M)
    (written : IsWritten text fits read) (form : Form) (summed : Summed) (position : ℕ) (line : List ℕ) (told : Stage × Option (Entry M))
    → inside read form summed position line ≡ Ok told → Adds version text (Inside position form) summed line told
unfolding inside
inside_adds {M} version text fits read written Plain summed position line told e = by (numbered (codes "end") line) refl e
  where
    by : (o : Option ℕ) → numbered (codes "end") line ≡ o → ended_by read position o line ≡ Ok told
        → Adds version text (Inside position Plain) summed line told
    by (Some n) is f =
        let (ends, same) = passed (n == position) (Waiting (Some position) Unsealed, None) told WrongEnd f in
        let whole : line ≡ numbered_line (codes "end") position = numbered_takes (codes "end") line n is
        ∙ ap (numbered_line (codes "end")) (eqb-true n position ends) in
        subst (Adds version text (Inside position Plain) summed line) same
        (λ bytes entries end claim. subst (λ (l : List ℕ). Rest version text Plain summed position (with_line_end l ++ bytes) entries end)
        (sym whole) (end_adds version text Plain summed position bytes entries end claim))
    by None is f = entered_adds version text fits read written Plain summed position line told f
inside_adds {M} version text fits read written Sealed summed position line told e = by (tailed (codes "end") line) refl e
  where
    sum : Sum
    sum = sum_by summed

    by : (o : Option (ℕ × List ℕ)) → tailed (codes "end") line ≡ o → closed_by read sum position o line ≡ Ok told
        → Adds version text (Inside position Sealed) summed line told
    by (Some found) is f =
        let one = at_place (found.0 == position) (sealed_by position sum found.1) told f in
        let (named, same) = passed (bytes_eq found.1 (sum_word sum)) (Waiting (Some position) (Behind sum), None) told WrongSum one.1 in
        let whole : line ≡ sealed_end position sum = tailed_takes (codes "end") line found is
        ∙ ap (λ (n : ℕ). numbered_line (codes "end") n ++ 32 ∷ found.1) (eqb-true found.0 position one.0)
        ∙ ap (λ (w : List ℕ). numbered_line (codes "end") position ++ 32 ∷ w) (same_bytes found.1 (sum_word sum) named) in
        subst (Adds version text (Inside position Sealed) summed line) same
        (λ bytes entries end claim. subst (λ (l : List ℕ). Rest version text Sealed summed position (with_line_end l ++ bytes) entries end)
        (sym whole) (end_adds version text Sealed summed position bytes entries end claim))
      where
        at_place : (t : Bool) (r : Result (Stage × Option (Entry M)) What) (y : Stage × Option (Entry M))
            → (if t then r else Err WrongEnd) ≡ Ok y → (t ≡ true) × (r ≡ Ok y)
        at_place true r y g = (refl, g)
        at_place false r y g = absurd cc
    by None is f = entered_adds version text fits read written Sealed summed position line told f

pub begun_starts : (before : Option ℕ) (from position : ℕ) → begun before from ≡ Ok position → StartsAt before position × (position ≡ from)
begun_starts None from position e = (tt, sym (ok_is from position e))
begun_starts (Some q) from position e =
    let (here, same) = passed (from == q) from position Gap e in
    (sym same ∙ eqb-true from q here, sym same)

pub behind_adds : {M : Type 0} (version : ℕ) (text : M → List ℕ) (fits : M → Bool) (read : List ℕ → Option M)
    (written : IsWritten text fits read) (form : Form) (summed : Summed) (before : Option ℕ) (line : List ℕ)
    (told : Stage × Option (Entry M))
    → behind_header read form summed before line ≡ Ok told → Adds version text (Headed before form) summed line told
unfolding behind_header
behind_adds {M} version text fits read written form summed before line told e = by (numbered (codes "from") line) refl e
  where
    by : (o : Option ℕ) → numbered (codes "from") line ≡ o → from_by read form summed before o line ≡ Ok told
        → Adds version text (Headed before form) summed line told
    by None is f =
        let a = bind_ok (begun before 0) (λ position. inside read form summed position line) told f in
        let starts = begun_starts before 0 a.0 a.1 in
        let adds = inside_adds version text fits read written form summed a.0 line told a.2 in
        let nothing : text_of (from_lines a.0) ≡ [] = ap (λ (n : ℕ). text_of (from_lines n)) starts.1 in
        let same : sums form summed (text_of (from_lines a.0)) ≡ summed = ap (sums form summed) nothing ∙ sums_none form summed in
        λ bytes entries end claim. record {
          from = a.0;
          more = with_line_end line ++ bytes;
          starts = starts.0;
          parts = ap (λ (w : List ℕ). w ++ (with_line_end line ++ bytes)) (sym nothing);
          rest = subst (λ (s : Summed). Rest version text form s a.0 (with_line_end line ++ bytes) (option_to_list told.1 ++ entries) end)
              (sym same) (adds bytes entries end claim);
        }
    by (Some n) is f =
        let opened : Result (Stage × Option (Entry M)) What = begun before n >>= λ position. Ok (Inside position form, None) in
        let (some, opens) = not_failed (n == 0) BadNumber opened told f in
        let a = bind_ok (begun before n) (λ position. Ok (Inside position form, None)) told opens in
        let starts = begun_starts before n a.0 a.1 in
        let within : Stage × Option (Entry M) = (Inside a.0 form, None) in
        let whole : line ≡ numbered_line (codes "from") n = numbered_takes (codes "from") line n is in
        let named : text_of (from_lines n) ≡ with_line_end line =
        ap (λ t. text_of (if t then [] else numbered_line (codes "from") n ∷ [])) some
        ∙ append-nil (with_line_end (numbered_line (codes "from") n)) ∙ ap with_line_end (sym whole) in
        let there : text_of (from_lines a.0) ≡ with_line_end line = ap (λ (m : ℕ). text_of (from_lines m)) starts.1 ∙ named in
        subst (Adds version text (Headed before form) summed line) (ok_is within told a.2)
        (λ bytes entries end claim. record {
          from = a.0;
          more = bytes;
          starts = starts.0;
          parts = ap (λ (w : List ℕ). w ++ bytes) (sym there);
          rest = subst (λ (w : List ℕ). Rest version text form (sums form summed w) a.0 bytes entries end) (sym there) claim;
        })

-- a header that was read, and the sum that it names
pub record Heads {M : Type 0} (before : Option ℕ) (link : Link) (word : Option (List ℕ)) (told : Stage × Option (Entry M)) : Type 0 where
  pub after : Option Sum
  pub allowed : Allows link after
  pub words : word ≡ option_map sum_word after
  pub same : (Headed before Sealed, None) ≡ told

pub some_sum : (word : List ℕ) (o : Option Sum) → sum_in word ≡ o → is_some o ≡ true → (sum : Sum) × (word ≡ sum_word sum)
some_sum word None e t = absurd (cc)
some_sum word (Some sum) e t = (sum, word_takes word sum e)

pub sealed_heads : {M : Type 0} (before : Option ℕ) (link : Link) (word : Option (List ℕ)) (told : Stage × Option (Entry M))
    → sealed_headed {M = M} before link word ≡ Ok told → Heads before link word told
sealed_heads {M} before Any None told e =
    let is = passed true (Headed before Sealed, None) told WrongSum e in
    record { after = None; allowed = tt; words = refl; same = is.1 }
sealed_heads {M} before Any (Some word) told e =
    let is = passed (is_some (sum_in word)) (Headed before Sealed, None) told WrongSum e in
    let found = some_sum word (sum_in word) refl is.0 in
    record { after = Some found.0; allowed = tt; words = ap (λ (w : List ℕ). Some w) found.1; same = is.1 }
sealed_heads {M} before First None told e =
    let is = passed true (Headed before Sealed, None) told WrongSum e in
    record { after = None; allowed = refl; words = refl; same = is.1 }
sealed_heads {M} before First (Some word) told e = absurd cc
sealed_heads {M} before Unsealed word told e = absurd cc
sealed_heads {M} before (Behind sum) None told e = absurd cc
sealed_heads {M} before (Behind sum) (Some word) told e =
    let is = passed (bytes_eq word (sum_word sum)) (Headed before Sealed, None) told WrongSum e in
    record { after = Some sum; allowed = refl; words = ap (λ (w : List ℕ). Some w) (same_bytes word (sum_word sum) is.0); same = is.1 }

pub plain_heads : {M : Type 0} (before : Option ℕ) (link : Link) (told : Stage × Option (Entry M))
    → plain_headed {M = M} before link ≡ Ok told → AllowsPlain link × ((Headed before Plain, None) ≡ told)
plain_heads {M} before Any told e = let made : Stage × Option (Entry M) = (Headed before Plain, None) in (tt, ok_is made told e)
plain_heads {M} before First told e = let made : Stage × Option (Entry M) = (Headed before Plain, None) in (tt, ok_is made told e)
plain_heads {M} before Unsealed told e = let made : Stage × Option (Entry M) = (Headed before Plain, None) in (tt, ok_is made told e)
plain_heads {M} before (Behind sum) told e = absurd cc

-- the line of a header with such a word after its version
abbrev pub header_with : ℕ → Option (List ℕ) → List ℕ
header_with version None = numbered_line (codes "journal") version
header_with version (Some word) = numbered_line (codes "journal") version ++ 32 ∷ word

pub header_named : (version : ℕ) (after : Option Sum) → header_with version (option_map sum_word after) ≡ sealed_header version after
header_named version None = refl
header_named version (Some sum) = refl

pub headed_adds : {M : Type 0} (version : ℕ) (text : M → List ℕ) (before : Option ℕ) (link : Link) (summed : Summed) (line : List ℕ)
    (told : Stage × Option (Entry M)) → summed ≡ nothing_summed
    → headed version before link line ≡ Ok told → Adds version text (Waiting before link) summed line told
unfolding headed
headed_adds {M} version text before link summed line told empty e =
    by (numbered (codes "journal") line) (tailed (codes "journal") line) refl refl e
  where
    plain : (n : ℕ) → (n == version) ≡ true → line ≡ numbered_line (codes "journal") n → plain_headed {M = M} before link ≡ Ok told
        → Adds version text (Waiting before link) summed line told
    plain n known is f =
        let heads = plain_heads before link told f in
        let whole = is ∙ ap (numbered_line (codes "journal")) (eqb-true n version known) in
        subst (Adds version text (Waiting before link) summed line) heads.1
        (λ bytes entries end claim. subst (λ (l : List ℕ). Whole version text before link (with_line_end l ++ bytes) entries end)
        (sym whole) (header_adds version text before link bytes entries end summed heads.0 claim))

    sealed : (n : ℕ) (word : Option (List ℕ)) → (n == version + 2) ≡ true → line ≡ header_with n word
        → sealed_headed {M = M} before link word ≡ Ok told → Adds version text (Waiting before link) summed line told
    sealed n word known is f =
        let heads = sealed_heads before link word told f in
        let whole = is ∙ ap (λ (v : ℕ). header_with v word) (eqb-true n (version + 2) known)
        ∙ ap (header_with (version + 2)) heads.words ∙ header_named (version + 2) heads.after in
        subst (Adds version text (Waiting before link) summed line) heads.same
        (λ bytes entries end claim. subst (λ (l : List ℕ). Whole version text before link (with_line_end l ++ bytes) entries end)
        (sym whole) (sealed_adds version text before link heads.after bytes entries end heads.allowed
        (subst (λ (l : List ℕ). Opened version text Sealed (sums Sealed nothing_summed (with_line_end l)) before bytes entries end) whole
        (subst (λ (s : Summed). Opened version text Sealed (sums Sealed s (with_line_end line)) before bytes entries end) empty claim))))

    by : (o : Option ℕ) (tail : Option (ℕ × List ℕ)) → numbered (codes "journal") line ≡ o → tailed (codes "journal") line ≡ tail
        → headed_by {M = M} version before link o tail ≡ Ok told → Adds version text (Waiting before link) summed line told
    by (Some n) tail is other f =
        elim (chosen (n == version) (plain_headed before link) _ (Ok told) f) [
          | inl h ↦ plain n h.0 (numbered_takes (codes "journal") line n is) h.1
          | inr h ↦ elim (chosen (n == version + 2) (sealed_headed before link None) (Err (header_fault version n)) (Ok told) h.1) [
            | inl k ↦ sealed n None k.0 (numbered_takes (codes "journal") line n is) k.1
            | inr k ↦ absurd (failed_not (header_fault version n) told k.1)
          ]
        ]
      where
        failed_not : (what : What) (y : Stage × Option (Entry M)) → Err what ≡ Ok y → ⊥
        failed_not what y g = cc
    by None (Some found) none is f =
        elim (chosen (found.0 == version + 2) (sealed_headed before link (Some found.1)) (Err (header_fault version found.0)) (Ok told) f) [
          | inl k ↦ sealed found.0 (Some found.1) k.0 (tailed_takes (codes "journal") line found is) k.1
          | inr k ↦ absurd (failed_not (header_fault version found.0) told k.1)
        ]
      where
        failed_not : (what : What) (y : Stage × Option (Entry M)) → Err what ≡ Ok y → ⊥
        failed_not what y g = cc
    by None None none other f = let e : Err NoHeader ≡ Ok told = f in absurd cc

pub line_adds : {M : Type 0} (version : ℕ) (text : M → List ℕ) (fits : M → Bool) (read : List ℕ → Option M) (written : IsWritten text fits read)
    (stage : Stage) (summed : Summed) (line : List ℕ) (told : Stage × Option (Entry M)) → Ready stage summed
    → line_read version read summed stage line ≡ Ok told → Adds version text stage summed line told
unfolding line_read
line_adds {M} version text fits read written stage summed line told ready e =
    by stage ready (not_failed (list_any is_bad_byte line) BadBytes (line_step version read summed stage line) told e).1
  where
    by : (s : Stage) → Ready s summed → line_step version read summed s line ≡ Ok told → Adds version text s summed line told
    by (Waiting before link) empty f = headed_adds version text before link summed line told empty f
    by (Headed before form) empty f = behind_adds version text fits read written form summed before line told f
    by (Inside position form) empty f = inside_adds version text fits read written form summed position line told f

-- ---- a whole stream
pub no_pieces : {M : Type 0} (version : ℕ) (text : M → List ℕ) (link : Link) (from : ℕ) → IsText {M = M} version text link from [] []
no_pieces version text Any from = inl (tt, refl)
no_pieces version text First from = inl (tt, refl)
no_pieces version text Unsealed from = inl (tt, refl)
no_pieces version text (Behind sum) from = inr (Some sum, refl, refl)

pub at_end : {M : Type 0} (version : ℕ) (text : M → List ℕ) (stage : Stage) (summed : Summed) (line : List ℕ) (end : ℕ)
    → end_by stage (length line) ≡ Some end → Claim {M = M} version text stage summed (line ++ []) [] end
at_end {M} version text (Headed before form) summed line end e = absurd (none-some end e)
at_end {M} version text (Inside position form) summed line end e = absurd (none-some end e)
at_end {M} version text (Waiting before link) summed line end e =
    elim (chosen (length line == 0) before None (Some end) e) [
      | inl h ↦
          let nothing : line ++ [] ≡ [] = append-nil line ∙ nil_from_length line (eqb-true (length line) 0 h.0) in
          subst (λ (o : Option ℕ). Whole {M = M} version text o link (line ++ []) [] end) (sym h.1)
          (subst (λ (w : List ℕ). Whole {M = M} version text (Some end) link w [] end) (sym nothing)
          (record { from = end; pieces = []; starts = refl; whole = no_pieces version text link end; given = refl; ends = omega arith }))
      | inr h ↦ absurd (none-some end h.1)
    ]

pub behind_ok : {M : Type 0} (front : List (Entry M)) (r : Result (State × List (Entry M)) What) (y : State × List (Entry M))
    → behind front r ≡ Ok y → (z : State × List (Entry M)) × (r ≡ Ok z) × ((z.0, front ++ z.1) ≡ y)
behind_ok {M} front (Ok z) y e = let made : State × List (Entry M) = (z.0, front ++ z.1) in (z, refl, ok_is made y e)
behind_ok front (Err what) y e = absurd cc

-- the state after a line
abbrev pub turned_to : {M : Type 0} → State → Stage × Option (Entry M) → State × Option (Entry M)
turned_to state step = (
  record {
    stage = step.0;
    lines = (state.lines + 1) % 2 ^ 64;
    kept = kept_behind step.0 state.kept state.header (length state.line);
    header = header_behind step.0 (length state.line);
    line = [];
    summed = sums_line step.0 state.summed state.line;
    over = state.over;
  },
  step.1,
)

abbrev pub turning_to : {M : Type 0} → State → Stage × Option (Entry M) → Result (State × Option (Entry M)) What
turning_to state step = Ok (turned_to state step)

pub ready_behind : (stage : Stage) (summed : Summed) (line : List ℕ) → Ready stage (sums_line stage summed line)
ready_behind (Waiting before link) summed line = refl
ready_behind (Headed before form) summed line = tt
ready_behind (Inside position form) summed line = tt

-- a byte is read so
abbrev ByteRead : {M : Type 0} → ℕ → (List ℕ → Option M) → State → ℕ → Bool → Bool → State × Option (Entry M) → Type 0
ByteRead version read state b done zero x =
    (if done then Ok (state, None) else if zero then Ok (record state { over = true }, None)
    else if b == 10 then turned version read state else no_entry (held state b)) ≡ Ok x

abbrev silent : {M : Type 0} → State → State × Option (Entry M)
silent state = (state, None)

pub byte_ready : {M : Type 0} (version : ℕ) (read : List ℕ → Option M) (state : State) (b : ℕ) (x : State × Option (Entry M))
    → Ready state.stage state.summed → byte_read version read state b ≡ Ok x → Ready x.0.stage x.0.summed
unfolding turned
byte_ready {M} version read state b x ready e = by state.over (b == 0) e
  where
    kept : (t : Bool) (y : State × Option (Entry M))
        → no_entry (if t then Ok (record state { line = state.line ++ b ∷ [] }) else Err TooLong) ≡ Ok y → Ready y.0.stage y.0.summed
    kept true y f =
        let made : State × Option (Entry M) = (record state { line = state.line ++ b ∷ [] }, None) in
        subst (λ (z : State × Option (Entry M)). Ready z.0.stage z.0.summed) (ok_is made y f) ready
    kept false y f = absurd cc

    by : (done zero : Bool) → ByteRead version read state b done zero x → Ready x.0.stage x.0.summed
    by true zero f = subst (λ (y : State × Option (Entry M)). Ready y.0.stage y.0.summed) (ok_is (silent state) x f) ready
    by false true f =
        subst (λ (y : State × Option (Entry M)). Ready y.0.stage y.0.summed) (ok_is (silent (record state { over = true })) x f) ready
    by false false f =
        elim (chosen (b == 10) (turned version read state) (no_entry (held state b)) (Ok x) f) [
          | inl h ↦
              let a = bind_ok (line_read version read state.summed state.stage state.line) (turning_to state) x h.1 in
              subst (λ (y : State × Option (Entry M)). Ready y.0.stage y.0.summed) (ok_is (turned_to state a.0) x a.2)
              (ready_behind a.0.0 state.summed state.line)
          | inr h ↦ kept (nat_lt (length state.line) most) x h.1
        ]

-- what is read of bytes in this state: none once the text is over
abbrev pub left : State → List ℕ → List ℕ
left state bytes = if state.over then [] else printed bytes

left_over : (state : State) (bytes : List ℕ) → state.over ≡ true → left state bytes ≡ []
left_over state bytes over = ap (λ t. if t then [] else printed bytes) over

left_running : (state : State) (bytes : List ℕ) → state.over ≡ false → left state bytes ≡ printed bytes
left_running state bytes runs = ap (λ t. if t then [] else printed bytes) runs

abbrev LineClaim : {M : Type 0} → ℕ → (M → List ℕ) → State → List ℕ → List (Entry M) → ℕ → Type 0
LineClaim version text state bytes entries end = Claim version text state.stage state.summed (state.line ++ bytes) entries end

pub byte_adds : {M : Type 0} (version : ℕ) (text : M → List ℕ) (fits : M → Bool) (read : List ℕ → Option M) (written : IsWritten text fits read)
    (state : State) (b : ℕ) (x : State × Option (Entry M)) (bytes : List ℕ) (entries : List (Entry M)) (end : ℕ)
    → Ready state.stage state.summed
    → byte_read version read state b ≡ Ok x → LineClaim version text x.0 (left x.0 bytes) entries end
    → LineClaim version text state (left state (b ∷ bytes)) (option_to_list x.1 ++ entries) end
unfolding turned
byte_adds {M} version text fits read written state b x bytes entries end ready e claim = by state.over (b == 0) refl refl e
  where
    kept : (t : Bool) (next : State) (y : State × Option (Entry M))
        → no_entry (if t then Ok next else Err TooLong) ≡ Ok y → silent next ≡ y
    kept true next y f = ok_is (silent next) y f
    kept false next y f = absurd cc

    -- the byte adds nothing
    still : (next : State) → silent next ≡ x → next.stage ≡ state.stage → next.summed ≡ state.summed → next.line ≡ state.line
        → left next bytes ≡ [] → left state (b ∷ bytes) ≡ []
        → LineClaim version text state (left state (b ∷ bytes)) (option_to_list x.1 ++ entries) end
    still next same stage summed line none no_more =
        subst (λ (y : State × Option (Entry M)). LineClaim version text state (left state (b ∷ bytes)) (option_to_list y.1 ++ entries) end)
        same
        (subst (λ (w : List ℕ). LineClaim version text state w entries end) (none ∙ sym no_more)
        (subst (λ (l : List ℕ). Claim version text state.stage state.summed (l ++ left next bytes) entries end) line
        (subst (λ (s : Summed). Claim version text state.stage s (next.line ++ left next bytes) entries end) summed
        (subst (λ (t : Stage). Claim version text t next.summed (next.line ++ left next bytes) entries end) stage
        (subst (λ (y : State × Option (Entry M)). LineClaim version text y.0 (left y.0 bytes) entries end) (sym same) claim)))))

    -- a byte of a line, or its end
    line : state.over ≡ false → (b == 0) ≡ false → (if b == 10 then turned version read state else no_entry (held state b)) ≡ Ok x
        → LineClaim version text state (left state (b ∷ bytes)) (option_to_list x.1 ++ entries) end
    line runs apart f =
        let more : left state (b ∷ bytes) ≡ b ∷ printed bytes = left_running state (b ∷ bytes) runs
        ∙ ap (λ t. if t then [] else b ∷ printed bytes) apart in
        subst (λ (w : List ℕ). LineClaim version text state w (option_to_list x.1 ++ entries) end) (sym more)
        (elim (chosen (b == 10) (turned version read state) (no_entry (held state b)) (Ok x) f) [
          | inl h ↦
              let a = bind_ok (line_read version read state.summed state.stage state.line) (turning_to state) x h.1 in
              let made : State × Option (Entry M) = turned_to state a.0 in
              let same : made ≡ x = ok_is made x a.2 in
              let there : Claim version text a.0.0 (sums_line a.0.0 state.summed state.line) (printed bytes) entries end =
              subst (λ (w : List ℕ). Claim version text a.0.0 (sums_line a.0.0 state.summed state.line) w entries end)
              (left_running made.0 bytes runs)
              (subst (λ (y : State × Option (Entry M)). LineClaim version text y.0 (left y.0 bytes) entries end) (sym same) claim) in
              let added = line_adds version text fits read written state.stage state.summed state.line a.0 ready a.1 (printed bytes) entries
              end there in
              let placed : with_line_end state.line ++ printed bytes ≡ state.line ++ b ∷ printed bytes =
              append_assoc state.line (10 ∷ []) (printed bytes)
              ∙ ap (λ (c : ℕ). state.line ++ c ∷ printed bytes) (sym (eqb-true b 10 h.0)) in
              subst (λ (y : State × Option (Entry M)). LineClaim version text state (b ∷ printed bytes) (option_to_list y.1 ++ entries) end)
              same
              (subst (λ (w : List ℕ). Claim version text state.stage state.summed w (option_to_list a.0.1 ++ entries) end) placed added)
          | inr h ↦
              let next : State = record state { line = state.line ++ b ∷ [] } in
              let same : silent next ≡ x = kept (nat_lt (length state.line) most) next x h.1 in
              let there : Claim version text state.stage state.summed ((state.line ++ b ∷ []) ++ printed bytes) entries end =
              subst (λ (w : List ℕ). Claim version text state.stage state.summed ((state.line ++ b ∷ []) ++ w) entries end)
              (left_running next bytes runs)
              (subst (λ (y : State × Option (Entry M)). LineClaim version text y.0 (left y.0 bytes) entries end) (sym same) claim) in
              subst (λ (y : State × Option (Entry M)). LineClaim version text state (b ∷ printed bytes) (option_to_list y.1 ++ entries) end)
              same
              (subst (λ (w : List ℕ). Claim version text state.stage state.summed w entries end)
              (append_assoc state.line (b ∷ []) (printed bytes)) there)
        ])

    by : (done zero : Bool) → state.over ≡ done → (b == 0) ≡ zero → ByteRead version read state b done zero x
        → LineClaim version text state (left state (b ∷ bytes)) (option_to_list x.1 ++ entries) end
    by true zero over is f =
        still state (ok_is (silent state) x f) refl refl refl (left_over state bytes over) (left_over state (b ∷ bytes) over)
    by false true runs is f =
        still (record state { over = true }) (ok_is (silent (record state { over = true })) x f) refl refl refl refl
        (left_running state (b ∷ bytes) runs ∙ ap (λ t. if t then [] else b ∷ printed bytes) is)
    by false false runs is f = line runs is f

pub stream_takes : {M : Type 0} (version : ℕ) (text : M → List ℕ) (fits : M → Bool) (read : List ℕ → Option M)
    (written : IsWritten text fits read) (bytes : List ℕ) (state final : State) (entries : List (Entry M)) (end : ℕ)
    → Ready state.stage state.summed
    → reading version read state bytes ≡ Ok (final, entries) → end_of final ≡ Some end
    → LineClaim version text state (left state bytes) entries end
unfolding reading
stream_takes {M} version text fits read written [] state final entries end ready e ends =
    let start : State × List (Entry M) = (state, []) in
    let same = ok_is start (final, entries) e in
    let none : left state [] ≡ [] = by state.over in
    subst (λ (w : List ℕ). LineClaim version text state w entries end) (sym none)
    (subst (λ (es : List (Entry M)). LineClaim version text state [] es end)
    (ap (λ (x : State × List (Entry M)). x.1) same)
    (at_end {M = M} version text state.stage state.summed state.line end (ap (λ (x : State × List (Entry M)). end_of x.0) same ∙ ends)))
  where
    by : (t : Bool) → (if t then [] else printed []) ≡ []
    by true = refl
    by false = refl
stream_takes {M} version text fits read written (b ∷ bs) state final entries end ready e ends =
    let a = bind_ok (byte_read version read state b)
    (λ first. behind (option_to_list first.1) (reading version read first.0 bs)) (final, entries) e in
    let (later, is, same) = behind_ok (option_to_list a.0.1) (reading version read a.0.0 bs) (final, entries) a.2 in
    let claim = stream_takes version text fits read written bs a.0.0 later.0 later.1 end (byte_ready version read state b a.0 ready a.1) is
    (ap (λ (x : State × List (Entry M)). end_of x.0) same ∙ ends) in
    subst (λ (es : List (Entry M)). LineClaim version text state (left state (b ∷ bs)) es end)
    (ap (λ (x : State × List (Entry M)). x.1) same)
    (byte_adds version text fits read written state b a.0 bs later.1 end ready a.1 claim)

pub any_text : {M : Type 0} (version : ℕ) (text : M → List ℕ) (from : ℕ) (pieces : List (List (Entry M))) (bytes : List ℕ)
    → IsText version text Any from pieces bytes → IsTextOf version text from pieces bytes
any_text version text from pieces bytes (inl plain) = inl plain.1
any_text version text from pieces bytes (inr sealed) = inr (sealed.0, sealed.2)

-- a stream that was read to its end is pieces
pub stream_found : {M : Type 0} (version : ℕ) (text : M → List ℕ) (fits : M → Bool) (read : List ℕ → Option M)
    (written : IsWritten text fits read) (bytes : List ℕ) (final : State) (entries : List (Entry M)) (end : ℕ)
    → reading version read fresh bytes ≡ Ok (final, entries) → end_of final ≡ Some end
    → (from : ℕ) × (pieces : List (List (Entry M))) × IsTextOf version text from pieces (printed bytes)
    × (entries ≡ flat_map (λ piece. piece) pieces) × (end ≡ from + length entries)
stream_found version text fits read written bytes final entries end e ends =
    let w = stream_takes version text fits read written bytes fresh final entries end refl e ends in
    (w.from, w.pieces, any_text version text w.from w.pieces (printed bytes) w.whole, w.given, w.ends)

-- a journal that was read to its end is pieces from position 0 on
pub journal_found : {M : Type 0} (version : ℕ) (text : M → List ℕ) (fits : M → Bool) (read : List ℕ → Option M)
    (written : IsWritten text fits read) (bytes : List ℕ) (final : State) (entries : List (Entry M)) (end : ℕ)
    → reading version read (waiting_at 0) bytes ≡ Ok (final, entries) → end_of final ≡ Some end
    → (pieces : List (List (Entry M))) × IsJournalOf version text pieces (printed bytes)
    × (entries ≡ flat_map (λ piece. piece) pieces) × (end ≡ length entries)
journal_found {M} version text fits read written bytes final entries end e ends =
    let w = stream_takes version text fits read written bytes (waiting_at 0) final entries end refl e ends in
    (w.pieces, by w.from w.starts w.pieces w.whole, w.given, omega (arith, w.ends, w.starts))
  where
    sealed : (after : Option Sum) (from : ℕ) (pieces : List (List (Entry M))) → after ≡ None → from ≡ 0
        → printed bytes ≡ text_of (sealed_stream_lines version text after from pieces)
        → printed bytes ≡ text_of (sealed_stream_lines version text None 0 pieces)
    sealed after from pieces first zeroed is =
        is ∙ ap (λ (o : Option Sum). text_of (sealed_stream_lines version text o from pieces)) first
        ∙ ap (λ (n : ℕ). text_of (sealed_stream_lines version text None n pieces)) zeroed

    by : (from : ℕ) → from ≡ 0 → (pieces : List (List (Entry M))) → IsText version text First from pieces (printed bytes)
        → IsJournalOf version text pieces (printed bytes)
    by from zeroed pieces (inl plain) = inl (plain.1 ∙ ap (λ (n : ℕ). text_of (stream_lines version text n pieces)) zeroed)
    by from zeroed pieces (inr found) = inr (sealed found.0 from pieces found.1 zeroed found.2)
