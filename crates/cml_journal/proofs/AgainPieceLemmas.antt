-- What was written of a piece is read again.
use Rattle.std.proofs.Common.{◌≡◌, ℕ, ◌+◌, ◌<◌, ◌≤◌, ◌^◌, Bool, true, false, ◌==◌, if◌then◌else◌, List, []}
use Rattle.std.proofs.Common.{◌∷◌, ◌++◌, length, Option, Some, None, Result, Ok, Err, refl, sym, ap, subst, ◌∙◌, arith}
use Rattle.std.proofs.Common.{append_assoc, length-append, lit≤}
use Rattle.std.specs.Prelude.{codes}
use Rattle.std.specs.List.{flat_map, AllByRecursion}
use Rattle.std.specs.Option.{option_to_list}
use Rattle.std.specs.Fmt.{decimal}
use Rattle.std.proofs.lemmas.Bool.{eqb-true}
use Rattle.std.proofs.lemmas.List.{append-nil}
use Rattle.std.proofs.lemmas.Fmt.{length-decimal-le}
use Rattle.cml_board.specs.{Entry}
use Rattle.cml_journal.specs.{Sum, Summed, nothing_summed, sum_by, sum_word, IsSum, What, Form, Link, Stage, IsWritten, line_of, ◌>>=◌}
use Rattle.cml_journal.specs.{numbered_line, with_line_end, text_of, from_lines, piece_lines, State, numbered, Step, line_step, line_read}
use Rattle.cml_journal.specs.{sums, most, turned, behind, reading, IsReadable}
use Rattle.cml_journal.specs.declared.fault.What.TheVariants.{BadBytes}
use Rattle.cml_journal.specs.declared.reader.Form.TheVariants.{Plain, Sealed}
use Rattle.cml_journal.specs.declared.reader.Link.TheVariants.{Unsealed}
use Rattle.cml_journal.specs.declared.reader.Stage.TheVariants.{Waiting, Headed, Inside}
use Rattle.cml_journal.proofs.CleanLemmas.{is_dirty, both_clean, printed_clean, numbered_clean, line_clean, clean_no_end}
use Rattle.cml_journal.proofs.FeedLemmas.{turning, reading-line}
use Rattle.cml_journal.proofs.PieceLemmas.{piece_text}
use Rattle.cml_journal.proofs.StreamLemmas.{AllowsPlain, closing, link_behind, sums_both, sums_none}
use Rattle.cml_journal.proofs.SumWordsLemmas.{word_printed, word_length, has_sum}
use Rattle.cml_journal.proofs.AgainLemmas.{Counts, numbered_other, at, entry_no_from, Reads, reads_then, held_whole, turning_to, line_reads}
use Rattle.cml_journal.proofs.AgainLemmas.{inside_entry, inside_end, headed_line, MayBegin, from_step, first_step}

abbrev pub entry_text : {M : Type 0} → (M → List ℕ) → Entry M → List ℕ
entry_text text entry = with_line_end (line_of text entry)

abbrev pub AreReadable : {M : Type 0} → (M → List ℕ) → (M → Bool) → List (Entry M) → Type 0
AreReadable text fits entries = AllByRecursion (IsReadable text fits) entries

pub short_numbered : (word : List ℕ) (n : ℕ) → length word ≤ 100 → n < 2 ^ 64 → length (numbered_line word n) ≤ 1000
short_numbered word n short small =
    omega (arith, length-append word (32 ∷ decimal n), length-decimal-le 20 n (omega arith) (omega (arith, small)) small)

pub short_is_short : (n : ℕ) → n ≤ 1000 → n ≤ most
short_is_short n short = omega (arith, short)

-- a sum's word after a line
pub tail_clean : (line : List ℕ) (sum : Sum) → IsSum sum → is_dirty line ≡ false → is_dirty (line ++ 32 ∷ sum_word sum) ≡ false
tail_clean line sum is clean = both_clean line (32 ∷ sum_word sum) clean (printed_clean (sum_word sum) (word_printed sum is))

pub tail_short : (line : List ℕ) (sum : Sum) → IsSum sum → length line ≤ 1000 → length (line ++ 32 ∷ sum_word sum) ≤ most
tail_short line sum is short = omega (arith, length-append line (32 ∷ sum_word sum), word_length sum is, short)

pub closing_clean : (form : Form) (summed : Summed) (position : ℕ) → position < 2 ^ 64 → is_dirty (closing form summed position) ≡ false
closing_clean Plain summed position small = numbered_clean (codes "end") position refl small
closing_clean Sealed summed position small = tail_clean (numbered_line (codes "end") position) (sum_by summed) (has_sum summed)
    (numbered_clean (codes "end") position refl small)

pub closing_short : (form : Form) (summed : Summed) (position : ℕ) → position < 2 ^ 64 → length (closing form summed position) ≤ most
closing_short Plain summed position small =
    short_is_short (length (numbered_line (codes "end") position)) (short_numbered (codes "end") position (lit≤ tt) small)
closing_short Sealed summed position small = tail_short (numbered_line (codes "end") position) (sum_by summed) (has_sum summed)
    (short_numbered (codes "end") position (lit≤ tt) small)

pub closing_no_from : (form : Form) (summed : Summed) (position : ℕ) → numbered (codes "from") (closing form summed position) ≡ None
closing_no_from Plain summed position = numbered_other (codes "end") (codes "from") (decimal position) refl refl
closing_no_from Sealed summed position =
    ap (numbered (codes "from")) (append_assoc (codes "end") (32 ∷ decimal position) (32 ∷ sum_word (sum_by summed)))
    ∙ numbered_other (codes "end") (codes "from") (decimal position ++ 32 ∷ sum_word (sum_by summed)) refl refl

pub entries_read : {M : Type 0} (version : ℕ) (text : M → List ℕ) (fits : M → Bool) (read : List ℕ → Option M)
    (written : IsWritten text fits read) (form : Form) (summed : Summed) (position : ℕ) (entries : List (Entry M))
    → AreReadable text fits entries → position + length entries < 2 ^ 64
    → Reads version read (Inside position form) summed (flat_map (entry_text text) entries) (Inside (position + length entries) form)
    (sums form summed (flat_map (entry_text text) entries)) entries
unfolding reading
entries_read {M} version text fits read written form summed position [] readable small = λ n.
    let same : position ≡ position + 0 = omega arith in
    let found : State → Result (State × List (Entry M)) What = λ s. Ok (s, []) in (
      n,
      ap (λ (p : ℕ). found (at (Inside p form) summed n)) same
          ∙ ap (λ (s : Summed). found (at (Inside (position + 0) form) s n)) (sym (sums_none form summed)),
    )
entries_read {M} version text fits read written form summed position (e ∷ es) readable small =
    let same : position + 1 + length es ≡ position + length (e ∷ es) = omega arith in
    let line = entry_text text e in
    let lines = flat_map (entry_text text) es in
    subst (λ (p : ℕ). Reads version read (Inside position form) summed (line ++ lines) (Inside p form) (sums form summed (line ++ lines))
    (e ∷ es)) same
    (subst (λ (s : Summed). Reads version read (Inside position form) summed (line ++ lines) (Inside (position + 1 + length es) form) s
    (e ∷ es)) (sums_both form summed line lines)
    (reads_then version read (Inside position form) (Inside (position + 1) form) (Inside (position + 1 + length es) form) summed
    (sums form summed line) (sums form (sums form summed line) lines) line lines (e ∷ []) es
    (line_reads version read (Inside position form) summed (line_of text e) (Inside (position + 1) form, Some e)
    (line_clean text fits read written e readable.0.0) readable.0.1
    (inside_entry text fits read written form summed position e readable.0.0 (omega (arith, small))))
    (entries_read version text fits read written form (sums form summed line) (position + 1) es readable.1 (omega (arith, small)))))

pub end_read : {M : Type 0} (version : ℕ) (read : List ℕ → Option M) (form : Form) (summed : Summed) (position : ℕ) → position < 2 ^ 64
    → Reads version read (Inside position form) summed (with_line_end (closing form summed position))
    (Waiting (Some position) (link_behind form summed)) nothing_summed []
end_read {M} version read form summed position small =
    line_reads version read (Inside position form) summed (closing form summed position)
    (Waiting (Some position) (link_behind form summed), None) (closing_clean form summed position small)
    (closing_short form summed position small) (inside_end read form summed position small)

-- a piece after its header and its position line, and what it leaves
abbrev pub body : {M : Type 0} → (M → List ℕ) → Form → Summed → ℕ → List (Entry M) → List ℕ
body text form summed from entries = flat_map (entry_text text) entries
    ++ with_line_end (closing form (sums form summed (flat_map (entry_text text) entries)) (from + length entries))

abbrev pub left_by : {M : Type 0} → (M → List ℕ) → Form → Summed → ℕ → List (Entry M) → Stage
left_by text form summed from entries =
    Waiting (Some (from + length entries)) (link_behind form (sums form summed (flat_map (entry_text text) entries)))

pub body_read : {M : Type 0} (version : ℕ) (text : M → List ℕ) (fits : M → Bool) (read : List ℕ → Option M) (written : IsWritten text fits read)
    (form : Form) (summed : Summed) (from : ℕ) (entries : List (Entry M))
    → AreReadable text fits entries → from + length entries < 2 ^ 64
    → Reads version read (Inside from form) summed (body text form summed from entries) (left_by text form summed from entries)
    nothing_summed entries
body_read {M} version text fits read written form summed from entries readable small =
    let end = from + length entries in
    let lines = flat_map (entry_text text) entries in
    let last = sums form summed lines in
    subst (λ (es : List (Entry M)). Reads version read (Inside from form) summed (body text form summed from entries)
    (left_by text form summed from entries) nothing_summed es) (append-nil entries)
    (reads_then version read (Inside from form) (Inside end form) (left_by text form summed from entries) summed last nothing_summed lines
    (with_line_end (closing form last end)) entries []
    (entries_read version text fits read written form summed from entries readable small) (end_read version read form last end small))

-- the first line of a piece from 0 on is read as within it
pub same_line : {M : Type 0} (version : ℕ) (read : List ℕ → Option M) (one other : Stage) (summed : Summed) (n : Counts) (line rest : List ℕ)
    → is_dirty line ≡ false → length line ≤ most
    → line_step version read summed one line ≡ line_step version read summed other line
    → reading version read (at one summed n) (with_line_end line ++ rest)
    ≡ reading version read (at other summed n) (with_line_end line ++ rest)
unfolding turned line_read
same_line {M} version read one other summed n line rest clean short same =
    ap (reading version read (at one summed n)) (append_assoc line (10 ∷ []) rest)
    ∙ told one
    ∙ ap (λ (r : Step M). on_told (if is_dirty line then Err BadBytes else r)) same
    ∙ sym (told other)
    ∙ ap (reading version read (at other summed n)) (sym (append_assoc line (10 ∷ []) rest))
  where
    on_told : Step M → Result (State × List (Entry M)) What
    on_told r = (r >>= λ s. turning_to summed n line s) >>= λ first. behind (option_to_list first.1) (reading version read first.0 rest)

    told : (stage : Stage) → reading version read (at stage summed n) (line ++ 10 ∷ rest)
        ≡ on_told (if is_dirty line then Err BadBytes else line_step version read summed stage line)
    told stage =
        reading-line version read (at stage summed n) line rest refl (omega arith) (clean_no_end line clean)
        ∙ ap (turning {M = M} version read rest) (held_whole stage summed n line short)

pub first_read : {M : Type 0} (version : ℕ) (read : List ℕ → Option M) (form : Form) (summed : Summed) (before : Option ℕ)
    (line rest : List ℕ) (new : Stage) (entries : List (Entry M))
    → MayBegin before 0 → numbered (codes "from") line ≡ None → is_dirty line ≡ false → length line ≤ most
    → Reads version read (Inside 0 form) summed (with_line_end line ++ rest) new nothing_summed entries
    → Reads version read (Headed before form) summed (with_line_end line ++ rest) new nothing_summed entries
first_read version read form summed before line rest new entries may none clean short reads n =
    let found = reads n in (
      found.0,
      same_line version read (Headed before form) (Inside 0 form) summed n line rest clean short
          (first_step read form summed before line may none) ∙ found.1,
    )

pub body_from_0 : {M : Type 0} (version : ℕ) (text : M → List ℕ) (fits : M → Bool) (read : List ℕ → Option M)
    (written : IsWritten text fits read) (form : Form) (summed : Summed) (before : Option ℕ) (entries : List (Entry M))
    → MayBegin before 0 → AreReadable text fits entries → 0 + length entries < 2 ^ 64
    → Reads version read (Headed before form) summed (body text form summed 0 entries) (left_by text form summed 0 entries)
    nothing_summed entries
body_from_0 {M} version text fits read written form summed before [] may readable small =
    let last = sums form summed [] in
    let line = closing form last 0 in
    let new = left_by {M = M} text form summed 0 [] in
    let nothing = append-nil (with_line_end line) in
    subst (λ (w : List ℕ). Reads {M = M} version read (Headed before form) summed w new nothing_summed []) nothing
    (first_read {M = M} version read form summed before line [] new [] may (closing_no_from form last 0) (closing_clean form last 0 small)
    (closing_short form last 0 small)
    (subst (λ (w : List ℕ). Reads {M = M} version read (Inside 0 form) summed w new nothing_summed []) (sym nothing)
    (body_read {M = M} version text fits read written form summed 0 [] readable small)))
body_from_0 {M} version text fits read written form summed before (e ∷ es) may readable small =
    let new = left_by text form summed 0 (e ∷ es) in
    let last = with_line_end (closing form (sums form summed (flat_map (entry_text text) (e ∷ es))) (0 + length (e ∷ es))) in
    let rest = flat_map (entry_text text) es ++ last in
    let grouped = append_assoc (entry_text text e) (flat_map (entry_text text) es) last in
    subst (λ (w : List ℕ). Reads version read (Headed before form) summed w new nothing_summed (e ∷ es)) (sym grouped)
    (first_read version read form summed before (line_of text e) rest new (e ∷ es) may (entry_no_from text e)
    (line_clean text fits read written e readable.0.0) readable.0.1
    (subst (λ (w : List ℕ). Reads version read (Inside 0 form) summed w new nothing_summed (e ∷ es)) grouped
    (body_read version text fits read written form summed 0 (e ∷ es) readable small)))

-- what is after a header
abbrev pub opened : {M : Type 0} → (M → List ℕ) → Form → Summed → ℕ → List (Entry M) → List ℕ
opened text form summed from entries =
    text_of (from_lines from) ++ body text form (sums form summed (text_of (from_lines from))) from entries

abbrev pub left_behind : {M : Type 0} → (M → List ℕ) → Form → Summed → ℕ → List (Entry M) → Stage
left_behind text form summed from entries = left_by text form (sums form summed (text_of (from_lines from))) from entries

pub behind_head : {M : Type 0} (version : ℕ) (text : M → List ℕ) (fits : M → Bool) (read : List ℕ → Option M)
    (written : IsWritten text fits read) (form : Form) (summed : Summed) (before : Option ℕ) (from : ℕ) (entries : List (Entry M))
    → MayBegin before from → AreReadable text fits entries → from + length entries < 2 ^ 64
    → Reads version read (Headed before form) summed (opened text form summed from entries) (left_behind text form summed from entries)
    nothing_summed entries
behind_head {M} version text fits read written form summed before from entries may readable small = by (from == 0) refl
  where
    line : List ℕ
    line = numbered_line (codes "from") from

    Goal : List ℕ → Type 0
    Goal opening = Reads version read (Headed before form) summed (opening ++ body text form (sums form summed opening) from entries)
        (left_by text form (sums form summed opening) from entries) nothing_summed entries

    by : (t : Bool) → (from == 0) ≡ t → Goal (text_of (from_lines from))
    by true is =
        let zeroed = eqb-true from 0 is in
        let none : text_of (from_lines from) ≡ [] = ap (λ (n : ℕ). text_of (from_lines n)) zeroed in
        subst Goal (sym none)
        (subst (λ (s : Summed). Reads version read (Headed before form) summed (body text form s from entries)
        (left_by text form s from entries) nothing_summed entries) (sym (sums_none form summed))
        (subst (λ (n : ℕ). MayBegin before n → n + length entries < 2 ^ 64 → Reads version read (Headed before form) summed
        (body text form summed n entries) (left_by text form summed n entries) nothing_summed entries) (sym zeroed)
        (λ begin fit. body_from_0 version text fits read written form summed before entries begin readable fit) may small))
    by false is =
        let named : text_of (from_lines from) ≡ with_line_end line = ap (λ t. text_of (if t then [] else line ∷ [])) is
        ∙ append-nil (with_line_end line) in
        let below : from < 2 ^ 64 = omega (arith, small) in
        let next = sums form summed (with_line_end line) in
        subst Goal (sym named)
        (reads_then version read (Headed before form) (Inside from form) (left_by text form next from entries) summed next nothing_summed
        (with_line_end line) (body text form next from entries) [] entries
        (line_reads version read (Headed before form) summed line (Inside from form, None) (numbered_clean (codes "from") from refl below)
        (short_is_short (length line) (short_numbered (codes "from") from (lit≤ tt) below))
        (from_step read form summed before from may is below))
        (body_read version text fits read written form next from entries readable small))

pub piece_reads : {M : Type 0} (version : ℕ) (text : M → List ℕ) (fits : M → Bool) (read : List ℕ → Option M)
    (written : IsWritten text fits read) (before : Option ℕ) (link : Link) (from : ℕ) (entries : List (Entry M))
    → version < 2 ^ 64 → AllowsPlain link → MayBegin before from → AreReadable text fits entries → from + length entries < 2 ^ 64
    → Reads version read (Waiting before link) nothing_summed (text_of (piece_lines version text from entries))
    (Waiting (Some (from + length entries)) Unsealed) nothing_summed entries
piece_reads {M} version text fits read written before link from entries known plain may readable small =
    let header = numbered_line (codes "journal") version in
    let end = from + length entries in
    let lines = flat_map (entry_text text) entries in
    let last = with_line_end (numbered_line (codes "end") end) in
    let opening = text_of (from_lines from) in
    let grouped : with_line_end header ++ (opening ++ (lines ++ last)) ≡ text_of (piece_lines version text from entries) =
    sym (append_assoc (with_line_end header ++ opening) lines last ∙ append_assoc (with_line_end header) opening (lines ++ last))
    ∙ piece_text version text from entries [] in
    subst (λ (w : List ℕ). Reads version read (Waiting before link) nothing_summed w (Waiting (Some end) Unsealed) nothing_summed entries)
    grouped
    (reads_then version read (Waiting before link) (Headed before Plain) (Waiting (Some end) Unsealed) nothing_summed nothing_summed
    nothing_summed (with_line_end header) (opening ++ (lines ++ last)) [] entries
    (line_reads version read (Waiting before link) nothing_summed header (Headed before Plain, None)
    (numbered_clean (codes "journal") version refl known)
    (short_is_short (length header) (short_numbered (codes "journal") version (lit≤ tt) known))
    (headed_line version before link plain known))
    (behind_head version text fits read written Plain nothing_summed before from entries may readable small))
