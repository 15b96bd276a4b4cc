-- What was written of a stream is read again, line by line.
use Rattle.std.proofs.Common.{◌≡◌, ℕ, ◌+◌, ◌<◌, ◌≤◌, ◌^◌, ◌%◌, Bool, true, false, ◌==◌, ◌||◌, is_some, nat_lt, if◌then◌else◌, List, []}
use Rattle.std.proofs.Common.{◌∷◌, ◌++◌, length, Option, Some, None, Result, Ok, Err, refl, sym, ap, ◌∙◌, arith}
use Rattle.std.proofs.Common.{append_assoc, eq-eqb}
use Rattle.std.specs.Prelude.{codes}
use Rattle.std.specs.Option.{option_and_then, option_map, option_to_list}
use Rattle.std.specs.Str.{bytes_eq}
use Rattle.std.specs.Fmt.{decimal}
use Rattle.std.proofs.lemmas.Bool.{lt-ltb, le-leb, ltb-true, ne_eqb, false≢true}
use Rattle.std.proofs.lemmas.Option.{none-some, same_Some}
use Rattle.cml_board.specs.{Entry, Who}
use Rattle.cml_board.specs.declared.entry.Who.TheVariants.{Seat, Lane, Feed}
use Rattle.cml_journal.specs.{Sum, Summed, sum_by, sum_word, What, Form, Link, Stage, number_of, IsWritten, who_word, who_number}
use Rattle.cml_journal.specs.{call_text, reply_text, line_of, HasLine, ◌>>=◌, numbered_line, with_line_end, sealed_header, sealed_end}
use Rattle.cml_journal.specs.{State, numbered, number_before, tailed, Step, headed, headed_by, header_fault, plain_headed, sealed_headed}
use Rattle.cml_journal.specs.{begun, entered, ended_by, closed_by, sealed_by, inside, from_by, behind_header, line_step, line_read}
use Rattle.cml_journal.specs.{kept_behind, header_behind, sums_line, most, held_all, turned, behind, reading, MaybeSum}
use Rattle.cml_journal.specs.declared.fault.What.TheVariants.{BadNumber, BadBytes, Gap, WrongEnd, WrongSum, TooMany, TooLong}
use Rattle.cml_journal.specs.declared.reader.Form.TheVariants.{Plain, Sealed}
use Rattle.cml_journal.specs.declared.reader.Link.TheVariants.{Any, First, Unsealed, Behind}
use Rattle.cml_journal.specs.declared.reader.Stage.TheVariants.{Waiting, Headed, Inside}
use Rattle.cml_journal.specs.NumberLaws.{number_again, number_only}
use Rattle.cml_journal.proofs.CutWordsLemmas.{has_space, cut_again}
use Rattle.cml_journal.proofs.WordLemmas.{equal_bytes}
use Rattle.cml_journal.proofs.EntryLemmas.{entry_again}
use Rattle.cml_journal.proofs.CleanLemmas.{is_dirty, clean_no_end}
use Rattle.cml_journal.proofs.FeedLemmas.{on, reading-append, taken_line}
use Rattle.cml_journal.proofs.StreamLemmas.{Allows, AllowsPlain, closing, link_behind}
use Rattle.cml_journal.proofs.WordLemmas.{number_no_space}
use Rattle.cml_journal.proofs.SumWordsLemmas.{word_again}

abbrev pub after_cut : List ℕ → Option (List ℕ × List ℕ) → Option ℕ
after_cut word o = option_and_then (λ (parts : List ℕ × List ℕ). if bytes_eq parts.0 word then number_of parts.1 else None) o

pub numbered_again : (word : List ℕ) (n : ℕ) → has_space word ≡ false → n < 2 ^ 64 → numbered word (numbered_line word n) ≡ Some n
numbered_again word n space small =
    ap (after_cut word) (cut_again word (decimal n) space)
    ∙ ap (λ t. if t then number_of (decimal n) else None) (equal_bytes word)
    ∙ number_again n (lt-ltb n (2 ^ 64) small)

pub numbered_other : (word other rest : List ℕ) → has_space word ≡ false → bytes_eq word other ≡ false
    → numbered other (word ++ 32 ∷ rest) ≡ None
numbered_other word other rest space apart =
    ap (after_cut other) (cut_again word rest space) ∙ ap (λ t. if t then number_of rest else None) apart

-- an entry's line begins with who made the call
pub entry_first : {M : Type 0} (text : M → List ℕ) (entry : Entry M) → (rest : List ℕ) × (line_of text entry ≡ who_word entry.who ++ 32 ∷ rest)
entry_first text entry =
    let number = decimal (who_number entry.who) in
    let call = call_text text entry.call in
    let reply = reply_text text entry.reply in (
      (number ++ 32 ∷ call) ++ 58 ∷ 32 ∷ reply,
      ap (λ (w : List ℕ). w ++ 58 ∷ 32 ∷ reply) (append_assoc (who_word entry.who) (32 ∷ number) (32 ∷ call))
          ∙ append_assoc (who_word entry.who) (32 ∷ (number ++ 32 ∷ call)) (58 ∷ 32 ∷ reply),
    )

pub who_space : (who : Who) → has_space (who_word who) ≡ false
who_space (Seat n) = refl
who_space (Lane n) = refl
who_space (Feed n) = refl

pub who_no_end : (who : Who) → bytes_eq (who_word who) (codes "end") ≡ false
who_no_end (Seat n) = refl
who_no_end (Lane n) = refl
who_no_end (Feed n) = refl

pub who_no_from : (who : Who) → bytes_eq (who_word who) (codes "from") ≡ false
who_no_from (Seat n) = refl
who_no_from (Lane n) = refl
who_no_from (Feed n) = refl

pub entry_no_end : {M : Type 0} (text : M → List ℕ) (entry : Entry M) → numbered (codes "end") (line_of text entry) ≡ None
entry_no_end text entry = let first = entry_first text entry in ap (numbered (codes "end")) first.1
    ∙ numbered_other (who_word entry.who) (codes "end") first.0 (who_space entry.who) (who_no_end entry.who)

pub entry_no_from : {M : Type 0} (text : M → List ℕ) (entry : Entry M) → numbered (codes "from") (line_of text entry) ≡ None
entry_no_from text entry = let first = entry_first text entry in
    ap (numbered (codes "from")) first.1
    ∙ numbered_other (who_word entry.who) (codes "from") first.0 (who_space entry.who) (who_no_from entry.who)

abbrev pub behind_number : List ℕ → Option ℕ → Option (ℕ × List ℕ)
behind_number rest o = option_map (λ (n : ℕ). (n, rest)) o

pub tailed_again : (word : List ℕ) (n : ℕ) (rest : List ℕ) → has_space word ≡ false → n < 2 ^ 64
    → tailed word (numbered_line word n ++ 32 ∷ rest) ≡ Some (n, rest)
tailed_again word n rest space small =
    let text = decimal n ++ 32 ∷ rest in
    let of_cut : Option (List ℕ × List ℕ) → Option (ℕ × List ℕ) = λ o.
    option_and_then (λ (parts : List ℕ × List ℕ). if bytes_eq parts.0 word then number_before parts.1 else None) o in
    let of_number : Option (List ℕ × List ℕ) → Option (ℕ × List ℕ) = λ o.
    option_and_then (λ (parts : List ℕ × List ℕ). behind_number parts.1 (number_of parts.0)) o in
    ap (tailed word) (append_assoc word (32 ∷ decimal n) (32 ∷ rest))
    ∙ ap of_cut (cut_again word text space)
    ∙ ap (λ t. if t then number_before text else None) (equal_bytes word)
    ∙ ap of_number (cut_again (decimal n) rest (number_no_space n small))
    ∙ ap (behind_number rest) (number_again n (lt-ltb n (2 ^ 64) small))

pub spaced : (one other : List ℕ) → has_space (one ++ 32 ∷ other) ≡ true
spaced [] other = refl
spaced (b ∷ bs) other = by (b == 32) (spaced bs other)
  where
    by : (t : Bool) → has_space (bs ++ 32 ∷ other) ≡ true → (t || has_space (bs ++ 32 ∷ other)) ≡ true
    by true later = refl
    by false later = later

-- a word of a number and more is no number
pub no_number : (one other : List ℕ) → number_of (one ++ 32 ∷ other) ≡ None
no_number one other = by (number_of (one ++ 32 ∷ other)) refl
  where
    by : (o : Option ℕ) → number_of (one ++ 32 ∷ other) ≡ o → o ≡ None
    by None is = refl
    by (Some n) is =
        let parts = number_only (one ++ 32 ∷ other) n is in
        absurd (false≢true (sym (number_no_space n (ltb-true n (2 ^ 64) parts.1)) ∙ ap has_space (sym parts.0) ∙ spaced one other))

-- a line with a word after its number has not just these
pub not_numbered : (word : List ℕ) (n : ℕ) (rest : List ℕ) → has_space word ≡ false → numbered word (numbered_line word n ++ 32 ∷ rest) ≡ None
not_numbered word n rest space =
    ap (numbered word) (append_assoc word (32 ∷ decimal n) (32 ∷ rest))
    ∙ ap (after_cut word) (cut_again word (decimal n ++ 32 ∷ rest) space)
    ∙ ap (λ t. if t then number_of (decimal n ++ 32 ∷ rest) else None) (equal_bytes word)
    ∙ no_number (decimal n) rest

-- ---- lines
-- how many lines have ended, how many bytes they have, and how many of a header are behind them
pub record Counts : Type 0 where
  pub lines : ℕ
  pub kept : ℕ
  pub header : ℕ

abbrev pub no_counts : Counts
no_counts = record { lines = 0; kept = 0; header = 0 }

abbrev pub with_line : Stage → Summed → Counts → List ℕ → State
with_line stage summed n line = record {
  stage = stage;
  lines = n.lines;
  kept = n.kept;
  header = n.header;
  line = line;
  summed = summed;
  over = false;
}

abbrev pub at : Stage → Summed → Counts → State
at stage summed n = with_line stage summed n []

-- the counts after a line that leads to this stage
abbrev pub counts_behind : Counts → List ℕ → Stage → Counts
counts_behind n line new = record {
  lines = (n.lines + 1) % 2 ^ 64;
  kept = kept_behind new n.kept n.header (length line);
  header = header_behind new (length line);
}

-- bytes are read from one stage to another, and give entries
abbrev pub Reads : {M : Type 0} → ℕ → (List ℕ → Option M) → Stage → Summed → List ℕ → Stage → Summed → List (Entry M) → Type 0
Reads version read old s bytes new t entries =
    (n : Counts) → (m : Counts) × (reading version read (at old s n) bytes ≡ Ok (at new t m, entries))

pub reads_then : {M : Type 0} (version : ℕ) (read : List ℕ → Option M) (a b c : Stage) (s t u : Summed) (front rest : List ℕ)
    (given more : List (Entry M)) → Reads version read a s front b t given → Reads version read b t rest c u more
    → Reads version read a s (front ++ rest) c u (given ++ more)
reads_then version read a b c s t u front rest given more one other n =
    let first = one n in
    let second = other first.0 in
    (second.0, reading-append version read (at a s n) front rest ∙ ap (on version read rest) first.1 ∙ ap (behind given) second.1)

pub held_whole : (stage : Stage) (summed : Summed) (n : Counts) (line : List ℕ) → length line ≤ most
    → held_all (at stage summed n) line ≡ Ok (with_line stage summed n line)
held_whole stage summed n line short =
    ap (λ t. if t then Ok (with_line stage summed n line) else Err TooLong) (le-leb (0 + length line) most (omega arith))

pub step_read : {M : Type 0} (version : ℕ) (read : List ℕ → Option M) (summed : Summed) (stage : Stage) (line : List ℕ)
    (told : Stage × Option (Entry M))
    → is_dirty line ≡ false → line_step version read summed stage line ≡ Ok told → line_read version read summed stage line ≡ Ok told
unfolding line_read
step_read version read summed stage line told clean step =
    ap (λ t. if t then Err BadBytes else line_step version read summed stage line) clean ∙ step

-- the state after a line
abbrev pub turned_to : {M : Type 0} → Summed → Counts → List ℕ → Stage × Option (Entry M) → State × Option (Entry M)
turned_to summed n line step = (at step.0 (sums_line step.0 summed line) (counts_behind n line step.0), step.1)

abbrev pub turning_to : {M : Type 0} → Summed → Counts → List ℕ → Stage × Option (Entry M) → Result (State × Option (Entry M)) What
turning_to summed n line step = Ok (turned_to summed n line step)

pub line_reads : {M : Type 0} (version : ℕ) (read : List ℕ → Option M) (stage : Stage) (summed : Summed) (line : List ℕ)
    (told : Stage × Option (Entry M))
    → is_dirty line ≡ false → length line ≤ most → line_step version read summed stage line ≡ Ok told
    → Reads version read stage summed (with_line_end line) told.0 (sums_line told.0 summed line) (option_to_list told.1)
unfolding turned
line_reads {M} version read stage summed line told clean short step n =
    let next : State = with_line stage summed n line in
    let counts = counts_behind n line told.0 in
    let last : State = at told.0 (sums_line told.0 summed line) counts in
    let turn : turned version read next ≡ Ok (last, told.1) =
    ap (λ (r : Result (Stage × Option (Entry M)) What). r >>= λ s. turning_to summed n line s)
    (step_read version read summed stage line told clean step) in (
      counts,
      taken_line version read (at stage summed n) next last told.1 line refl (omega arith) (clean_no_end line clean)
          (held_whole stage summed n line short) turn,
    )

-- ---- what a line is at its stage
pub entered_again : {M : Type 0} (text : M → List ℕ) (fits : M → Bool) (read : List ℕ → Option M)
    (written : IsWritten text fits read) (form : Form) (position : ℕ) (entry : Entry M)
    → HasLine fits entry → position + 1 < 2 ^ 64
    → entered read form position (line_of text entry) ≡ Ok (Inside (position + 1) form, Some entry)
unfolding entered
entered_again {M} text fits read written form position entry has small =
    ap (λ (r : Result (Entry M) What). r >>= λ e. if nat_lt (position + 1) (2 ^ 64) then Ok (Inside (position + 1) form, Some e)
    else Err TooMany) (entry_again text fits read written entry has)
    ∙ ap (λ t. if t then Ok (Inside (position + 1) form, Some entry) else Err TooMany) (lt-ltb (position + 1) (2 ^ 64) small)

-- an entry's line is no last line of a sealed piece
pub entry_no_tail : {M : Type 0} (text : M → List ℕ) (entry : Entry M) → tailed (codes "end") (line_of text entry) ≡ None
entry_no_tail text entry =
    let first = entry_first text entry in
    let of_cut : Option (List ℕ × List ℕ) → Option (ℕ × List ℕ) = λ o.
    option_and_then (λ (parts : List ℕ × List ℕ). if bytes_eq parts.0 (codes "end") then number_before parts.1 else None) o in
    ap (tailed (codes "end")) first.1
    ∙ ap of_cut (cut_again (who_word entry.who) first.0 (who_space entry.who))
    ∙ ap (λ t. if t then number_before first.0 else None) (who_no_end entry.who)

pub inside_entry : {M : Type 0} (text : M → List ℕ) (fits : M → Bool) (read : List ℕ → Option M)
    (written : IsWritten text fits read) (form : Form) (summed : Summed) (position : ℕ) (entry : Entry M)
    → HasLine fits entry → position + 1 < 2 ^ 64
    → inside read form summed position (line_of text entry) ≡ Ok (Inside (position + 1) form, Some entry)
unfolding inside
inside_entry {M} text fits read written Plain summed position entry has small =
    ap (λ (o : Option ℕ). ended_by read position o (line_of text entry)) (entry_no_end text entry)
    ∙ entered_again text fits read written Plain position entry has small
inside_entry {M} text fits read written Sealed summed position entry has small =
    ap (λ (o : Option (ℕ × List ℕ)). closed_by read (sum_by summed) position o (line_of text entry)) (entry_no_tail text entry)
    ∙ entered_again text fits read written Sealed position entry has small

-- no entry, after which is this stage
abbrev pub silent : {M : Type 0} → Stage → Step M
silent stage = Ok (stage, None)

pub inside_end : {M : Type 0} (read : List ℕ → Option M) (form : Form) (summed : Summed) (position : ℕ) → position < 2 ^ 64
    → inside read form summed position (closing form summed position) ≡ silent (Waiting (Some position) (link_behind form summed))
unfolding inside
inside_end {M} read Plain summed position small =
    ap (λ (o : Option ℕ). ended_by read position o (numbered_line (codes "end") position))
    (numbered_again (codes "end") position refl small)
    ∙ ap (λ t. if t then silent {M = M} (Waiting (Some position) Unsealed) else Err WrongEnd) (eq-eqb position position refl)
inside_end {M} read Sealed summed position small =
    let sum = sum_by summed in
    ap (λ (o : Option (ℕ × List ℕ)). closed_by read sum position o (sealed_end position sum))
    (tailed_again (codes "end") position (sum_word sum) refl small)
    ∙ ap (λ t. if t then sealed_by {M = M} position sum (sum_word sum) else Err WrongEnd) (eq-eqb position position refl)
    ∙ ap (λ t. if t then silent {M = M} (Waiting (Some position) (Behind sum)) else Err WrongSum) (equal_bytes (sum_word sum))

-- ---- headers
pub plain_again : {M : Type 0} (before : Option ℕ) (link : Link) → AllowsPlain link
    → plain_headed {M = M} before link ≡ silent (Headed before Plain)
plain_again before Any may = refl
plain_again before First may = refl
plain_again before Unsealed may = refl
plain_again before (Behind sum) may = absurd may

pub headed_line : {M : Type 0} (version : ℕ) (before : Option ℕ) (link : Link) → AllowsPlain link → version < 2 ^ 64
    → headed {M = M} version before link (numbered_line (codes "journal") version) ≡ silent (Headed before Plain)
unfolding headed
headed_line {M} version before link may small =
    let line = numbered_line (codes "journal") version in
    ap (λ (o : Option ℕ). headed_by {M = M} version before link o (tailed (codes "journal") line))
    (numbered_again (codes "journal") version refl small)
    ∙ ap (λ t. if t then plain_headed {M = M} before link else if version == version + 2 then sealed_headed before link None
    else Err (header_fault version version)) (eq-eqb version version refl)
    ∙ plain_again before link may

-- the word of a sum, if there is one
abbrev pub words : Option Sum → Option (List ℕ)
words after = option_map sum_word after

pub sealed_again : {M : Type 0} (before : Option ℕ) (link : Link) (after : Option Sum) → Allows link after → MaybeSum after
    → sealed_headed {M = M} before link (words after) ≡ silent (Headed before Sealed)
sealed_again {M} before Any None allowed is = refl
sealed_again {M} before Any (Some sum) allowed is =
    ap (λ (o : Option Sum). if is_some o then silent {M = M} (Headed before Sealed) else Err WrongSum) (word_again sum is)
sealed_again {M} before First None allowed is = refl
sealed_again {M} before First (Some sum) allowed is = absurd (none-some sum (sym allowed))
sealed_again before Unsealed after allowed is = absurd allowed
sealed_again {M} before (Behind sum) None allowed is = absurd (none-some sum allowed)
sealed_again {M} before (Behind sum) (Some other) allowed is =
    ap (λ (s : Sum). if bytes_eq (sum_word other) (sum_word s) then silent {M = M} (Headed before Sealed) else Err WrongSum)
    (sym (same_Some other sum allowed))
    ∙ ap (λ t. if t then silent {M = M} (Headed before Sealed) else Err WrongSum) (equal_bytes (sum_word other))

pub sealed_line : {M : Type 0} (version : ℕ) (before : Option ℕ) (link : Link) (after : Option Sum) → Allows link after → MaybeSum after
    → version + 2 < 2 ^ 64
    → headed {M = M} version before link (sealed_header (version + 2) after) ≡ silent (Headed before Sealed)
unfolding headed
sealed_line {M} version before link None allowed is small =
    let line = numbered_line (codes "journal") (version + 2) in
    ap (λ (o : Option ℕ). headed_by {M = M} version before link o (tailed (codes "journal") line))
    (numbered_again (codes "journal") (version + 2) refl small)
    ∙ ap (λ t. if t then plain_headed {M = M} before link else if version + 2 == version + 2 then sealed_headed before link None
    else Err (header_fault version (version + 2))) (ne_eqb (version + 2) version (λ e. omega (arith, e)))
    ∙ ap (λ t. if t then sealed_headed {M = M} before link None else Err (header_fault version (version + 2))) (eq-eqb (version + 2) (version + 2) refl)
    ∙ sealed_again before link None allowed is
sealed_line {M} version before link (Some sum) allowed is small =
    let line = numbered_line (codes "journal") (version + 2) ++ 32 ∷ sum_word sum in
    ap (λ (o : Option ℕ). headed_by {M = M} version before link o (tailed (codes "journal") line))
    (not_numbered (codes "journal") (version + 2) (sum_word sum) refl)
    ∙ ap (headed_by {M = M} version before link None) (tailed_again (codes "journal") (version + 2) (sum_word sum) refl small)
    ∙ ap (λ t. if t then sealed_headed {M = M} before link (Some (sum_word sum)) else Err (header_fault version (version + 2)))
    (eq-eqb (version + 2) (version + 2) refl)
    ∙ sealed_again before link (Some sum) allowed is

-- where a piece may begin
abbrev pub MayBegin : Option ℕ → ℕ → Type 0
MayBegin None from = Unit {0}
MayBegin (Some position) from = from ≡ position

pub begins : (before : Option ℕ) (from : ℕ) → MayBegin before from → begun before from ≡ Ok from
begins None from may = refl
begins (Some position) from may = ap (λ t. if t then Ok from else Err Gap) (eq-eqb from position may)

pub from_step : {M : Type 0} (read : List ℕ → Option M) (form : Form) (summed : Summed) (before : Option ℕ) (from : ℕ) → MayBegin before from
    → (from == 0) ≡ false → from < 2 ^ 64
    → behind_header read form summed before (numbered_line (codes "from") from) ≡ silent (Inside from form)
unfolding behind_header
from_step {M} read form summed before from may apart small =
    ap (λ (o : Option ℕ). from_by read form summed before o (numbered_line (codes "from") from))
    (numbered_again (codes "from") from refl small)
    ∙ ap (λ t. if t then Err BadNumber else begun before from >>= λ position. silent {M = M} (Inside position form)) apart
    ∙ ap (λ (r : Result ℕ What). r >>= λ position. silent {M = M} (Inside position form)) (begins before from may)

pub first_step : {M : Type 0} (read : List ℕ → Option M) (form : Form) (summed : Summed) (before : Option ℕ) (line : List ℕ)
    → MayBegin before 0 → numbered (codes "from") line ≡ None
    → behind_header read form summed before line ≡ inside read form summed 0 line
unfolding behind_header
first_step {M} read form summed before line may none =
    ap (λ (o : Option ℕ). from_by read form summed before o line) none
    ∙ ap (λ (r : Result ℕ What). r >>= λ position. inside read form summed position line) (begins before 0 may)
