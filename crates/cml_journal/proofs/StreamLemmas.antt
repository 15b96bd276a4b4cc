-- What was read to the end of a stream was written so.
use Rattle.std.proofs.Common.{◌≡◌, ℕ, ◌+◌, if◌then◌else◌, List, [], ◌∷◌, ◌++◌, length, Option}
use Rattle.std.proofs.Common.{Some, None, refl, sym, ap, subst, ◌∙◌, arith, append_assoc, length-append, ◌⊎◌, inl, inr}
use Rattle.std.specs.Prelude.{codes}
use Rattle.std.specs.List.{flat_map}
use Rattle.std.specs.Option.{option_and_then, option_map}
use Rattle.std.specs.Str.{bytes_eq}
use Rattle.std.proofs.lemmas.List.Concat.{flat_map-append}
use Rattle.std.proofs.lemmas.Option.{none-some, same_Some}
use Rattle.cml_board.specs.{Entry}
use Rattle.std.specs.Fmt.{decimal}
use Rattle.cml_journal.specs.{Sum, Summed, nothing_summed, and_bytes, sum_by, sum_of, Form, Link, Stage, number_of, line_of, cut}
use Rattle.cml_journal.specs.{numbered_line, with_line_end, text_of, from_lines, piece_lines, stream_lines, sealed_header, sealed_end}
use Rattle.cml_journal.specs.{sealed_piece_lines, piece_sum, sealed_stream_lines, numbered, number_before, tailed, sums}
use Rattle.cml_journal.specs.declared.reader.Form.TheVariants.{Plain, Sealed}
use Rattle.cml_journal.specs.declared.reader.Link.TheVariants.{Any, First, Unsealed, Behind}
use Rattle.cml_journal.specs.declared.reader.Stage.TheVariants.{Waiting, Headed, Inside}
use Rattle.cml_journal.specs.NumberLaws.{number_only}
use Rattle.cml_journal.proofs.CutWordsLemmas.{cut_takes}
use Rattle.cml_journal.proofs.WordLemmas.{chosen, same_bytes}
use Rattle.cml_journal.proofs.PieceLemmas.{piece_text, sealed_piece_text, sealed_front}
use Rattle.cml_journal.proofs.SumsLemmas.{parts_summed, nothing_more, whole_sum}

pub numbered_takes : (word line : List ℕ) (n : ℕ) → numbered word line ≡ Some n → line ≡ numbered_line word n
numbered_takes word line n e = by (cut line) refl e
  where
    by : (o : Option (List ℕ × List ℕ)) → cut line ≡ o
        → option_and_then (λ (parts : List ℕ × List ℕ). if bytes_eq parts.0 word then number_of parts.1 else None) o ≡ Some n
        → line ≡ numbered_line word n
    by None is f = absurd (none-some n f)
    by (Some parts) is f =
        elim (chosen (bytes_eq parts.0 word) (number_of parts.1) None (Some n) f) [
          | inl h ↦ cut_takes line parts is ∙ ap (λ (w : List ℕ). w ++ 32 ∷ parts.1) (same_bytes parts.0 word h.0)
              ∙ ap (λ (w : List ℕ). word ++ 32 ∷ w) (number_only parts.1 n h.1).0
          | inr h ↦ absurd (none-some n h.1)
        ]

abbrev pub paired : List ℕ → ℕ → ℕ × List ℕ
paired rest n = (n, rest)

pub number_before_takes : (text : List ℕ) (x : ℕ × List ℕ) → number_before text ≡ Some x → text ≡ decimal x.0 ++ 32 ∷ x.1
number_before_takes text x e = by (cut text) refl e
  where
    of_number : (parts : List ℕ × List ℕ) → cut text ≡ Some parts → (o : Option ℕ) → number_of parts.0 ≡ o
        → option_map (paired parts.1) o ≡ Some x → text ≡ decimal x.0 ++ 32 ∷ x.1
    of_number parts is None number f = absurd (none-some x f)
    of_number parts is (Some n) number f =
        subst (λ (y : ℕ × List ℕ). text ≡ decimal y.0 ++ 32 ∷ y.1) (same_Some (paired parts.1 n) x f)
        (cut_takes text parts is ∙ ap (λ (w : List ℕ). w ++ 32 ∷ parts.1) (number_only parts.0 n number).0)

    by : (o : Option (List ℕ × List ℕ)) → cut text ≡ o
        → option_and_then (λ (parts : List ℕ × List ℕ). option_map (λ (n : ℕ). (n, parts.1)) (number_of parts.0)) o ≡ Some x
        → text ≡ decimal x.0 ++ 32 ∷ x.1
    by None is f = absurd (none-some x f)
    by (Some parts) is f = of_number parts is (number_of parts.0) refl f

pub tailed_takes : (word line : List ℕ) (x : ℕ × List ℕ) → tailed word line ≡ Some x → line ≡ numbered_line word x.0 ++ 32 ∷ x.1
tailed_takes word line x e = by (cut line) refl e
  where
    by : (o : Option (List ℕ × List ℕ)) → cut line ≡ o
        → option_and_then (λ (parts : List ℕ × List ℕ). if bytes_eq parts.0 word then number_before parts.1 else None) o ≡ Some x
        → line ≡ numbered_line word x.0 ++ 32 ∷ x.1
    by None is f = absurd (none-some x f)
    by (Some parts) is f =
        elim (chosen (bytes_eq parts.0 word) (number_before parts.1) None (Some x) f) [
          | inl h ↦ cut_takes line parts is ∙ ap (λ (w : List ℕ). w ++ 32 ∷ parts.1) (same_bytes parts.0 word h.0)
              ∙ ap (λ (w : List ℕ). word ++ 32 ∷ w) (number_before_takes parts.1 x h.1)
              ∙ sym (append_assoc word (32 ∷ decimal x.0) (32 ∷ x.1))
          | inr h ↦ absurd (none-some x h.1)
        ]

-- where a piece may begin
abbrev pub StartsAt : Option ℕ → ℕ → Type 0
StartsAt None from = Unit {0}
StartsAt (Some position) from = from ≡ position

-- which sum the first header may name
abbrev pub Allows : Link → Option Sum → Type 0
Allows Any after = Unit {0}
Allows First after = after ≡ None
Allows Unsealed after = ⊥
Allows (Behind sum) after = after ≡ Some sum

-- whether the first piece may be plain
abbrev pub AllowsPlain : Link → Type 0
AllowsPlain Any = Unit {0}
AllowsPlain First = Unit {0}
AllowsPlain Unsealed = Unit {0}
AllowsPlain (Behind sum) = ⊥

-- a text of plain pieces, or of sealed ones
abbrev pub IsText : {M : Type 0} → ℕ → (M → List ℕ) → Link → ℕ → List (List (Entry M)) → List ℕ → Type 0
IsText version text link from pieces bytes =
    (AllowsPlain link × (bytes ≡ text_of (stream_lines version text from pieces)))
    ⊎ ((after : Option Sum) × Allows link after × (bytes ≡ text_of (sealed_stream_lines version text after from pieces)))

-- a text of whole pieces
pub record Whole {M : Type 0} (version : ℕ) (text : M → List ℕ) (before : Option ℕ) (link : Link) (bytes : List ℕ)
    (entries : List (Entry M)) (end : ℕ) : Type 0 where
  pub from : ℕ
  pub pieces : List (List (Entry M))
  pub starts : StartsAt before from
  pub whole : IsText version text link from pieces bytes
  pub given : entries ≡ flat_map (λ piece. piece) pieces
  pub ends : end ≡ from + length entries

abbrev pub entry_lines : {M : Type 0} → (M → List ℕ) → List (Entry M) → List ℕ
entry_lines text entries = flat_map (λ entry. with_line_end (line_of text entry)) entries

-- the last line of a piece, after lines that are summed so far
abbrev pub closing : Form → Summed → ℕ → List ℕ
closing Plain summed position = numbered_line (codes "end") position
closing Sealed summed position = sealed_end position (sum_by summed)

-- what it leaves for the next header
abbrev pub link_behind : Form → Summed → Link
link_behind Plain summed = Unsealed
link_behind Sealed summed = Behind (sum_by summed)

pub sums_both : (form : Form) (summed : Summed) (one other : List ℕ)
    → sums form (sums form summed one) other ≡ sums form summed (one ++ other)
sums_both Plain summed one other = refl
sums_both Sealed summed one other = parts_summed summed one other

pub sums_none : (form : Form) (summed : Summed) → sums form summed [] ≡ summed
sums_none Plain summed = refl
sums_none Sealed summed = nothing_more summed

-- the rest of a piece from this position on, and whole pieces after it
pub record Rest {M : Type 0} (version : ℕ) (text : M → List ℕ) (form : Form) (summed : Summed) (position : ℕ) (bytes : List ℕ)
    (entries : List (Entry M)) (end : ℕ) : Type 0 where
  pub first : List (Entry M)
  pub more : List ℕ
  pub others : List (Entry M)
  pub parts : bytes ≡ (entry_lines text first
      ++ with_line_end (closing form (sums form summed (entry_lines text first)) (position + length first))) ++ more
  pub given : entries ≡ first ++ others
  pub later : Whole version text (Some (position + length first)) (link_behind form (sums form summed (entry_lines text first))) more others end

-- what is after a header
pub record Opened {M : Type 0} (version : ℕ) (text : M → List ℕ) (form : Form) (summed : Summed) (before : Option ℕ) (bytes : List ℕ)
    (entries : List (Entry M)) (end : ℕ) : Type 0 where
  pub from : ℕ
  pub more : List ℕ
  pub starts : StartsAt before from
  pub parts : bytes ≡ text_of (from_lines from) ++ more
  pub rest : Rest version text form (sums form summed (text_of (from_lines from))) from more entries end

abbrev pub Claim : {M : Type 0} → ℕ → (M → List ℕ) → Stage → Summed → List ℕ → List (Entry M) → ℕ → Type 0
Claim version text (Waiting before link) summed = Whole version text before link
Claim version text (Headed before form) summed = Opened version text form summed before
Claim version text (Inside position form) summed = Rest version text form summed position

-- before a piece nothing is summed
abbrev pub Ready : Stage → Summed → Type 0
Ready (Waiting before link) summed = summed ≡ nothing_summed
Ready (Headed before form) summed = Unit {0}
Ready (Inside position form) summed = Unit {0}

-- ---- what a line adds
-- a header, what is after it, and its first piece
pub regrouped : (header from lines closing more : List ℕ)
    → header ++ (from ++ ((lines ++ closing) ++ more)) ≡ (((header ++ from) ++ lines) ++ closing) ++ more
regrouped header from lines closing more =
    sym (append_assoc header from ((lines ++ closing) ++ more))
    ∙ sym (append_assoc (header ++ from) (lines ++ closing) more)
    ∙ ap (λ (w : List ℕ). w ++ more) (sym (append_assoc (header ++ from) lines closing))

pub plain_later : {M : Type 0} (version : ℕ) (text : M → List ℕ) (from : ℕ) (pieces : List (List (Entry M))) (bytes : List ℕ)
    → IsText version text Unsealed from pieces bytes → bytes ≡ text_of (stream_lines version text from pieces)
plain_later version text from pieces bytes (inl plain) = plain.1
plain_later version text from pieces bytes (inr sealed) = absurd sealed.1

pub sealed_later : {M : Type 0} (version : ℕ) (text : M → List ℕ) (sum : Sum) (from : ℕ) (pieces : List (List (Entry M))) (bytes : List ℕ)
    → IsText version text (Behind sum) from pieces bytes → bytes ≡ text_of (sealed_stream_lines version text (Some sum) from pieces)
sealed_later version text sum from pieces bytes (inl plain) = absurd plain.0
sealed_later version text sum from pieces bytes (inr sealed) =
    sealed.2 ∙ ap (λ (after : Option Sum). text_of (sealed_stream_lines version text after from pieces)) sealed.1

pub header_adds : {M : Type 0} (version : ℕ) (text : M → List ℕ) (before : Option ℕ) (link : Link) (bytes : List ℕ)
    (entries : List (Entry M)) (end : ℕ) (summed : Summed)
    → AllowsPlain link → Opened version text Plain summed before bytes entries end
    → Whole version text before link (with_line_end (numbered_line (codes "journal") version) ++ bytes) entries end
header_adds {M} version text before link bytes entries end summed allowed b =
    let header = with_line_end (numbered_line (codes "journal") version) in
    let rest = b.rest in
    let later = rest.later in
    let from = b.from in
    let next = from + length rest.first in
    let lines = entry_lines text rest.first in
    let last = with_line_end (numbered_line (codes "end") next) in
    let behind_it : rest.more ≡ text_of (stream_lines version text next later.pieces) =
    plain_later version text later.from later.pieces rest.more later.whole
    ∙ ap (λ (n : ℕ). text_of (stream_lines version text n later.pieces)) later.starts in
    record {
      from = from;
      pieces = rest.first ∷ later.pieces;
      starts = b.starts;
      whole = inl (
        allowed,
        ap (λ (w : List ℕ). header ++ w) (b.parts ∙ ap (λ (w : List ℕ). text_of (from_lines from) ++ w) rest.parts)
            ∙ regrouped header (text_of (from_lines from)) lines last rest.more
            ∙ ap (λ (w : List ℕ). w ++ rest.more) (piece_text version text from rest.first [])
            ∙ ap (λ (w : List ℕ). text_of (piece_lines version text from rest.first) ++ w) behind_it
            ∙ sym (flat_map-append with_line_end (piece_lines version text from rest.first) (stream_lines version text next later.pieces)),
      );
      given = rest.given ∙ ap (λ (es : List (Entry M)). rest.first ++ es) later.given;
      ends = omega (arith, later.ends, later.starts, ap length rest.given, length-append rest.first rest.others);
    }

-- a piece's sum, when its lines are summed one after the other
pub piece_summed : {M : Type 0} (version : ℕ) (text : M → List ℕ) (after : Option Sum) (from : ℕ) (entries : List (Entry M))
    → sum_by (and_bytes (and_bytes (and_bytes nothing_summed (with_line_end (sealed_header (version + 2) after)))
    (text_of (from_lines from))) (entry_lines text entries))
    ≡ piece_sum version text after from entries
piece_summed {M} version text after from entries =
    let header = with_line_end (sealed_header (version + 2) after) in
    let opening = text_of (from_lines from) in
    let lines = entry_lines text entries in
    ap (λ (s : Summed). sum_by (and_bytes s lines)) (parts_summed nothing_summed header opening)
    ∙ ap sum_by (parts_summed nothing_summed (header ++ opening) lines)
    ∙ whole_sum ((header ++ opening) ++ lines)
    ∙ ap sum_of (sealed_front version text after from entries)

pub sealed_adds : {M : Type 0} (version : ℕ) (text : M → List ℕ) (before : Option ℕ) (link : Link) (after : Option Sum) (bytes : List ℕ)
    (entries : List (Entry M)) (end : ℕ) → Allows link after
    → Opened version text Sealed (sums Sealed nothing_summed (with_line_end (sealed_header (version + 2) after))) before bytes entries end
    → Whole version text before link (with_line_end (sealed_header (version + 2) after) ++ bytes) entries end
sealed_adds {M} version text before link after bytes entries end allowed b =
    let header = with_line_end (sealed_header (version + 2) after) in
    let rest = b.rest in
    let later = rest.later in
    let from = b.from in
    let next = from + length rest.first in
    let lines = entry_lines text rest.first in
    let sum = piece_sum version text after from rest.first in
    let whole_piece = sealed_piece_lines version text after from rest.first in
    let closed : Sum → List ℕ = λ s. with_line_end (sealed_end next s) in
    let is_sum = piece_summed version text after from rest.first in
    let behind_it : rest.more ≡ text_of (sealed_stream_lines version text (Some sum) next later.pieces) =
    sealed_later version text _ later.from later.pieces rest.more later.whole
    ∙ ap (λ (s : Sum). text_of (sealed_stream_lines version text (Some s) later.from later.pieces)) is_sum
    ∙ ap (λ (n : ℕ). text_of (sealed_stream_lines version text (Some sum) n later.pieces)) later.starts in
    record {
      from = from;
      pieces = rest.first ∷ later.pieces;
      starts = b.starts;
      whole = inr (
        after,
        allowed,
        ap (λ (w : List ℕ). header ++ w) (b.parts ∙ ap (λ (w : List ℕ). text_of (from_lines from) ++ w)
            (rest.parts ∙ ap (λ (s : Sum). (lines ++ closed s) ++ rest.more) is_sum))
            ∙ regrouped header (text_of (from_lines from)) lines (closed sum) rest.more
            ∙ ap (λ (w : List ℕ). w ++ rest.more) (sealed_piece_text version text after from rest.first [])
            ∙ ap (λ (w : List ℕ). text_of whole_piece ++ w) behind_it
            ∙ sym (flat_map-append with_line_end whole_piece (sealed_stream_lines version text (Some sum) next later.pieces)),
      );
      given = rest.given ∙ ap (λ (es : List (Entry M)). rest.first ++ es) later.given;
      ends = omega (arith, later.ends, later.starts, ap length rest.given, length-append rest.first rest.others);
    }

pub end_adds : {M : Type 0} (version : ℕ) (text : M → List ℕ) (form : Form) (summed : Summed) (position : ℕ) (bytes : List ℕ)
    (entries : List (Entry M)) (end : ℕ)
    → Whole version text (Some position) (link_behind form summed) bytes entries end
    → Rest version text form summed position (with_line_end (closing form summed position) ++ bytes) entries end
end_adds {M} version text form summed position bytes entries end w =
    let same : position ≡ position + 0 = omega arith in
    let summed_so = sym (sums_none form summed) in
    record {
      first = [];
      more = bytes;
      others = entries;
      parts = ap (λ (n : ℕ). with_line_end (closing form summed n) ++ bytes) same
          ∙ ap (λ (s : Summed). with_line_end (closing form s (position + 0)) ++ bytes) summed_so;
      given = refl;
      later = subst (λ (n : ℕ). Whole version text (Some n) (link_behind form (sums form summed [])) bytes entries end) same
          (subst (λ (s : Summed). Whole version text (Some position) (link_behind form s) bytes entries end) summed_so w);
    }

pub entry_adds : {M : Type 0} (version : ℕ) (text : M → List ℕ) (form : Form) (summed : Summed) (position : ℕ) (entry : Entry M)
    (bytes : List ℕ) (entries : List (Entry M)) (end : ℕ)
    → Rest version text form (sums form summed (with_line_end (line_of text entry))) (position + 1) bytes entries end
    → Rest version text form summed position (with_line_end (line_of text entry) ++ bytes) (entry ∷ entries) end
entry_adds {M} version text form summed position entry bytes entries end r =
    let line = with_line_end (line_of text entry) in
    let lines = entry_lines text r.first in
    let same : position + 1 + length r.first ≡ position + length (entry ∷ r.first) = omega arith in
    let summed_so = sums_both form summed line lines in
    let last : Summed → ℕ → List ℕ = λ s n. with_line_end (closing form s n) in
    let whole = sums form summed (line ++ lines) in
    let there = position + length (entry ∷ r.first) in
    record {
      first = entry ∷ r.first;
      more = r.more;
      others = r.others;
      parts =
          ap (λ (w : List ℕ). line ++ w) (r.parts
          ∙ ap (λ (n : ℕ). (lines ++ last (sums form (sums form summed line) lines) n) ++ r.more) same
          ∙ ap (λ (s : Summed). (lines ++ last s there) ++ r.more) summed_so)
          ∙ sym (append_assoc line (lines ++ last whole there) r.more)
          ∙ ap (λ (w : List ℕ). w ++ r.more) (sym (append_assoc line lines (last whole there)));
      given = ap (λ (es : List (Entry M)). entry ∷ es) r.given;
      later = subst (λ (n : ℕ). Whole version text (Some n) (link_behind form whole) r.more r.others end) same
          (subst (λ (s : Summed). Whole version text (Some (position + 1 + length r.first)) (link_behind form s) r.more r.others end)
          summed_so r.later);
    }
