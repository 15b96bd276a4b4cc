-- What was written of a stream is read again, piece by piece.
use Rattle.std.proofs.Common.{◌≡◌, ℕ, ◌+◌, ◌<◌, ◌≤◌, ◌^◌, Bool, false, List, []}
use Rattle.std.proofs.Common.{◌∷◌, ◌++◌, length, Option, Some, None, Result, Ok, refl, sym, ap, subst, ◌∙◌, arith}
use Rattle.std.proofs.Common.{append_assoc, length-append, lit≤}
use Rattle.std.specs.Prelude.{codes}
use Rattle.std.specs.List.{flat_map, AllByRecursion}
use Rattle.std.proofs.lemmas.List.Concat.{flat_map-append}
use Rattle.cml_board.specs.{Entry}
use Rattle.cml_journal.specs.{Sum, nothing_summed, IsSum, What, Link, Stage, IsWritten, numbered_line, with_line_end, text_of, from_lines}
use Rattle.cml_journal.specs.{piece_lines, stream_lines, sealed_header, sealed_end, piece_sum, sealed_piece_lines, sealed_stream_lines}
use Rattle.cml_journal.specs.{stream_sum, State, fresh, end_of, sums, most, reading, IsSealedRead, MaybeSum}
use Rattle.cml_journal.specs.declared.reader.Form.TheVariants.{Sealed}
use Rattle.cml_journal.specs.declared.reader.Link.TheVariants.{Any, Unsealed, Behind}
use Rattle.cml_journal.specs.declared.reader.Stage.TheVariants.{Waiting, Headed}
use Rattle.cml_journal.proofs.CleanLemmas.{is_dirty, numbered_clean}
use Rattle.cml_journal.proofs.PieceLemmas.{sealed_piece_text}
use Rattle.cml_journal.proofs.StreamLemmas.{Allows, piece_summed}
use Rattle.cml_journal.proofs.SumWordsLemmas.{text_has_sum}
use Rattle.cml_journal.proofs.AgainLemmas.{no_counts, at, Reads, reads_then, line_reads, sealed_line, MayBegin}
use Rattle.cml_journal.proofs.AgainPieceLemmas.{entry_text, AreReadable, short_numbered, short_is_short, tail_clean, tail_short, opened}
use Rattle.cml_journal.proofs.AgainPieceLemmas.{left_behind, behind_head, piece_reads}

-- ---- streams
abbrev pub given : {M : Type 0} → List (List (Entry M)) → List (Entry M)
given pieces = flat_map (λ piece. piece) pieces

pub later_read : {M : Type 0} (version : ℕ) (text : M → List ℕ) (fits : M → Bool) (read : List ℕ → Option M)
    (written : IsWritten text fits read) (from : ℕ) (pieces : List (List (Entry M)))
    → version < 2 ^ 64 → AllByRecursion (AreReadable text fits) pieces → from + length (given pieces) < 2 ^ 64
    → Reads version read (Waiting (Some from) Unsealed) nothing_summed (text_of (stream_lines version text from pieces))
    (Waiting (Some (from + length (given pieces))) Unsealed) nothing_summed (given pieces)
unfolding reading
later_read {M} version text fits read written from [] known readable small = λ n.
    let same : from ≡ from + 0 = omega arith in
    let found : State → Result (State × List (Entry M)) What = λ s. Ok (s, []) in
    (n, ap (λ (p : ℕ). found (at (Waiting (Some p) Unsealed) nothing_summed n)) same)
later_read {M} version text fits read written from (piece ∷ pieces) known readable small =
    let next = from + length piece in
    let counted = length-append piece (given pieces) in
    let same : next + length (given pieces) ≡ from + length (given (piece ∷ pieces)) = omega (arith, counted) in
    let joined = flat_map-append with_line_end (piece_lines version text from piece) (stream_lines version text next pieces) in
    let old = Waiting (Some from) Unsealed in
    subst (λ (p : ℕ). Reads version read old nothing_summed (text_of (stream_lines version text from (piece ∷ pieces)))
    (Waiting (Some p) Unsealed) nothing_summed (given (piece ∷ pieces))) same
    (subst (λ (w : List ℕ). Reads version read old nothing_summed w (Waiting (Some (next + length (given pieces))) Unsealed)
    nothing_summed (given (piece ∷ pieces))) (sym joined)
    (reads_then version read old (Waiting (Some next) Unsealed) (Waiting (Some (next + length (given pieces))) Unsealed) nothing_summed
    nothing_summed nothing_summed
    (text_of (piece_lines version text from piece)) (text_of (stream_lines version text next pieces)) piece (given pieces)
    (piece_reads version text fits read written (Some from) Unsealed from piece known tt refl readable.0 (omega (arith, small, counted)))
    (later_read version text fits read written next pieces known readable.1 (omega (arith, small, counted)))))

-- a stream of one piece or more is read from the first byte to its end
pub stream_again : {M : Type 0} (version : ℕ) (text : M → List ℕ) (fits : M → Bool) (read : List ℕ → Option M)
    (written : IsWritten text fits read) (from : ℕ) (piece : List (Entry M)) (pieces : List (List (Entry M)))
    → version < 2 ^ 64 → AllByRecursion (AreReadable text fits) (piece ∷ pieces) → from + length (given (piece ∷ pieces)) < 2 ^ 64
    → (final : State)
    × (reading version read fresh (text_of (stream_lines version text from (piece ∷ pieces))) ≡ Ok (final, given (piece ∷ pieces)))
    × (end_of final ≡ Some (from + length (given (piece ∷ pieces))))
stream_again {M} version text fits read written from piece pieces known readable small =
    let next = from + length piece in
    let counted = length-append piece (given pieces) in
    let same : next + length (given pieces) ≡ from + length (given (piece ∷ pieces)) = omega (arith, counted) in
    let joined = flat_map-append with_line_end (piece_lines version text from piece) (stream_lines version text next pieces) in
    let reads = reads_then version read (Waiting None Any) (Waiting (Some next) Unsealed)
    (Waiting (Some (next + length (given pieces))) Unsealed) nothing_summed nothing_summed nothing_summed
    (text_of (piece_lines version text from piece)) (text_of (stream_lines version text next pieces)) piece (given pieces)
    (piece_reads version text fits read written None Any from piece known tt tt readable.0 (omega (arith, small, counted)))
    (later_read version text fits read written next pieces known readable.1 (omega (arith, small, counted))) in
    let found = reads no_counts in (
      at (Waiting (Some (next + length (given pieces))) Unsealed) nothing_summed found.0,
      ap (reading version read fresh) joined ∙ found.1,
      ap (λ (p : ℕ). Some p) same,
    )

-- ---- sealed streams
pub header_clean : (version : ℕ) (after : Option Sum) → MaybeSum after → version < 2 ^ 64 → is_dirty (sealed_header version after) ≡ false
header_clean version None is small = numbered_clean (codes "journal") version refl small
header_clean version (Some sum) is small =
    tail_clean (numbered_line (codes "journal") version) sum is (numbered_clean (codes "journal") version refl small)

pub header_short : (version : ℕ) (after : Option Sum) → MaybeSum after → version < 2 ^ 64 → length (sealed_header version after) ≤ most
header_short version None is small =
    short_is_short (length (numbered_line (codes "journal") version)) (short_numbered (codes "journal") version (lit≤ tt) small)
header_short version (Some sum) is small =
    tail_short (numbered_line (codes "journal") version) sum is (short_numbered (codes "journal") version (lit≤ tt) small)

pub sealed_reads : {M : Type 0} (version : ℕ) (text : M → List ℕ) (fits : M → Bool) (read : List ℕ → Option M)
    (written : IsWritten text fits read) (before : Option ℕ) (link : Link) (after : Option Sum) (from : ℕ) (entries : List (Entry M))
    → version + 2 < 2 ^ 64 → Allows link after → MaybeSum after → MayBegin before from → AreReadable text fits entries
    → from + length entries < 2 ^ 64
    → Reads version read (Waiting before link) nothing_summed (text_of (sealed_piece_lines version text after from entries))
    (Waiting (Some (from + length entries)) (Behind (piece_sum version text after from entries))) nothing_summed entries
sealed_reads {M} version text fits read written before link after from entries known allowed is may readable small =
    let header = sealed_header (version + 2) after in
    let end = from + length entries in
    let lines = flat_map (entry_text text) entries in
    let opening = text_of (from_lines from) in
    let summed = sums Sealed nothing_summed (with_line_end header) in
    let last : Sum → List ℕ = λ s. with_line_end (sealed_end end s) in
    let sum = piece_sum version text after from entries in
    let right = piece_summed version text after from entries in
    let grouped : with_line_end header ++ (opening ++ (lines ++ last sum)) ≡ text_of (sealed_piece_lines version text after from entries) =
    sym (append_assoc (with_line_end header ++ opening) lines (last sum)
    ∙ append_assoc (with_line_end header) opening (lines ++ last sum))
    ∙ sealed_piece_text version text after from entries [] in
    subst (λ (w : List ℕ). Reads version read (Waiting before link) nothing_summed w (Waiting (Some end) (Behind sum))
    nothing_summed entries) grouped
    (subst (λ (s : Sum). Reads version read (Waiting before link) nothing_summed (with_line_end header ++ (opening ++ (lines ++ last s)))
    (Waiting (Some end) (Behind s)) nothing_summed entries) right
    (reads_then version read (Waiting before link) (Headed before Sealed) (left_behind text Sealed summed from entries) nothing_summed
    summed nothing_summed (with_line_end header) (opened text Sealed summed from entries) [] entries
    (line_reads version read (Waiting before link) nothing_summed header (Headed before Sealed, None)
    (header_clean (version + 2) after is known) (header_short (version + 2) after is known)
    (sealed_line version before link after allowed is known))
    (behind_head version text fits read written Sealed summed before from entries may readable small)))

-- what a reader has after sealed pieces
pub record SealedReads {M : Type 0} (version : ℕ) (text : M → List ℕ) (read : List ℕ → Option M) (old : Stage) (after : Option Sum)
    (from : ℕ) (pieces : List (List (Entry M))) : Type 0 where
  sum : Sum
  last : stream_sum version text after from pieces ≡ Some sum
  reads : Reads version read old nothing_summed (text_of (sealed_stream_lines version text after from pieces))
      (Waiting (Some (from + length (given pieces))) (Behind sum)) nothing_summed (given pieces)

pub sealed_first : {M : Type 0} (version : ℕ) (text : M → List ℕ) (fits : M → Bool) (read : List ℕ → Option M)
    (written : IsWritten text fits read) (before : Option ℕ) (link : Link) (after : Option Sum) (from : ℕ) (piece : List (Entry M))
    (pieces : List (List (Entry M)))
    → version + 2 < 2 ^ 64 → Allows link after → MaybeSum after → MayBegin before from
    → AreReadable text fits piece → from + length (given (piece ∷ pieces)) < 2 ^ 64
    → SealedReads version text read (Waiting (Some (from + length piece)) (Behind (piece_sum version text after from piece)))
    (Some (piece_sum version text after from piece)) (from + length piece) pieces
    → SealedReads version text read (Waiting before link) after from (piece ∷ pieces)
sealed_first {M} version text fits read written before link after from piece pieces known allowed is may readable small later =
    let next = from + length piece in
    let named = piece_sum version text after from piece in
    let counted = length-append piece (given pieces) in
    let same : next + length (given pieces) ≡ from + length (given (piece ∷ pieces)) = omega (arith, counted) in
    let one = sealed_piece_lines version text after from piece in
    let rest = sealed_stream_lines version text (Some named) next pieces in
    let joined = flat_map-append with_line_end one rest in
    record {
      sum = later.sum;
      last = later.last;
      reads = subst (λ (p : ℕ). Reads version read (Waiting before link) nothing_summed (text_of (one ++ rest))
          (Waiting (Some p) (Behind later.sum)) nothing_summed (given (piece ∷ pieces))) same
          (subst (λ (w : List ℕ). Reads version read (Waiting before link) nothing_summed w
          (Waiting (Some (next + length (given pieces))) (Behind later.sum)) nothing_summed (given (piece ∷ pieces))) (sym joined)
          (reads_then version read (Waiting before link) (Waiting (Some next) (Behind named))
          (Waiting (Some (next + length (given pieces))) (Behind later.sum)) nothing_summed nothing_summed nothing_summed
          (text_of one) (text_of rest) piece (given pieces)
          (sealed_reads version text fits read written before link after from piece known allowed is may readable
          (omega (arith, small, counted)))
          later.reads));
    }

pub sealed_later : {M : Type 0} (version : ℕ) (text : M → List ℕ) (fits : M → Bool) (read : List ℕ → Option M)
    (written : IsWritten text fits read) (sum : Sum) (from : ℕ) (pieces : List (List (Entry M)))
    → version + 2 < 2 ^ 64 → IsSum sum → AllByRecursion (AreReadable text fits) pieces → from + length (given pieces) < 2 ^ 64
    → SealedReads version text read (Waiting (Some from) (Behind sum)) (Some sum) from pieces
unfolding reading
sealed_later {M} version text fits read written sum from [] known is readable small =
    let same : from ≡ from + 0 = omega arith in
    let found : State → Result (State × List (Entry M)) What = λ s. Ok (s, []) in
    record {
      sum = sum;
      last = refl;
      reads = λ n. (n, ap (λ (p : ℕ). found (at (Waiting (Some p) (Behind sum)) nothing_summed n)) same);
    }
sealed_later {M} version text fits read written sum from (piece ∷ pieces) known is readable small =
    sealed_first version text fits read written (Some from) (Behind sum) (Some sum) from piece pieces known refl is refl readable.0 small
    (sealed_later version text fits read written (piece_sum version text (Some sum) from piece) (from + length piece) pieces known
    (text_has_sum _) readable.1 (omega (arith, small, length-append piece (given pieces))))

-- a sealed stream of one piece or more is read from the first byte to its end
pub sealed_stream_again : {M : Type 0} (version : ℕ) (text : M → List ℕ) (fits : M → Bool) (read : List ℕ → Option M)
    (written : IsWritten text fits read) (before : Option ℕ) (link : Link) (after : Option Sum) (from : ℕ) (piece : List (Entry M))
    (pieces : List (List (Entry M)))
    → version + 2 < 2 ^ 64 → Allows link after → MaybeSum after → MayBegin before from
    → AllByRecursion (AreReadable text fits) (piece ∷ pieces) → from + length (given (piece ∷ pieces)) < 2 ^ 64
    → IsSealedRead version text read (at (Waiting before link) nothing_summed no_counts) after from (piece ∷ pieces)
sealed_stream_again {M} version text fits read written before link after from piece pieces known allowed is may readable small =
    let all = sealed_first version text fits read written before link after from piece pieces known allowed is may readable.0 small
    (sealed_later version text fits read written (piece_sum version text after from piece) (from + length piece) pieces known
    (text_has_sum _) readable.1 (omega (arith, small, length-append piece (given pieces)))) in
    let found = all.reads no_counts in
    (at (Waiting (Some (from + length (given (piece ∷ pieces)))) (Behind all.sum)) nothing_summed found.0, found.1, refl, sym all.last)
