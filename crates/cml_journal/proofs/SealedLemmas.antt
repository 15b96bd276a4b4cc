-- What is written of a sealed piece, and its sum.
use Rattle.std.proofs.Common.{◌≡◌, ℕ, ◌≤◌, List, [], ◌∷◌, ◌++◌, length, drop, Option, refl, sym, ap, ◌∙◌, arith, append_assoc}
use Rattle.std.proofs.Common.{length-append}
use Rattle.cml_board.specs.{Entry}
use Rattle.cml_journal.specs.{Sum, Summed, nothing_summed, and_bytes, sum_by, sum_of, text_of, piece_sum}
use Rattle.cml_journal.proofs.SumsLemmas.{parts_summed, whole_sum}
use Rattle.cml_journal.proofs.PieceLemmas.{sealed_head, sealed_front}
use Rattle.cml_journal.proofs.StreamLemmas.{entry_lines}

-- the lines before a piece's end are summed in two parts
pub piece_in_parts : {M : Type 0} (version : ℕ) (text : M → List ℕ) (after : Option Sum) (from : ℕ) (entries : List (Entry M))
    (begins : Summed) (front left : List ℕ) → begins ≡ nothing_summed
    → text_of (sealed_head version after from) ++ entry_lines text entries ≡ front ++ left
    → sum_by (and_bytes (and_bytes begins front) left) ≡ piece_sum version text after from entries
piece_in_parts version text after from entries begins front left empty whole =
    ap sum_by (parts_summed begins front left)
    ∙ ap (λ (s : Summed). sum_by (and_bytes s (front ++ left))) empty
    ∙ ap (λ (t : List ℕ). sum_by (and_bytes nothing_summed t)) (sym whole)
    ∙ whole_sum (text_of (sealed_head version after from) ++ entry_lines text entries)
    ∙ ap sum_of (sealed_front version text after from entries)

pub behind_front : (front rest : List ℕ) → drop (length front) (front ++ rest) ≡ rest
behind_front [] rest = refl
behind_front (b ∷ bs) rest = behind_front bs rest

-- the lines before a piece's end are summed after another text
pub piece_behind : {M : Type 0} (version : ℕ) (text : M → List ℕ) (after : Option Sum) (from : ℕ) (entries : List (Entry M))
    (before whole : List ℕ)
    → whole ≡ (before ++ text_of (sealed_head version after from)) ++ entry_lines text entries
    → sum_of (drop (length before) whole) ≡ piece_sum version text after from entries
piece_behind version text after from entries before whole is =
    let head = text_of (sealed_head version after from) in
    ap (λ (t : List ℕ). sum_of (drop (length before) t)) (is ∙ append_assoc before head (entry_lines text entries))
    ∙ ap sum_of (behind_front before (head ++ entry_lines text entries))
    ∙ ap sum_of (sealed_front version text after from entries)

-- a text is not shorter than its front
pub front_is_shorter : (before one other whole : List ℕ) → whole ≡ (before ++ one) ++ other → length before ≤ length whole
front_is_shorter before one other whole is =
    omega (arith, ap length is, length-append (before ++ one) other, length-append before one)
