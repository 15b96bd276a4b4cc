-- What is written of a piece.
use Rattle.std.proofs.Common.{◌≡◌, ℕ, ◌+◌, List, [], ◌∷◌, ◌++◌, length, map, Option, refl, sym, ap, ◌∙◌, append_assoc}
use Rattle.std.specs.Prelude.{codes}
use Rattle.std.specs.List.{flat_map}
use Rattle.std.proofs.lemmas.List.{append-nil}
use Rattle.std.proofs.lemmas.List.Concat.{flat_map-append}
use Rattle.cml_board.specs.{Entry}
use Rattle.cml_journal.specs.{Sum, line_of, numbered_line, with_line_end, text_of, from_lines, head_lines, piece_lines, sealed_header}
use Rattle.cml_journal.specs.{sealed_lines, sealed_end, sealed_piece_lines, piece_sum}

pub flat_map-map : {X Y Z : Type 0} (f : Y → List Z) (g : X → Y) (xs : List X) → flat_map f (map g xs) ≡ flat_map (λ x. f (g x)) xs
flat_map-map f g [] = refl
flat_map-map f g (x ∷ xs) = ap (λ ys. f (g x) ++ ys) (flat_map-map f g xs)

-- a piece's lines: its head, its entries and its end
pub lines_text : {M : Type 0} (text : M → List ℕ) (head : List (List ℕ)) (entries : List (Entry M)) (end before : List ℕ)
    → ((before ++ text_of head) ++ flat_map (λ entry. with_line_end (line_of text entry)) entries) ++ with_line_end end
    ≡ before ++ text_of ((head ++ map (line_of text) entries) ++ end ∷ [])
lines_text {M} text head entries end before =
    let lines = map (line_of text) entries in
    ap (λ (e : List ℕ). ((before ++ text_of head) ++ e) ++ with_line_end end) (sym (flat_map-map with_line_end (line_of text) entries))
    ∙ ap (λ (e : List ℕ). e ++ with_line_end end)
    (append_assoc before (text_of head) (text_of lines) ∙ ap (λ (e : List ℕ). before ++ e) (sym (flat_map-append with_line_end head lines)))
    ∙ append_assoc before (text_of (head ++ lines)) (with_line_end end)
    ∙ ap (λ (e : List ℕ). before ++ (text_of (head ++ lines) ++ e)) (sym (append-nil (with_line_end end)))
    ∙ ap (λ (e : List ℕ). before ++ e) (sym (flat_map-append with_line_end (head ++ lines) (end ∷ [])))

pub piece_text : {M : Type 0} (version : ℕ) (text : M → List ℕ) (from : ℕ) (entries : List (Entry M)) (before : List ℕ)
    → ((before ++ text_of (head_lines version from)) ++ flat_map (λ entry. with_line_end (line_of text entry)) entries)
    ++ with_line_end (numbered_line (codes "end") (from + length entries))
    ≡ before ++ text_of (piece_lines version text from entries)
piece_text version text from entries before =
    lines_text text (head_lines version from) entries (numbered_line (codes "end") (from + length entries)) before

-- the lines before a sealed piece's entries
abbrev pub sealed_head : ℕ → Option Sum → ℕ → List (List ℕ)
sealed_head version after from = sealed_header (version + 2) after ∷ from_lines from

pub sealed_piece_text : {M : Type 0} (version : ℕ) (text : M → List ℕ) (after : Option Sum) (from : ℕ) (entries : List (Entry M))
    (before : List ℕ)
    → ((before ++ text_of (sealed_head version after from)) ++ flat_map (λ entry. with_line_end (line_of text entry)) entries)
    ++ with_line_end (sealed_end (from + length entries) (piece_sum version text after from entries))
    ≡ before ++ text_of (sealed_piece_lines version text after from entries)
sealed_piece_text version text after from entries before =
    lines_text text (sealed_head version after from) entries
    (sealed_end (from + length entries) (piece_sum version text after from entries)) before

-- a sealed piece's sum is that of its head and its entries
pub sealed_front : {M : Type 0} (version : ℕ) (text : M → List ℕ) (after : Option Sum) (from : ℕ) (entries : List (Entry M))
    → text_of (sealed_head version after from) ++ flat_map (λ entry. with_line_end (line_of text entry)) entries
    ≡ text_of (sealed_lines version text after from entries)
sealed_front {M} version text after from entries =
    let head = sealed_head version after from in
    ap (λ (e : List ℕ). text_of head ++ e) (sym (flat_map-map with_line_end (line_of text) entries))
    ∙ sym (flat_map-append with_line_end head (map (line_of text) entries))
