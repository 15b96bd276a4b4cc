-- Lines are added to a buffer one by one.
use Rattle.std.proofs.Common.{◌≡◌, ℕ, ◌+◌, ◌-◌, ◌≤◌, List, ◌++◌, length, take, drop, sym, ap, subst, ◌∙◌, arith}
use Rattle.std.proofs.Math.Seq.{take-append_seam, drop-append-add}
use Rattle.std.proofs.lemmas.List.{drop-drop, length-append, length-drop}

-- a line more lies in the buffer
added_at : (lines line old new : List ℕ)
    → new ≡ take (length lines) (lines ++ drop (length lines) old) ++ line ++ drop (length lines + length line) (lines ++ drop (length lines) old)
    → new ≡ (lines ++ line) ++ drop (length lines + length line) old
added_at lines line old new is =
    is ∙ ap (λ (t : List ℕ). t ++ line ++ drop (length lines + length line) (lines ++ drop (length lines) old))
    (take-append_seam lines (drop (length lines) old))
    ∙ ap (λ (t : List ℕ). lines ++ line ++ t) (drop-append-add lines (drop (length lines) old) (length line)
    ∙ drop-drop (length line) (length lines) old)

pub added : (lines line old buffer new : List ℕ) (at end : ℕ) → at ≡ length lines → end ≡ at + length line → buffer ≡ lines ++ drop at old
    → new ≡ take at buffer ++ line ++ drop end buffer → new ≡ (lines ++ line) ++ drop end old
added lines line old buffer new at end begins ends is then =
    let until : end ≡ length lines + length line = ends ∙ ap (λ (n : ℕ). n + length line) begins in
    subst (λ (n : ℕ). new ≡ (lines ++ line) ++ drop n old) (sym until) (added_at lines line old new
    (then ∙ ap (λ (n : ℕ). take n buffer ++ line ++ drop end buffer) begins
    ∙ ap (λ (n : ℕ). take (length lines) buffer ++ line ++ drop n buffer) until
    ∙ ap (λ (t : List ℕ). take (length lines) t ++ line ++ drop (length lines + length line) t)
    (is ∙ ap (λ (n : ℕ). lines ++ drop n old) begins)))

-- the buffer is as long as it was
pub within_buffer : (lines old buffer : List ℕ) (at end : ℕ) → at ≡ length lines → at ≤ length old → buffer ≡ lines ++ drop at old
    → end ≤ length buffer → end ≤ length old
within_buffer lines old buffer at end begins inside is within =
    let long : length buffer ≡ length lines + (length old - at) = ap length is ∙ length-append lines (drop at old)
    ∙ ap (λ (n : ℕ). length lines + n) (length-drop at old) in
    omega (arith, long, begins, inside, within)
