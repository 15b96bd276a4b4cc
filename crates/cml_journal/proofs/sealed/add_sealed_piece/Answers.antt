use Rattle.std.proofs.Common.{◌≡◌, ℕ, ◌+◌, ◌≤◌, List, ◌++◌, length, string_bytes, sym, ap, subst, ◌∙◌}
use Rattle.cml_journal.specs.{Sum, with_line_end, text_of, sealed_end, piece_sum}
use Rattle.cml_journal.proofs.PieceLemmas.{sealed_head, sealed_piece_text}
use Rattle.cml_journal.proofs.SealedLemmas.{piece_behind, front_is_shorter}
use Rattle.cml_journal.proofs.StreamLemmas.{entry_lines}
use Rattle.cml_journal.proofs.sealed.add_sealed_piece.Goals as goal

pub sum_from-requires : goal.sum_from-requires
sum_from-requires g c =
    let before = string_bytes c.args.text.now in
    let head = text_of (sealed_head g.M.Written.VERSION c.args.after c.args.from) in
    let flat = entry_lines g.M.Written.text c.args.entries.now in
    let whole = c.as_bytes.result.now in
    let lines : string_bytes c.write_entries.new.text ≡ (before ++ head) ++ flat = c.in_ok-write_entries.ensures.lines
    ∙ ap (λ (t : List ℕ). t ++ flat) c.in_ok-write_sealed_head.ensures in
    subst (λ (n : ℕ). n ≤ length whole) (sym (ap length c.as_bytes-start.ensures.value))
    (front_is_shorter before head flat whole (c.as_bytes.ensures.value ∙ lines))

pub returns-clause-sum : goal.returns-clause-sum
returns-clause-sum g c =
    let version = g.M.Written.VERSION in
    let text = g.M.Written.text in
    let entries = c.args.entries.now in
    let before = string_bytes c.args.text.now in
    let head = text_of (sealed_head version c.args.after c.args.from) in
    let flat = entry_lines text entries in
    let lines : string_bytes c.write_entries.new.text ≡ (before ++ head) ++ flat = c.in_ok-write_entries.ensures.lines
    ∙ ap (λ (t : List ℕ). t ++ flat) c.in_ok-write_sealed_head.ensures in
    c.in_ok-sum.ensures
    ∙ piece_behind version text c.args.after c.args.from entries c.as_bytes-start.result.now c.as_bytes.result.now
    (c.as_bytes.ensures.value ∙ lines ∙ ap (λ (b : List ℕ). (b ++ head) ++ flat) (sym c.as_bytes-start.ensures.value))

pub returns-clause-added : goal.returns-clause-added
returns-clause-added g c =
    let version = g.M.Written.VERSION in
    let text = g.M.Written.text in
    let before = string_bytes c.args.text.now in
    let entries = c.args.entries.now in
    let head = text_of (sealed_head version c.args.after c.args.from) in
    let flat = entry_lines text entries in
    let last : Sum → List ℕ = λ s. with_line_end (sealed_end (c.args.from + length entries) s) in
    let sum = piece_sum version text c.args.after c.args.from entries in
    let lines : string_bytes c.write_entries.new.text ≡ (before ++ head) ++ flat = c.in_ok-write_entries.ensures.lines
    ∙ ap (λ (t : List ℕ). t ++ flat) c.in_ok-write_sealed_head.ensures in
    c.in_ok-write_named.ensures
    ∙ ap (λ (s : Sum). string_bytes c.write_entries.new.text ++ last s) (returns-clause-sum g c)
    ∙ ap (λ (t : List ℕ). t ++ last sum) lines
    ∙ sealed_piece_text version text c.args.after c.args.from entries before
