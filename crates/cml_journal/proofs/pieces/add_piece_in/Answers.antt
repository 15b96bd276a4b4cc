use Rattle.std.proofs.Common.{ℕ, ◌+◌, List, string_bytes, ◌++◌, length, ap, ◌∙◌}
use Rattle.std.specs.Prelude.{codes}
use Rattle.std.specs.List.{flat_map}
use Rattle.cml_journal.specs.{line_of, numbered_line, with_line_end, text_of, head_lines}
use Rattle.cml_journal.proofs.PieceLemmas.{piece_text}
use Rattle.cml_journal.proofs.pieces.add_piece_in.Goals as goal

pub returns-clause-added : goal.returns-clause-added
returns-clause-added g c =
    let before = string_bytes c.args.text.now in
    let law =
    piece_text (g.S.Spelling.version c.args.spelling.now) (g.S.Spelling.word c.args.spelling.now) c.args.from c.args.entries.now before in
    let head = c.in_ok-write_head.ensures ∙ ap (λ (v : ℕ). before ++ text_of (head_lines v c.args.from)) c.version.ensures in
    let lines = c.in_ok-write_entries.ensures.lines ∙ ap (λ (t : List ℕ).
    t ++ flat_map (λ entry. with_line_end (line_of (g.S.Spelling.word c.args.spelling.now) entry)) c.args.entries.now) head in
    c.in_ok-write_numbered.ensures
    ∙ (ap (λ (t : List ℕ). t ++ with_line_end (numbered_line (codes "end") (c.args.from + length c.args.entries.now))) lines ∙ law)
