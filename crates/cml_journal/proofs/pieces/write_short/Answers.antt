use Rattle.std.proofs.Common.{ℕ, ◌+◌, List, [], ◌++◌, length, None, string_bytes, ap, subst, ◌∙◌}
use Rattle.std.specs.Prelude.{codes}
use Rattle.std.specs.List.{flat_map}
use Rattle.std.specs.Io.KnownBytes.{Appends}
use Rattle.cml_journal.specs.{line_of, numbered_line, with_line_end, text_of, head_lines}
use Rattle.cml_journal.proofs.PieceLemmas.{piece_text}
use Rattle.cml_journal.proofs.PartLemmas.{on_ok, writes_end}
use Rattle.cml_journal.proofs.pieces.write_short.Goals as goal

pub returns : goal.returns
returns g c =
    let from = c.args.from in
    let entries = c.args.entries.now in
    let flat = flat_map (λ entry. with_line_end (line_of g.M.Written.text entry)) entries in
    let end = with_line_end (numbered_line (codes "end") (from + length entries)) in
    let head = c.in_ok-write_head.ensures ∙ ap (λ (t : List ℕ). t ++ text_of (head_lines c.VERSION.result from)) c.new-text.ensures.bytes
    ∙ ap (λ (v : ℕ). text_of (head_lines v from)) c.VERSION.ensures in
    let whole = ap (λ (t : List ℕ). (t ++ flat) ++ end) head ∙ piece_text g.M.Written.VERSION g.M.Written.text from entries [] in
    let last = c.as_bytes.ensures.value ∙ c.in_ok-write_numbered.ensures in
    on_ok c.write_whole.result
    (λ appends. subst (Appends (g.W.Write.contents c.args.writer.now) (g.W.Write.contents c.write_whole.new.writer)) whole
    (writes_end _ _ _ (string_bytes c.write_head.new.text ++ flat)
    (string_bytes c.write_lines.new.text) c.as_bytes.result.now end None c.write_lines.new.summing
    c.in_ok-write_lines.ensures appends last))
    c.write_whole.ensures
