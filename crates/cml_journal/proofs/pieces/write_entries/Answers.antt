use Rattle.std.proofs.Common.{◌≡◌, ◌++◌, [], ◌∷◌, List, ℕ, take, string_bytes, subst, ap, ◌∙◌, append_assoc, arith}
use Rattle.std.specs.List.{flat_map}
use Rattle.cml_board.specs.{Entry}
use Rattle.cml_journal.specs.{line_of, with_line_end, IsShort}
use Rattle.cml_journal.proofs.PartLemmas.{all_more, lines_more, when_so}
use Rattle.cml_journal.proofs.pieces.write_entries.Goals as goal

pub loop-entry-preserved : goal.loop-entry-preserved
loop-entry-preserved g c =
    let text = string_bytes c.args.text.now in
    let entries = c.args.entries.now in
    let i = c.loop-entry.entry-index in
    let entry = c.entry-item.result in
    let line = λ (e : Entry g.row.M.Denot). with_line_end (line_of (g.S.Spelling.word c.args.spelling.now) e) in
    let added : string_bytes c.push_str.new.self ≡ string_bytes c.loop-entry.text ++ line entry = c.in_ok-push_str.ensures.bytes
    ∙ ap (λ (t : List ℕ). t ++ 10 ∷ []) c.in_ok-add_line.ensures.line
    ∙ append_assoc (string_bytes c.loop-entry.text) (line_of (g.S.Spelling.word c.args.spelling.now) entry) (10 ∷ []) in
    record {
      lines = added ∙ (ap (λ (t : List ℕ). t ++ line entry) c.loop-entry.invariant.lines
          ∙ (ap (λ (e : Entry g.row.M.Denot). (text ++ flat_map line (take i entries)) ++ line e) c.entry-item.is
          ∙ lines_more line text entries i entry c.loop-entry-test.true));
      at = omega (arith, c.loop-entry.invariant.at);
      short = all_more (IsShort (g.S.Spelling.word c.args.spelling.now)) entries i entry c.loop-entry-test.true
          c.loop-entry.invariant.short (subst (IsShort (g.S.Spelling.word c.args.spelling.now)) c.entry-item.is
          (when_so _ _ c.in_ok-add_line.field-0 c.in_ok-add_line.ensures.short c.if-not-branch.false));
    }
