use Rattle.std.proofs.Common.{◌≡◌, ◌+◌, ◌++◌, List, ℕ, length, take, drop, subst, sym, ap, ◌∙◌, arith, []}
use Rattle.std.proofs.lemmas.List.{length-append}
use Rattle.cml_board.specs.{Entry}
use Rattle.cml_journal.specs.{IsShort}
use Rattle.cml_journal.proofs.PartLemmas.{all_more, lines_more}
use Rattle.cml_c.specs.{lines_of, whole_line}
use Rattle.cml_c.proofs.AddingLemmas.{added, within_buffer}
use Rattle.cml_c.proofs.entry_lines.add_lines.Goals as goal

pub loop-entry-preserved : goal.loop-entry-preserved
loop-entry-preserved g c =
    let text = g.M.Written.text in
    let entries = c.args.entries.now in
    let i = c.loop-entry.entry-index in
    let entry = c.entry-item.result in
    let before = lines_of text (take i entries) in
    let line = whole_line text entry in
    let more : before ++ line ≡ lines_of text (take (i + 1) entries)
    = ap (λ (e : Entry g.row.M.Denot). before ++ whole_line text e) c.entry-item.is
    ∙ lines_more (whole_line text) [] entries i entry c.loop-entry-test.true in
    record {
      count = omega (arith, c.loop-entry.invariant.count);
      long = c.in-Ok.ensures.end.0 ∙ ap (λ (n : ℕ). n + length line) c.loop-entry.invariant.long ∙ sym (length-append before line)
          ∙ ap length more;
      within = within_buffer before c.args.buffer.now c.loop-entry.buffer c.loop-entry.length c.in-Ok.end c.loop-entry.invariant.long
          c.loop-entry.invariant.within c.loop-entry.invariant.written c.in-Ok.ensures.end.1;
      written = added before line c.args.buffer.now c.loop-entry.buffer c.add_line.new.buffer c.loop-entry.length c.in-Ok.end
          c.loop-entry.invariant.long c.in-Ok.ensures.end.0 c.loop-entry.invariant.written c.in-Ok.ensures.written
          ∙ ap (λ (t : List ℕ). t ++ drop c.in-Ok.end c.args.buffer.now) more;
      short = all_more (IsShort text) entries i entry c.loop-entry-test.true c.loop-entry.invariant.short
          (subst (IsShort text) c.entry-item.is c.in-Ok.ensures.short);
    }
