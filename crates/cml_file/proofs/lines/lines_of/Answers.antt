use Rattle.std.proofs.Common.{◌++◌, [], List, ℕ, take, ap, ◌∙◌}
use Rattle.cml_board.specs.{Entry}
use Rattle.cml_journal.specs.{line_of, with_line_end}
use Rattle.cml_journal.proofs.PartLemmas.{lines_more}
use Rattle.cml_file.specs.{lines_of}
use Rattle.cml_file.proofs.lines.lines_of.Goals as goal

pub loop-entry-preserved : goal.loop-entry-preserved
loop-entry-preserved g c =
    let entries = c.args.entries.now in
    let i = c.loop-entry.entry-index in
    let entry = c.entry-item.result in
    let line = λ (e : Entry g.row.M.Denot). with_line_end (line_of g.M.Written.text e) in
    c.in_ok-add_line.ensures
    ∙ (ap (λ (t : List ℕ). t ++ line entry) c.loop-entry.invariant
    ∙ (ap (λ (e : Entry g.row.M.Denot). lines_of g.M.Written.text (take i entries) ++ line e) c.entry-item.is
    ∙ lines_more line [] entries i entry c.loop-entry-test.true))
