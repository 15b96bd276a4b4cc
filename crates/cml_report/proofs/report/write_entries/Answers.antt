use Rattle.std.proofs.Common.{◌++◌, ◌+◌, ap, sym, ◌∙◌, string_bytes}
use Rattle.std.proofs.lemmas.Bool.{false≢true}
use Rattle.cml_board.specs.{before}
use Rattle.cml_report.specs.{entry_lines, entry_line, Progress}
use Rattle.cml_report.proofs.ListLemmas.{read_at}
use Rattle.cml_report.proofs.JournalLemmas.{before_more}
use Rattle.cml_report.proofs.ReportLemmas.{line_more, no_line, begun_at, not_begun_at, entry_at}
use Rattle.std.specs.Global.{Global}
use Rattle.std.specs.Prelude.{String}
use Rattle.cml_report.proofs.report.write_entries.Goals as goal
use Rattle.cml_report.proofs.report.write_entries.Goals.{then-has_begun+in_ok-write_entry, else-has_begun}

pub loop-entry-preserved : goal.loop-entry-preserved
loop-entry-preserved c =
    let so_far = c.loop-entry.invariant in
    let follower = c.loop-entry.follower in
    let script = c.args.follower.now.script in
    let journal = c.args.journal.now in
    let k = c.loop-entry.entry-index in
    let entry = c.entry-item.result in
    let found = read_at journal k entry c.loop-entry-test.true c.entry-item.is in
    let more = before_more journal k entry found in
    record {
      script = ap (λ (p : Progress). p.script) c.follow.ensures ∙ so_far.script;
      journal = ap (λ (p : Progress). p.journal) c.follow.ensures ∙ so_far.journal;
      followed = ap (λ (p : Progress). p.followed) c.follow.ensures ∙ ap (λ n. n + 1) so_far.followed;
      text = elim c.if-has_begun.branch [
        | then-has_begun+in_ok-write_entry w ↦
            let begun =
            begun_at follower script journal k so_far.script so_far.journal so_far.followed (c.has_begun.ensures.0 w.if-has_begun.true) in
            ap (λ (r : String Global). string_bytes r) w.report-is ∙ w.in_ok-write_entry.ensures
            ∙ ap (λ t. t ++ entry_line follower.script (before follower.journal follower.followed) entry) so_far.text
            ∙ ap (λ t. entry_lines script (before journal k) ++ t)
            (entry_at follower script journal k so_far.script so_far.journal so_far.followed entry)
            ∙ sym (line_more script (before journal k) entry begun)
            ∙ sym (ap (entry_lines script) more)
        | else-has_begun w ↦
            let early = not_begun_at follower script journal k so_far.script so_far.journal so_far.followed
            (λ ge. false≢true (sym w.if-has_begun.false ∙ c.has_begun.ensures.1 ge)) in
            ap (λ (r : String Global). string_bytes r) w.report-is ∙ so_far.text
            ∙ sym (no_line script (before journal k) entry early) ∙ sym (ap (entry_lines script) more)
      ];
    }
