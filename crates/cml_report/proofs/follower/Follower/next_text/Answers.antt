use Rattle.std.proofs.Common.{sym, ◌∙◌}
use Rattle.cml_report.specs.{history_of}
use Rattle.cml_report.proofs.ReportLemmas.{text_of_next}
use Rattle.cml_report.proofs.follower.Follower.next_text.Goals as goal

pub returns-in-Some : goal.returns-in-Some
returns-in-Some c =
    let follower = c.args.self.now in
    c.as_str.ensures.value ∙ sym (text_of_next follower.script (history_of follower) c.args.who _ c.in-Some.ensures)
