use Rattle.std.proofs.Common.{sym, subst, ◌∙◌}
use Rattle.cml_journal.specs.{State}
use Rattle.cml_chart.specs.{Replays}
use Rattle.cml_journal.proofs.CheckLemmas.{lists_found}
use Rattle.cml_chart.proofs.JournalLemmas.{goes_past_line, goes_past_entry}
use Rattle.cml_chart.proofs.journal.replaying.Replay.take_line.Goals as goal

pub returns-in_default-clause-taken : goal.returns-in_default-clause-taken
returns-in_default-clause-taken g c =
    let (taken, cut, read) = c.in-Ok.ensures.taken in (
      taken,
      cut,
      goes_past_line g.M.Written.VERSION g.M.Written.meaning c.args.self.now.reader c.next.new.self c.args.self.now.board taken
          (read ∙ lists_found c.next.new.self c.in_default.is),
    )

pub returns-clause-taken : goal.returns-clause-taken
returns-clause-taken g c =
    let (taken, cut, read) = c.in-Ok.ensures.taken in (
      taken,
      cut,
      subst (λ (s : State). Replays g.M.Written.VERSION g.M.Written.meaning taken c.args.self.now.reader c.args.self.now.board s
          c.perform.new.self.board) (sym c.perform.ensures.reader)
          (goes_past_entry g.M.Written.VERSION g.M.Written.meaning c.args.self.now.reader c.next.new.self c.args.self.now.board
          c.perform.new.self.board taken c.in-Some.entry (read ∙ lists_found c.next.new.self c.in-Some.is)
          c.in_ok-perform.ensures.history c.in_ok-perform.ensures.past),
    )
