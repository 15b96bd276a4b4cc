use Rattle.std.proofs.Common.{◌≡◌, None, ◌∙◌, ap, sym, subst, string_bytes}
use Rattle.cml_grammar.specs.{Lines, first_ring}
use Rattle.cml_report.specs.{History, Tallied, text_as, IsOfScript}
use Rattle.cml_replay.specs.{Executed, IsPlayedAs}
use Rattle.cml_report.specs.Schedule.{Schedule}
use Rattle.cml_report.proofs.GivingLemmas.{follows_own}
use Rattle.cml_replay.proofs.perform.play_as.Goals as goal

pub text_as-requires-clause-own : goal.text_as-requires-clause-own
text_as-requires-clause-own c =
    let execution = c.perform.new.execution in
    let own = subst (λ s. IsOfScript s execution.history) (sym c.plan.ensures)
    (follows_own execution.script execution.history c.board.ensures.follows) in
    subst (IsOfScript c.plan.result.now) (sym c.board.ensures.history) own

pub returns : goal.returns
returns c =
    let form = c.args.form in
    let execution = c.perform.new.execution in
    let stop = c.in_ok-stop.stop in
    let script = c.perform.ensures.script ∙ ap (λ (p : Executed). p.script) c.in_ok-execution.ensures in
    let limit = c.perform.ensures.limit ∙ ap (λ (p : Executed). p.limit) c.in_ok-execution.ensures in
    let scheduled : Schedule execution.script execution.limit execution.history stop = record {
      plain = subst (λ (s : Lines). first_ring s ≡ None) (sym script) c.requires.plain;
      lawful = c.board.ensures.lawful;
      room = c.board.ensures.room;
      follows = c.board.ensures.follows;
      ends = c.in_ok-stop.ensures.ends;
    } in
    let text =
    c.in_ok-report.ensures ∙ ap (λ (s : Lines). text_as form s c.board.result.now.history c.no_rings-tally.result stop) c.plan.ensures
    ∙ ap (λ (h : History). text_as form execution.script h c.no_rings-tally.result stop) c.board.ensures.history
    ∙ ap (λ (t : Tallied). text_as form execution.script execution.history t stop) c.no_rings-tally.ensures in
    let played : IsPlayedAs form execution.script execution.limit stop (string_bytes c.in_ok-report.report) =
    record { history = execution.history; scheduled = scheduled; written = text } in
    subst (λ l. IsPlayedAs form c.args.script.now l stop (string_bytes c.in_ok-report.report)) limit
    (subst (λ s. IsPlayedAs form s execution.limit stop (string_bytes c.in_ok-report.report)) script played)
