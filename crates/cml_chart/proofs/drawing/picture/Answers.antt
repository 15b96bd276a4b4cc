use Rattle.std.specs.Option.{option_map}
use Rattle.std.proofs.lemmas.Result.{err_from_is_err_and}
use Rattle.cml_grammar.specs.{Lines}
use denote.Ref.{Bor}
use Rattle.cml_chart.specs.{IsReportIn}
use Rattle.cml_chart.proofs.DrawingLemmas.{drawn_of, report_shown, undrawn_by_report, undrawn_by_course}
use Rattle.cml_chart.proofs.drawing.picture.Goals as goal

pub returns-in_err-report-clause-undrawn : goal.returns-in_err-report-clause-undrawn
returns-in_err-report-clause-undrawn g c =
    let p = err_from_is_err_and c.from_residual-in_err-report.result c.from_residual-in_err-report.ensures.1 in
    let is_in : IsReportIn c.in_ok-text.text.items c.report_or.result.now =
    report_shown c.in_ok-text.text.items c.deref.result.now c.deref-2.result.now c.report_or.result.now c.in_ok-told.told
    c.deref.ensures.value c.deref-2.ensures.value c.in_ok-told.ensures.told c.report_or.ensures in
    rw (p.1, p.2) (undrawn_by_report (option_map (λ (s : Bor Lines). s.now) c.args.script) _ _ c.in_ok-text.text.items
    c.report_or.result.now c.in_err-report.field-0.0 c.in_ok-text.ensures.read is_in c.in_err-report.ensures.fault)

pub returns-in_err-course-clause-undrawn : goal.returns-in_err-course-clause-undrawn
returns-in_err-course-clause-undrawn g c =
    let p = err_from_is_err_and c.from_residual-in_err-course.result c.from_residual-in_err-course.ensures.1 in
    let is_in : IsReportIn c.in_ok-text.text.items c.report_or.result.now =
    report_shown c.in_ok-text.text.items c.deref.result.now c.deref-2.result.now c.report_or.result.now c.in_ok-told.told
    c.deref.ensures.value c.deref-2.ensures.value c.in_ok-told.ensures.told c.report_or.ensures in
    rw (p.1, p.2) (undrawn_by_course (option_map (λ (s : Bor Lines). s.now) c.args.script) _ _ c.in_ok-text.text.items
    c.report_or.result.now c.in_ok-report.report c.in_err-course.field-0.0 c.in_ok-text.ensures.read is_in
    c.in_ok-report.ensures.report c.in_err-course.ensures.fault)

pub returns-clause-drawn : goal.returns-clause-drawn
returns-clause-drawn g c =
    let is_in : IsReportIn c.in_ok-text.text.items c.report_or.result.now =
    report_shown c.in_ok-text.text.items c.deref.result.now c.deref-2.result.now c.report_or.result.now c.in_ok-told.told
    c.deref.ensures.value c.deref-2.ensures.value c.in_ok-told.ensures.told c.report_or.ensures in
    drawn_of (option_map (λ (s : Bor Lines). s.now) c.args.script) _ _ c.in_ok-text.text.items c.report_or.result.now
    c.in_ok-report.report c.in_ok-course.course c.in_ok-text.ensures.read is_in c.in_ok-report.ensures.report
    c.in_ok-course.ensures.kept c.in_ok-course.ensures.course
