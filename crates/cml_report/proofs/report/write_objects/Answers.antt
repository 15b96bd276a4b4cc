use Rattle.std.proofs.Common.{◌+◌, ◌++◌, ◌∙◌, ap, sym, drop, string_bytes}
use Rattle.std.specs.Global.{Global}
use Rattle.std.specs.Prelude.{String}
use Rattle.std.specs.Option.{option_map}
use Rattle.cml_grammar.specs.{Named, names_of}
use Rattle.cml_report.specs.{named_line, object_lines_from}
use Rattle.cml_report.proofs.ListLemmas.{mapped_at}
use Rattle.cml_report.proofs.ReportLemmas.{object_lines_more}
use Rattle.cml_report.proofs.report.write_objects.Goals as goal

pub loop-at-preserved : goal.loop-at-preserved
loop-at-preserved c =
    let script = c.args.snapshot.now.script in
    let history = c.args.snapshot.now.history in
    let tally = c.args.snapshot.now.tally in
    let at = c.loop-at.at in
    let names = c.names-names.ensures.names ∙ ap names_of c.script.ensures in
    let entry = sym c.get_index.ensures.entry ∙ ap (option_map (λ p. (p.0.now, p.1.now))) c.unwrap.ensures in
    let named = mapped_at (λ (e : String Global × Named). (string_bytes e.0, e.1)) c.names-names.result.now.entries
    (names_of script) at _ names entry in
    let more = drop (at + 1) (names_of script) in
    let line = c.in_ok-write_object.ensures
    ∙ ap (λ name. string_bytes c.loop-at.report ++ named_line script history tally at name c.unwrap.result.1.now) c.as_str.ensures.value in
    ap (λ t. t ++ object_lines_from script history tally (at + 1) more) line
    ∙ object_lines_more script history tally at (names_of script) _ (string_bytes c.loop-at.report) named
    ∙ c.loop-at.invariant
