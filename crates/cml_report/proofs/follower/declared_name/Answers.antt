use Rattle.std.proofs.Common.{sym, subst, ap, ◌<◌, length, ◌∙◌, IfSome, string_bytes}
use Rattle.std.specs.Global.{Global}
use Rattle.std.specs.Prelude.{String}
use Rattle.std.specs.Option.{option_map, option_and_then}
use Rattle.cml_grammar.specs.{Named, names_of}
use Rattle.cml_report.specs.{given_word}
use Rattle.std.specs.Prelude.{slice_get}
use Rattle.cml_report.proofs.ListLemmas.{mapped_at}
use Rattle.cml_report.proofs.LineLemmas.{stands}
use Rattle.cml_report.proofs.ReportLemmas.{word_at}
use Rattle.cml_report.proofs.follower.declared_name.Goals as goal

pub returns-in-Some : goal.returns-in-Some
returns-in-Some c =
    let script = c.args.script.now in
    let at = c.in-Some.at in
    let within = subst (λ o. IfSome o (λ n. n < length script.declarations)) c.in-Some.is c.requires in
    let there = stands script.declarations at within in
    let entry = sym c.get_index.ensures.entry ∙ ap (option_map (λ p. (p.0.now, p.1.now))) c.unwrap.ensures in
    let named = mapped_at (λ (e : String Global × Named). (string_bytes e.0, e.1)) c.names.result.now.entries
    (names_of script) at _ c.names.ensures.names entry in
    c.as_str.ensures.value
    ∙ sym (ap (λ o. given_word (option_and_then (slice_get script.declarations) o)) c.in-Some.is
    ∙ word_at script at there.0 _ c.names.ensures.given there.1 named)
