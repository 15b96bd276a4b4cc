use Rattle.std.proofs.Common.{ℕ, ◌<◌, length, slice_get, Option, IfSome, ap, sym, subst, ◌∙◌}
use Rattle.std.specs.Option.{option_and_then}
use Rattle.cml_grammar.specs.{Lines}
use Rattle.cml_report.specs.{is_object, given_word, Progress}
use Rattle.cml_report.proofs.ReportLemmas.{placed_line, placed_within}
use Rattle.cml_report.proofs.FollowerLemmas.{followed_at}
use Rattle.cml_report.proofs.follower.Follower.object_name.Goals as goal

pub declared_name-requires : goal.declared_name-requires
declared_name-requires c =
    let script = c.self.inside.plan in
    subst (λ (s : Lines). IfSome c.place.result (λ at. at < length s.declarations)) (sym c.script.ensures)
    (placed_within (is_object script) script.declarations c.args.object.0 c.place.result
    (c.place.ensures ∙ ap (λ l. slice_get l c.args.object.0) c.self.invariant.objects.placed))

pub returns : goal.returns
returns c =
    let script = c.args.self.now.script in
    let follows = followed_at c.self.view_is c.self.invariant in
    let place = c.place.ensures ∙ ap (λ l. slice_get l c.args.object.0) follows.objects.placed in
    let same = c.script.ensures ∙ ap (λ (p : Progress). p.script) c.self.view_is in
    c.declared_name.ensures ∙ ap (λ (s : Lines). given_word (option_and_then (slice_get s.declarations) c.place.result)) same
    ∙ ap (λ (o : Option ℕ). given_word (option_and_then (slice_get script.declarations) o)) place
    ∙ ap given_word (sym (placed_line (is_object script) script.declarations c.args.object.0))
