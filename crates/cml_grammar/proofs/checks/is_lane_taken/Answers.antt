use Rattle.std.proofs.Common.{false, sym, ap, ◌∙◌}
use Rattle.std.specs.Map.{keys_of}
use Rattle.std.specs.List.{list_any}
use Rattle.std.specs.Option.{option_map_or}
use Rattle.std.proofs.lemmas.Map.Made.{is_some-lookup}
use Rattle.cml_grammar.specs.{are_same, is_lane_taken, texts_of, shown}
use Rattle.cml_grammar.proofs.checks.is_lane_taken.Goals as goal

pub returns-in-Some : goal.returns-in-Some
returns-in-Some c =
    let names = texts_of c.args.names.now.entries in
    let lanes = keys_of c.args.lanes.now.entries in
    c.contains_key.ensures
    ∙ is_some-lookup (are_same c.in-Some.ends) c.args.lanes.now.entries
    ∙ ap (λ o. option_map_or (λ ends. list_any (are_same ends) lanes) o false) (sym c.in-Some.is ∙ c.ends_by.ensures)
    ∙ ap (λ f. is_lane_taken names lanes (shown f)) (sym c.in-Lane.is)
