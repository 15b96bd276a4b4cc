use Rattle.std.proofs.Common.{ℕ, ◌<◌, ◌≤◌, ◌∙◌, sym, ap, length, arith}
use Rattle.std.specs.Option.{option_map}
use Rattle.std.proofs.lemmas.List.{length-map}
use Rattle.std.proofs.lemmas.Option.{same_Some, slice_get-get_or}
use Rattle.cml_board.specs.{Name}
use Rattle.cml_grammar.specs.{Declaration, source_of, Lines}
use Rattle.cml_report.specs.{Binding, object_among, port_bound}
use Rattle.cml_report.specs.declared.binding.Binding.TheVariants as binding
use Rattle.cml_report.proofs.KeptLemmas.{object_declared, object_given}
use Rattle.cml_report.proofs.plan.Plan.object.Goals as goal

pub declared_object-requires : goal.declared_object-requires
declared_object-requires c =
    let lines = length-map c.declarations.result.now (λ (d : Declaration). source_of d.line) in
    omega (
      arith,
      c.if-at-declarations.true,
      lines,
      ap length c.declarations.ensures.lines,
      ap (λ (s : Lines). length s.declarations) c.self.view_is,
    )

pub returns-then-at-declarations : goal.returns-then-at-declarations
returns-then-at-declarations c = λ history long bound.
    let lines = length-map c.declarations.result.now (λ (d : Declaration). source_of d.line) in
    let same = ap (λ (s : Lines). length s.declarations) c.self.view_is in
    let lt : c.args.at < length c.args.self.now.declarations =
    omega (arith, c.if-at-declarations.true, lines, ap length c.declarations.ensures.lines, same) in
    let named = λ (n : ℕ). let name : Name = record { 0 = n } in name in
    c.declared_object.ensures ∙ ap (λ made. option_map named (object_among c.args.self.now made c.args.at)) (sym long)
    ∙ ap (option_map named) (sym (object_declared c.args.self.now history c.args.at lt))

pub returns-else-at-declarations : goal.returns-else-at-declarations
returns-else-at-declarations c = λ history long bound.
    let lines = length-map c.declarations.result.now (λ (d : Declaration). source_of d.line) in
    let same = ap (λ (s : Lines). length s.declarations) c.self.view_is in
    let ge : length c.args.self.now.declarations ≤ c.args.at =
    omega (arith, c.if-at-declarations.false, lines, ap length c.declarations.ensures.lines, same) in
    let named = λ (n : ℕ). let name : Name = record { 0 = n } in name in
    let first : Binding = binding.Unbound in
    let here = same_Some _ _ (sym (slice_get-get_or c.args.bindings.now c.args.at first c.requires) ∙ bound.each c.args.at c.requires) in
    c.port.ensures ∙ ap (λ b. option_map named (port_bound b)) here
    ∙ ap (option_map named) (sym (object_given c.args.self.now history c.args.at ge))
