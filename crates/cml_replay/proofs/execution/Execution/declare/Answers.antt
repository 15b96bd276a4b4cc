use Rattle.std.proofs.Common.{◌≡◌, None, Some, slice_get, ◌+◌, ◌∙◌, sym, ap, subst, take, length}
use Rattle.std.proofs.lemmas.Bool.{MatchBool-at_true}
use Rattle.cml_grammar.specs.{Lines, names_of, source_of, ReadsDeclaration, IsMadeWell, first_ring}
use Rattle.cml_report.specs.{how_many, one_if, is_object, NamesObjects}
use Rattle.cml_replay.specs.{Executed}
use Rattle.cml_report.proofs.ListLemmas.{read_at, count_taken}
use Rattle.cml_report.proofs.LineLemmas.{declaration_object, declaration_feed, declaration_read}
use Rattle.cml_replay.proofs.PlainLemmas.{plain_feed}
use Rattle.cml_replay.proofs.MakingLemmas.{next_object}
use Rattle.cml_replay.proofs.execution.Execution.declare.Goals as goal

pub declare_next-requires-clause-next : goal.declare_next-requires-clause-next
declare_next-requires-clause-next c =
    let items = c.declarations-declaration-items.result.now in
    let told = c.declarations-declaration-items.ensures in
    let i = c.loop-declaration.declaration-index in
    let d = c.declaration-item.result in
    let kept = ap (λ (p : Executed). p.script) c.self.view_is ∙ sym c.loop-declaration.invariant.script in
    let same = c.script-script.ensures ∙ kept in
    let read = subst (λ (s : Lines). (slice_get s.declarations i ≡ Some (source_of d.line)) × ReadsDeclaration (names_of s) d) same
    (declaration_read c.script-script.result.now items i d told.lines told.makes c.loop-declaration-test.true c.declaration-item.is) in
    next_object c.loop-declaration.self (subst NamesObjects kept c.self.invariant.0.known.named) i d
    c.loop-declaration.invariant.made read.0 read.1
    (subst (λ (s : Lines). IsMadeWell (names_of s) i d.makes) same
    (told.names.made i d (read_at items i d c.loop-declaration-test.true c.declaration-item.is)))

pub declare_next-requires-clause-plain : goal.declare_next-requires-clause-plain
declare_next-requires-clause-plain c =
    let script = c.script-script.result.now in
    let told = c.declarations-declaration-items.ensures in
    let i = c.loop-declaration.declaration-index in
    let d = c.declaration-item.result in
    let read = declaration_read script c.declarations-declaration-items.result.now i d told.lines told.makes
    c.loop-declaration-test.true c.declaration-item.is in
    let plain = subst (λ (s : Lines). first_ring s ≡ None) (sym c.script-script.ensures) c.self.invariant.0.plain in
    sym (declaration_feed script d read.1) ∙ plain_feed script plain i (source_of d.line) read.0

pub loop-declaration-preserved : goal.loop-declaration-preserved
loop-declaration-preserved c =
    let items = c.declarations-declaration-items.result.now in
    let told = c.declarations-declaration-items.ensures in
    let i = c.loop-declaration.declaration-index in
    let d = c.declaration-item.result in
    let same = c.script-script.ensures ∙ ap (λ (p : Executed). p.script) c.self.view_is ∙ sym c.loop-declaration.invariant.script in
    let read = subst (λ (s : Lines). (slice_get s.declarations i ≡ Some (source_of d.line)) × ReadsDeclaration (names_of s) d) same
    (declaration_read c.script-script.result.now items i d told.lines told.makes c.loop-declaration-test.true c.declaration-item.is) in
    let script = c.loop-declaration.self.script in
    let counted = count_taken (is_object script) script.declarations i (source_of d.line) read.0 in
    let object = declaration_object script d read.1 in
    let grown = MatchBool-at_true _ _ c.if-not-branch.false c.in_ok-declare_next.ensures.made in
    record {
      script = c.in_ok-declare_next.ensures.script ∙ c.loop-declaration.invariant.script;
      limit = c.in_ok-declare_next.ensures.limit ∙ c.loop-declaration.invariant.limit;
      made =
          grown ∙ ap (λ t. length c.loop-declaration.self.history + one_if t) (sym object)
          ∙ ap (λ n. n + one_if (is_object script (source_of d.line))) c.loop-declaration.invariant.made
          ∙ sym counted
          ∙ ap (λ (s : Lines). how_many (is_object s) (take (i + 1) s.declarations)) (sym c.in_ok-declare_next.ensures.script);
    }
