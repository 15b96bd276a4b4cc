use Rattle.std.proofs.Common.{◌≡◌, ℕ, ◌<◌, List, length, slice_get, Some, get_or, refl, ap, sym, subst, ◌∙◌, arith}
use Rattle.std.proofs.lemmas.List.{length-map}
use Rattle.std.proofs.lemmas.Option.{slice_get_read, slice_get-get_or}
use Rattle.cml_board.specs.{entries_in}
use Rattle.cml_grammar.specs.{Declaration, names_of, source_of, ReadsDeclaration}
use Rattle.cml_report.specs.declared.objects.Objects.{Objects}
use Rattle.cml_report.specs.{Binding, declared_count, declared_object, making_call, IsMadeOfDeclared, Progress, IsFollowed, history_of}
use Rattle.cml_report.specs.{declared_call}
use Rattle.cml_report.proofs.ListLemmas.{mapped_at}
use Rattle.cml_report.proofs.LineLemmas.{all_at}
use Rattle.cml_report.proofs.KindLemmas.{well_declared}
use Rattle.cml_report.proofs.JournalLemmas.{before_length}
use Rattle.cml_report.proofs.FollowerLemmas.{places_length, place_within, makes_at}
use Rattle.cml_report.proofs.follower.Follower.is_declared_call.Goals as goal

module _ (p q : Progress) (kept : Objects) (counts : List ℕ) (bindings : List Binding) (same : p ≡ q)
    (follows : IsFollowed p kept counts bindings) (early : entries_in (history_of q) < declared_count q.script) where
  -- the next object is declared
  next_within : p.followed < length kept.places.items
  next_within =
      let still = subst (λ (r : Progress). entries_in (history_of r) < declared_count r.script) (sym same) early in
      omega (
        arith,
        still,
        before_length p.journal p.followed follows.within,
        places_length p.script kept.places.items follows.objects.placed,
      )

  -- at a place of the declarations
  place_read : (at : ℕ) → at ≡ get_or kept.places.items p.followed at
      → (slice_get kept.places.items p.followed ≡ Some at) × (at < length p.script.declarations)
  place_read at read =
      let found = slice_get_read kept.places.items (length kept.places.items) p.followed at refl next_within read in
      (found, place_within p.script kept.places.items follows.objects.placed p.followed at found)

pub index-at-requires : goal.index-at-requires
index-at-requires c =
    let within = next_within _ c.args.self.now _ _ _ c.self.view_is c.self.invariant c.requires in
    omega (arith, within, c.self.inside.objects.places.ok.0)

pub bounds-declarations-at : goal.bounds-declarations-at
bounds-declarations-at c =
    let place = place_read _ c.args.self.now _ _ _ c.self.view_is c.self.invariant c.requires c.index-at.result.now c.index-at.ensures in
    let told = rw c.script.ensures at c.declarations.ensures in
    omega (arith, place.1, ap length told.lines, length-map c.declarations.result.now (λ (x : Declaration). source_of x.line))

pub offset_bounds-declarations-at : goal.offset_bounds-declarations-at
offset_bounds-declarations-at c =
    let place = place_read _ c.args.self.now _ _ _ c.self.view_is c.self.invariant c.requires c.index-at.result.now c.index-at.ensures in
    let told = rw c.script.ensures at c.declarations.ensures in
    omega (
      arith,
      c.declarations.ensures.few,
      place.1,
      ap length told.lines,
      length-map c.declarations.result.now (λ (x : Declaration). source_of x.line),
    )

pub is_making-requires : goal.is_making-requires
is_making-requires c =
    let at = c.index-at.result.now in
    let place = place_read _ c.args.self.now _ _ _ c.self.view_is c.self.invariant c.requires at c.index-at.ensures in
    let told = rw c.script.ensures at c.declarations.ensures in
    let items = c.declarations.result.now in
    let d = get_or items at c.index-declarations-at.result in
    let here = slice_get-get_or items at c.index-declarations-at.result
    (omega (arith, place.1, ap length told.lines, length-map items (λ (x : Declaration). source_of x.line))) in
    subst (λ (p : Progress). IsMadeOfDeclared p.script d.makes) c.self.view_is
    (well_declared c.self.inside.plan at d.makes place.1 (told.names.made at d here))

pub returns : goal.returns
returns c =
    let i = c.self.inside in
    let places = i.objects.places.items in
    let at = c.index-at.result.now in
    let place = place_read _ c.args.self.now _ _ _ c.self.view_is c.self.invariant c.requires at c.index-at.ensures in
    let told = rw c.script.ensures at c.declarations.ensures in
    let items = c.declarations.result.now in
    let d = get_or items at c.index-declarations-at.result in
    let here = slice_get-get_or items at c.index-declarations-at.result
    (omega (arith, place.1, ap length told.lines, length-map items (λ (x : Declaration). source_of x.line))) in
    let progress : Progress = record { script = i.plan; journal = i.journal.now; followed = i.followed } in
    let long = before_length i.journal.now i.followed c.self.invariant.within in
    let makes = makes_at i.plan places c.self.invariant.objects.placed (history_of progress) (length (history_of progress)) at d
    (ap (slice_get places) long ∙ place.0) (mapped_at (λ x. source_of x.line) items i.plan.declarations at d told.lines here)
    (all_at (ReadsDeclaration (names_of i.plan)) items at d told.makes here) in
    let same = subst (λ (p : Progress). declared_call p.script (history_of p)
    ≡ making_call (declared_object p.script (history_of p)) d.makes) c.self.view_is makes in
    (λ yes. same ∙ c.is_making.ensures.0 yes, λ is. c.is_making.ensures.1 (sym same ∙ is))
