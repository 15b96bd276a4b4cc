use Rattle.std.proofs.Common.{◌<◌, length, sym, ◌∙◌, inl, inr}
use Rattle.std.proofs.lemmas.Bool.{cases_lt, false≢true}
use Rattle.cml_report.specs.{declared_count, history_of}
use Rattle.cml_report.proofs.FollowerLemmas.{late_own, own_late, early_own, own_early}
use Rattle.cml_report.proofs.follower.Follower.is_own.Goals as goal

pub returns-then-has_begun : goal.returns-then-has_begun
returns-then-has_begun c =
    let follower = c.args.self.now in
    let begun = c.has_begun.ensures.0 c.if-has_begun.true in (
      λ yes. late_own follower.script (history_of follower) _ begun (c.is_of_caller.ensures.0 yes),
      λ own. c.is_of_caller.ensures.1 (own_late follower.script (history_of follower) _ begun own),
    )

pub is_declaration-requires : goal.is_declaration-requires
is_declaration-requires c =
    let follower = c.args.self.now in
    elim (cases_lt (length (history_of follower)) (declared_count follower.script)) [
      | inl lt ↦ lt
      | inr ge ↦ absurd (false≢true (sym c.if-has_begun.false ∙ c.has_begun.ensures.1 ge))
    ]

pub returns : goal.returns
returns c =
    let follower = c.args.self.now in
    let early : length (history_of follower) < declared_count follower.script =
    elim (cases_lt (length (history_of follower)) (declared_count follower.script)) [
      | inl lt ↦ lt
      | inr ge ↦ absurd (false≢true (sym c.if-has_begun.false ∙ c.has_begun.ensures.1 ge))
    ] in (
      λ yes. early_own follower.script (history_of follower) _ early (c.is_declaration.ensures.0 yes),
      λ own. c.is_declaration.ensures.1 (own_early follower.script (history_of follower) _ early own),
    )
