use Rattle.std.proofs.Common.{◌≡◌, None, sym, subst, ap, length, arith}
use Rattle.cml_board.specs.{Lawful}
use Rattle.cml_grammar.specs.{Lines, first_ring}
use Rattle.cml_report.specs.{Follows, AreBindings}
use Rattle.cml_report.proofs.KeptLemmas.{counted_none}
use Rattle.cml_replay.proofs.execution.Execution.new.Goals as goal

pub invariant_of-result : goal.invariant_of-result
invariant_of-result c =
    let none = c.in_ok-board.ensures.history in (
      record {
        lawful = subst Lawful (sym none) tt;
        room = omega (arith, ap length none, c.in_ok-board.ensures.limit, c.requires.least);
        bounded = omega (arith, c.in_ok-board.ensures.limit, c.requires.most);
        follows = subst (Follows c.in_ok-plan.plan) (sym none) tt;
        plain = subst (λ (s : Lines). first_ring s ≡ None) (sym c.in_ok-plan.ensures.script) c.requires.plain;
        known = c.in_ok-plan.ensures.known;
        counted = counted_none c.in_ok-board.board.history c.in_ok-counts.counts.items none
            (c.in_ok-counts.ensures.items_if_clones_equal (λ y is. is));
        bound = subst (λ h. AreBindings c.in_ok-plan.plan h c.in_ok-bindings.bindings.items) (sym none) c.in_ok-bindings.ensures;
      },
      c.in_ok-board.ensures.past,
    )
