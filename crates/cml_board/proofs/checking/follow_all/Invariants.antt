use Rattle.std.proofs.Common.{◌≡◌}
use Rattle.cml_board.specs.{followed_by, IsClean}
use Rattle.cml_board.proofs.checking.follow_all.Given as goal

abbrev pub invariant-loop-at : goal.invariant-loop-at
invariant-loop-at g l = (l.board.history ≡ followed_by l.initial.board.history l.entries l.at) × IsClean l.board l.makers
