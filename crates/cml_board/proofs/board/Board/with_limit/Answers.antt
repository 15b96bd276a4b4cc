use Rattle.std.proofs.Common.{◌≡◌, sym, subst}
use Rattle.cml_board.specs.Shown.{Shown}
use Rattle.cml_board.proofs.LimitingLemmas.{keeps_limit}
use Rattle.cml_board.proofs.board.Board.with_limit.Goals as goal

pub invariant_of-self : goal.invariant_of-self
invariant_of-self g c =
    keeps_limit g.L.MessageLog.CHUNK c.args.limit _ c.self.invariant
    (subst (λ (b : Shown g.row.M.Denot). b.past ≡ b.history) (sym c.self.view_is) c.requires.cut) c.requires.most
