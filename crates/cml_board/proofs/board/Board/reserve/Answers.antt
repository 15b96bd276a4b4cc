use Rattle.std.proofs.Common.{refl, ap, arith}
use Rattle.std.proofs.lemmas.Result.{on_ok_weaker, on_err_weaker}
use Rattle.cml_board.specs.Shown.{Shown}
use Rattle.cml_board.proofs.NotingLemmas.{keeps_same, as_before}
use Rattle.cml_board.proofs.board.Board.reserve.Goals as goal

pub invariant_of-self : goal.invariant_of-self
invariant_of-self g c = keeps_same g.L.MessageLog.CHUNK _ _ _ _ _ c.self.invariant c.reserve.ensures.items refl

pub returns-clause-kept : goal.returns-clause-kept
returns-clause-kept g c =
    as_before c.self.view_is c.reserve.ensures.items refl (omega (arith, c.reserve.ensures.len, c.reserve.ensures.capacity))

pub returns-clause-reserved : goal.returns-clause-reserved
returns-clause-reserved g c = on_ok_weaker c.reserve.result (λ room. omega (arith, room)) c.reserve.ensures.ok

pub returns-clause-refused : goal.returns-clause-refused
returns-clause-refused g c =
    on_err_weaker c.reserve.result
    (λ full. omega (arith, full, ap (λ (b : Shown g.row.M.Denot). b.reserved) c.self.view_is)) c.reserve.ensures.full
