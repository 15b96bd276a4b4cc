use Rattle.std.proofs.Common.{◌∙◌}
use Rattle.std.proofs.lemmas.Result.{IfOk-weaker}
use Rattle.cml_board.proofs.CountsLemmas.{reading_owed}
use Rattle.cml_board.proofs.board.Board.share_owed.Goals as goal

pub returns : goal.returns
returns g c =
    IfOk-weaker c.share_each.result _ _ (λ shared is.
    is ∙ c.in_ok-owed.ensures
    ∙ reading_owed c.args.self.now c.args.name.0 c.in-Some.cursor.0.0 c.in-Some.cursor.1 _ c.in-Some.ensures c.log.ensures) c.share_each.ensures
