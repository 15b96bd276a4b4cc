use Rattle.std.proofs.Common.{◌≡◌, ◌++◌, ap, sym, subst, ◌∙◌}
use Rattle.cml_board.specs.{Lawful, base_of}
use Rattle.cml_board.specs.Shown.{Shown}
use Rattle.cml_board.proofs.RenewingLemmas.{next_told}
use Rattle.cml_board.proofs.board.Board.cut.Goals as goal

pub returns-clause-base : goal.returns-clause-base
returns-clause-base g c = λ since e.
    let chunk = g.L.MessageLog.CHUNK in
    let past = c.args.self.now.past in
    let all : c.add_all.new.self ≡ since ++ past = c.add_all.ensures ∙ ap (λ (b : Shown g.row.M.Denot). b.history) c.self.view_is ∙ e in
    let lawful = subst (λ (b : Shown g.row.M.Denot). Lawful b.history) c.self.view_is c.self.invariant.lawful in
    ap (λ h. base_of chunk h) all ∙ sym (next_told chunk past since (subst Lawful e lawful))
