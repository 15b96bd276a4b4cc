use Rattle.std.proofs.Common.{rules, ◌≡◌, ◌∙◌, ap, subst, sym, List, ℕ, string_bytes}
use Rattle.std.proofs.lemmas.Result.{IfOk-weaker}
use Rattle.cml_board.specs.Shown.{Shown}
use Rattle.cml.specs.{IsStateOf, state_lines}
use Rattle.cml.proofs.EndingsLemmas.{state_restored}
use Rattle.cml.proofs.check.checking.state_of.Goals as goal

pub returns-in-Some : goal.returns-in-Some
returns-in-Some g c =
    let board : c.board.result.now ≡ c.in-Some.restored.board = search rules in
    let lines : state_lines g.M.Written.text c.board.result.now.history ≡ state_lines g.M.Written.text c.in-Some.restored.board.history =
    ap (λ (b : Shown g.row.M.Denot). state_lines g.M.Written.text b.history) board in
    IfOk-weaker c.state_lines.result (λ objects. string_bytes objects ≡ state_lines g.M.Written.text c.board.result.now.history)
    (λ objects. (bytes : List ℕ)
    → IsStateOf g.M.Written.VERSION g.M.Written.meaning g.M.Written.text c.args.wanted bytes c.args.check.now (string_bytes objects))
    (λ objects is bytes. subst (λ asked. IsStateOf g.M.Written.VERSION g.M.Written.meaning g.M.Written.text asked bytes c.args.check.now
    (string_bytes objects)) (sym c.in-State.is)
    (state_restored g.M.Written.VERSION g.M.Written.meaning g.M.Written.text bytes c.args.check.now c.in-Some.restored
    (string_bytes objects) (c.in-Some.ensures.restored bytes) (is ∙ lines)))
    c.state_lines.ensures
