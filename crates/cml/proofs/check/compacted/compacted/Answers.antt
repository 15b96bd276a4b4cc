use Rattle.std.proofs.Common.{◌-◌, ◌∙◌, ap, reverse, string_bytes, subst}
use Rattle.std.proofs.lemmas.Result.{IfOk-weaker}
use Rattle.cml_board.specs.Shown.{Shown}
use Rattle.cml_board.specs.declared.entry.Who.TheVariants.{Seat}
use Rattle.cml_board.specs.declared.restored.Makers.{Makers}
use Rattle.cml_compact.specs.{AllBy, Compacts}
use Rattle.cml.specs.{IsCompactOf, IsShortened, IsTextOf}
use Rattle.cml.proofs.check.compacted.compacted.Goals as goal

pub returns-in-Ok-clause-made : goal.returns-in-Ok-clause-made
returns-in-Ok-clause-made g c =
    let short : IsShortened c.args.restored c.in-Ok.new = record {
      compacts = subst (λ (board : Shown g.row.M.Denot). Compacts board c.in-Ok.new) c.into_parts-board.ensures.board
          c.in-Ok.ensures.ok;
      by = subst (λ seat. AllBy (Seat seat) c.in-Ok.new.history)
          (c.saturating_sub.ensures ∙ ap (λ (makers : Makers). makers.seats - 1) c.into_parts-board.ensures.makers)
          c.in-Ok.ensures.whose;
    } in
    IfOk-weaker c.text_of.result
    (λ text. IsTextOf g.M.Written.VERSION g.M.Written.text c.args.sealed (reverse c.in-Ok.new.history) (string_bytes text))
    (λ text. IsCompactOf g.M.Written.VERSION g.M.Written.text c.args.sealed c.args.restored (string_bytes text))
    (λ text told. record { new = c.in-Ok.new; is = short; told = told }) c.text_of.ensures.text
