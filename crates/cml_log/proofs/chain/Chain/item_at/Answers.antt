use Rattle.std.proofs.Common.{◌-◌, ◌*◌, sym, ap, ◌∙◌, arith}
use Rattle.std.specs.Option.{option_copied}
use Rattle.std.proofs.Math.Nat.{mod-lt}
use Rattle.cml_log.proofs.CursorsLemmas.{peeked}
use Rattle.cml_log.proofs.LendingLemmas.{slot_left, item_there}
use Rattle.cml_log.proofs.chain.Chain.item_at.Goals as goal

pub item-requires : goal.item-requires
item-requires g c = (
  omega arith,
  (
    c.requires.holds.lies,
    (
      mod-lt c.args.at.place c.requires.some,
      slot_left g.row.N c.args.self.now c.args.at c.requires.some c.requires.holds c.requires.left,
    ),
  ),
)

pub unreachable-requires : goal.unreachable-requires
unreachable-requires g c =
    item_there (c.args.at.place - g.row.N * c.args.self.now.given) c.args.self.now.items
    (omega (arith, c.requires.left, c.requires.written))
    (sym (peeked g.row.N c.args.self.now c.args.at c.requires.holds) ∙ sym c.item.ensures ∙ ap option_copied c.in-None.is)

pub returns : goal.returns
returns g c =
    sym (peeked g.row.N c.args.self.now c.args.at c.requires.holds) ∙ sym c.item.ensures ∙ ap option_copied c.in-Some.is
