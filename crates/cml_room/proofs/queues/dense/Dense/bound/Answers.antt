use Rattle.std.proofs.Common.{arith}
use Rattle.cml_room.proofs.ShownLemmas.{short_row}
use Rattle.cml_room.proofs.queues.dense.Dense.bound.Goals as goal

pub returns-clause-enough : goal.returns-clause-enough
returns-clause-enough c = λ row. omega (
  arith,
  short_row c.self.inside.links.items c.self.inside.ends.items c.args.self.now c.self.view_is c.self.invariant row,
  c.len.ensures,
)
