use Rattle.std.proofs.Common.{◌≡◌, ◌+◌, ◌-◌, ◌*◌, ◌/◌, ◌≤◌, ◌++◌, drop}
use Rattle.std.specs.Prelude.{vec_len, vec_capacity}
use Rattle.cml_log.specs.{lent, end_of, HoldsChunk}
use Rattle.cml_log.proofs.chain.Chain.lend_from.Given as goal

abbrev pub invariant-loop-place : goal.invariant-loop-place
invariant-loop-place g l = record {
  holds : HoldsChunk g.row.N l.self l.at;
  place : l.at.place ≡ l._place;
  end : l._place-end ≡ end_of g.row.N l.self;
  walked : l.walked.count + l.fn.from.place / g.row.N ≡ l.fn.walked.count + l._place / g.row.N;
  lent : lent l.items.items ++ drop (l._place - g.row.N * l.self.given) l.self.items
      ≡ drop (l.fn.from.place - g.row.N * l.self.given) l.self.items;
  room : vec_len l.items + (l._place-end - l._place) ≤ vec_capacity l.items;
}
