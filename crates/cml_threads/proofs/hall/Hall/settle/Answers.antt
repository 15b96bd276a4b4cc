use Rattle.std.proofs.Common.{◌≡◌, ap, arith}
use Rattle.cml_board.specs.{entries_in, rings_in}
use Rattle.cml_board.specs.Shown.{Shown}
use Rattle.cml_threads.proofs.hall.Hall.settle.Goals as goal

-- the rest has all parts again, so that its amount is the book's total
pub new-requires : goal.new-requires
new-requires g c =
    let all : c.gather-seats.new.rest.parts ≡ g.Led.Ledger.parts =
    omega (
      arith,
      c.gather-seats.ensures.parts,
      c.self.invariant.shared,
      c.self.invariant.enough,
      c.self.invariant.own_parts,
      c.seats_of.ensures,
      c.seats.ensures,
      c.if-seats_of-seats.false,
    ) in
    let whole = c.audit.ensures.whole all in
    let entries = ap (λ (b : Shown g.row.M.Denot). entries_in b.history) c.board.ensures.board in
    let kept = ap (λ (b : Shown g.row.M.Denot). entries_in b.history) c.into_board.ensures in
    let rings = ap (λ (b : Shown g.row.M.Denot). rings_in b.history) c.into_board.ensures in
    record { total = omega arith; own = omega arith }
