use Rattle.std.proofs.Common.{slice_get, subst, sym, Some}
use Rattle.cml_journal.specs.{Progress, HaltsIn}
use Rattle.cml_journal.proofs.CheckLemmas.{halts_on}
use Rattle.cml_journal.proofs.check.Check.advance.Goals as goal

pub returns-in-Err-clause-halted : goal.returns-in-Err-clause-halted
returns-in-Err-clause-halted g c =
    let mid : Progress g.row.M.Denot = record {
      state = c.self-2.inside.reader;
      checker = c.self-2.inside.checker.value;
      halt = c.self-2.inside.halt;
      last = slice_get c.self-2.inside.entry.items 0;
    } in
    halts_on g.M.Written.VERSION g.M.Written.meaning c.args.self.now mid (Some c.in-Err.halt) c.args.bytes.now c.in-Err.halt
    (subst (λ (p : Progress g.row.M.Denot). HaltsIn g.M.Written.VERSION g.M.Written.meaning c.args.self.now c.args.bytes.now p
    c.in-Err.halt) (sym c.self-2.view_is) c.in-Err.ensures.halted)
