use Rattle.std.proofs.Common.{slice_get, rules}
use Rattle.cml_journal.specs.{Progress}
use Rattle.cml_journal.proofs.CheckLemmas.{anew, nothing_so_far, restored_as_read}
use Rattle.cml_journal.proofs.check.Check.restore.Goals as goal

pub returns-clause-anew : goal.returns-clause-anew
returns-clause-anew g c =
    let new : Progress g.row.M.Denot = record {
      state = c.from.result;
      checker = c.restore.new.self;
      halt = c.self.inside.halt;
      last = slice_get c.self.inside.entry.items 0;
    } in
    nothing_so_far g.M.Written.VERSION g.M.Written.meaning new c.from.ensures
    (anew g.M.Written.VERSION g.M.Written.meaning c.deref_mut.result.now c.restore.new.self c.args.limit c.in_ok-restored.restored
    c.in_ok-restored.ensures) (search rules)

pub returns-clause-restored : goal.returns-clause-restored
returns-clause-restored g c = λ bytes so.
    restored_as_read g.M.Written.VERSION g.M.Written.meaning c.args.self.now bytes c.args.limit c.restore.new.self c.in_ok-restored.restored
    (search rules) so
