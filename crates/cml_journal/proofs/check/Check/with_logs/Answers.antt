use Rattle.std.proofs.Common.{rules, slice_get, refl, None}
use Rattle.cml_journal.proofs.CheckLemmas.{nothing_so_far}
use Rattle.cml_journal.proofs.check.Check.with_logs.Goals as goal

pub returns : goal.returns
returns g c =
    nothing_so_far g.M.Written.VERSION g.M.Written.meaning
    (record { state = c.from.result; checker = c.in_ok-new.field-0.value; halt = None; last = slice_get c.new-2.result.items 0 })
    c.from.ensures
    (search rules) refl
