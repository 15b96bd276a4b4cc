use Rattle.std.proofs.Common.{◌≡◌, sym, subst}
use Rattle.cml_compact.specs.{IsShortJournal, last_seat}
use Rattle.cml_c.proofs.ShorteningLemmas.{such_are_written}
use Rattle.cml_c.proofs.compacting.write_short.Goals as goal

pub returns-in-Ok : goal.returns-in-Ok
returns-in-Ok g c =
    such_are_written (IsShortJournal c.args.restored.board (last_seat c.args.restored.makers.seats))
    (λ taken. taken ≡ c.in-Ok.entries.items) g.M.Payload.OWNED c.args.journal.now
    c.write_journal.new.journal c.args.count.now c.write_journal.new.count c.write_journal.result
    (λ entries is. subst (λ taken. IsShortJournal c.args.restored.board (last_seat c.args.restored.makers.seats) taken) (sym is)
    c.in-Ok.ensures.ok) c.write_journal.ensures
