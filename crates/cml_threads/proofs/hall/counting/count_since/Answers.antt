use Rattle.std.proofs.Common.{arith}
use Rattle.cml_threads.proofs.AddedEntriesLemmas.{grown_since, counted_since}
use Rattle.cml_threads.proofs.hall.counting.count_since.Goals as goal

pub overflow_sub-count_entries : goal.overflow_sub-count_entries
overflow_sub-count_entries g c =
    omega (
      arith,
      c.count_entries.ensures,
      grown_since c.args.before c.args.room.now c.args.book.now.total c.args.rest.now.amount
          c.args.rest.now.parts g.Led.Ledger.parts c.requires,
    )

pub returns : goal.returns
returns g c =
    let grown = grown_since c.args.before c.args.room.now c.args.book.now.total c.args.rest.now.amount
    c.args.rest.now.parts g.Led.Ledger.parts c.requires in
    counted_since c.args.before c.args.room.now c.args.book.now.total c.args.rest.now.amount c.args.rest.now.parts g.Led.Ledger.parts
    c.add.new.self.total c.add.new.share.amount c.add.new.share.parts c.requires
    (omega (arith, grown, c.count_entries.ensures, c.add.ensures.total))
    (omega (arith, grown, c.count_entries.ensures, c.add.ensures.amount))
    c.add.ensures.parts
