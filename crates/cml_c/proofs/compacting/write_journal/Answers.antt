use Rattle.std.proofs.Common.{rules, inl}
use Rattle.cml_c.proofs.compacting.write_journal.Goals as goal

pub returns-in-Ok : goal.returns-in-Ok
returns-in-Ok g c = inl
    (record {
      done = search rules;
      taken = c.args.entries;
      such = search rules;
      written = search rules;
      count = search rules;
    })
