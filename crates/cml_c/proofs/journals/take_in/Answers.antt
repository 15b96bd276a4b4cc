use Rattle.std.proofs.Common.{rules, inl}
use Rattle.cml_c.proofs.journals.take_in.Goals as goal

-- src/journals.rt:66:1
pub returns-in-Ok-take_journal : goal.returns-in-Ok-take_journal
returns-in-Ok-take_journal g c = inl
    (record {
      told = search rules;
      cut = search rules;
      rings = search rules;
      kept = search rules;
      taken = c.in-Ok-take_journal.entries;
      entries = search rules;
      written = search rules;
      count = search rules;
    })
