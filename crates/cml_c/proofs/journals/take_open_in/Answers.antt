use Rattle.std.proofs.Common.{rules, inl}
use Rattle.cml_c.proofs.journals.take_open_in.Goals as goal

pub returns : goal.returns
returns g c = inl
    (record {
      told = search rules;
      cut = search rules;
      rings = search rules;
      kept = search rules;
      taken = c.take_journal_open-entries.result;
      entries = search rules;
      written = search rules;
      count = search rules;
    })
