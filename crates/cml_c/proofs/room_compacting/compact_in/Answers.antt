use Rattle.std.proofs.Common.{rules, inl, inr, refl}
use Rattle.cml_c.specs.declared.code.Code.TheVariants.{NoMemory}
use Rattle.cml_c.proofs.room_compacting.compact_in.Goals as goal

pub returns-in_default : goal.returns-in_default
returns-in_default g c = inr
    (record {
      reason = NoMemory;
      why = tt;
      told = search rules;
      count = search rules;
      slot = search rules;
      same = refl;
    })

pub returns-in-Ok-short_of : goal.returns-in-Ok-short_of
returns-in-Ok-short_of g c = inl
    (record {
      gives = record {
        done = search rules;
        taken = c.in-Ok-short_of.entries;
        such = search rules;
        written = search rules;
        count = search rules;
      };
      leaves = search rules;
    })
