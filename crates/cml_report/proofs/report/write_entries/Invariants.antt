use Rattle.std.proofs.Common.{◌≡◌, string_bytes}
use Rattle.cml_board.specs.{before}
use Rattle.cml_report.specs.{entry_lines}
use Rattle.cml_report.proofs.report.write_entries.Given as goal

abbrev pub invariant-loop-entry : goal.invariant-loop-entry
invariant-loop-entry l = record {
  script : l.follower.script ≡ l.fn.follower.script;
  journal : l.follower.journal ≡ l.journal;
  followed : l.follower.followed ≡ l.entry-index;
  text : string_bytes l.report ≡ entry_lines l.fn.follower.script (before l.journal l.entry-index);
}
