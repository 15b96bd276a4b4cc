use Rattle.cml_report.specs.{is_moved}
use Rattle.cml_report.proofs.JournalLemmas.{AreCountedBefore}
use Rattle.cml_report.proofs.snapshot.count_moved.Given as goal

abbrev pub invariant-loop-entry : goal.invariant-loop-entry
invariant-loop-entry l = AreCountedBefore l.journal is_moved l.entry-index l.moved
