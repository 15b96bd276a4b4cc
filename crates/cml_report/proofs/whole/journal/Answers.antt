use Rattle.cml_report.proofs.WholeLemmas.{whole_journal, whole_room}
use Rattle.cml_report.proofs.whole.journal.Goals as goal

pub returns-clause-entries : goal.returns-clause-entries
returns-clause-entries c = whole_journal c.args.board.now c.journal.result.now c.requires c.journal.ensures.entries

pub returns-clause-room : goal.returns-clause-room
returns-clause-room c = whole_room c.args.board.now c.requires c.journal.ensures.room
