use Rattle.std.proofs.Common.{◌≡◌, ◌+◌, slice_get, Some, rules}
use Rattle.std.proofs.lemmas.Option.{slice_get_read}
use Rattle.cml_board.specs.{entries_in}
use Rattle.cml_board.proofs.CheckingLemmas.{stops_here}
use Rattle.cml_board.proofs.checking.follow_all.Goals as goal

pub returns-in-Some-clause-ok : goal.returns-in-Some-clause-ok
returns-in-Some-clause-ok g c =
    let stands : slice_get c.args.entries.now c.loop-at.at ≡ Some c.index-entries-at.result = search (rules, slice_get_read) in
    let position : c.entries-start.result + c.loop-at.at ≡ entries_in c.args.board.now.history + c.loop-at.at = search rules in
    let told = rw c.in-Some.is at c.in_ok-expected.ensures.ok in
    stops_here c.args.board.now.history c.args.entries.now c.loop-at.board.history c.loop-at.at _
    c.index-entries-at.result c.in-Some.expected
    c.loop-at.invariant.0 c.loop-at.invariant.1.lawful stands position told.0 told.1
