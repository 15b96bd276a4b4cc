use Rattle.std.proofs.Common.{◌≡◌, true, [], length}
use Rattle.cml_store.specs.Texts.{is_whole_text, is_front_text}
use Rattle.cml_store.specs.World.{fresh, run}
use Rattle.cml_store.proofs.Fronts.{empty_is_whole, take_front, keeps_entries}
use Rattle.cml_store.proofs.Holds.{read_part}
use Rattle.cml_store.proofs.Keeping.{keeps}
use Rattle.cml_store.proofs.Reaching.{closed, synced_within}
use Rattle.cml_store.proofs.Runs.{not_refused}
use Rattle.cml_store.proofs.histories.histories_stay.Goals as goal

pub returns-clause-lost : goal.returns-clause-lost
returns-clause-lost g c = λ limit growth events may left may_leave.
    let version = g.M.Written.VERSION in
    let meaning = g.M.Written.meaning in
    let whole = is_whole_text version meaning in
    let front = is_front_text version meaning in
    let none : whole [] ≡ true = empty_is_whole version meaning in
    let w = run whole front limit growth (fresh whole front limit growth) events in
    let k = closed whole front limit growth events none may in
    let sure = k.lasts left may_leave in
    keeps_entries version meaning w.synced w.text left
    (keeps whole w.synced (length w.text) w.text left none k.marks.is_printed
    (synced_within whole front limit growth events none may) k.marks.whole_synced sure)
    k.marks.whole_all (not_refused limit whole front growth none w.synced w left k.marks (take_front version meaning) sure)

pub returns-clause-killed : goal.returns-clause-killed
returns-clause-killed g c = λ limit growth events may left may_read.
    let version = g.M.Written.VERSION in
    let meaning = g.M.Written.meaning in
    let whole = is_whole_text version meaning in
    let front = is_front_text version meaning in
    let none : whole [] ≡ true = empty_is_whole version meaning in
    let w = run whole front limit growth (fresh whole front limit growth) events in
    let k = closed whole front limit growth events none may in
    let sure = read_part limit whole w.store.stage w w.disk.seen left k k.seen may_read in
    keeps_entries version meaning w.stored w.text left
    (keeps whole w.stored (length w.text) w.text left none k.marks.is_printed k.marks.within k.marks.whole_stored sure)
    k.marks.whole_all (not_refused limit whole front growth none w.stored w left k.marks (take_front version meaning) sure)
