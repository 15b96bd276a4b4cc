use Rattle.std.proofs.Common.{◌≡◌, ◌∙◌, ap, arith}
use Rattle.cml_board.specs.{entries_in, rings_in, seats_of}
use Rattle.cml_board.specs.Shown.{Shown}
use Rattle.cml_threads.specs.{Sitting}
use Rattle.cml_threads.proofs.RestoringLemmas.{rings_within, all_rings}
use Rattle.cml_threads.proofs.hall.Hall.restore.Goals as goal

pub overflow_sub-answers : goal.overflow_sub-answers
overflow_sub-answers g c =
    let all = c.entries-entries.ensures ∙ ap (λ (b : Shown g.row.M.Denot). entries_in b.history) c.board.ensures in
    omega (arith, all, c.makers-makers.ensures.right.rings, rings_within c.args.restored.board.history)

pub split_off-requires-clause-given_backed : goal.split_off-requires-clause-given_backed
split_off-requires-clause-given_backed g c = λ none.
    let all = c.entries-entries.ensures ∙ ap (λ (b : Shown g.row.M.Denot). entries_in b.history) c.board.ensures in
    let same = ap (λ (b : Shown g.row.M.Denot). seats_of b.history) c.in_ok-room.ensures.board in
    let no_seats : seats_of c.args.restored.board.history ≡ 0 =
    omega (arith, none, c.seats-seats.ensures, c.in_ok-room.ensures.behind_seats, same) in
    omega (arith, all, c.makers-makers.ensures.right.rings, all_rings c.args.restored.board.history no_seats)

pub invariant_of-result : goal.invariant_of-result
invariant_of-result g c =
    let all = c.entries-entries.ensures ∙ ap (λ (b : Shown g.row.M.Denot). entries_in b.history) c.board.ensures in
    let entries = ap (λ (b : Shown g.row.M.Denot). entries_in b.history) c.in_ok-room.ensures.board in
    let rings = ap (λ (b : Shown g.row.M.Denot). rings_in b.history) c.in_ok-room.ensures.board in
    let within = rings_within c.args.restored.board.history in
    let split = c.split_off.ensures in
    let parts = c.add.ensures.parts ∙ c.open-book.ensures.parts in
    record {
      entries = omega (arith, all, entries, c.add.ensures.total, c.open-book.ensures.total);
      rings = omega (
        arith,
        all,
        rings,
        within,
        c.makers-makers.ensures.right.rings,
        split.amount_left,
        c.add.ensures.amount,
        c.open-book.ensures.amount,
      );
      shared = omega (arith, split.parts_left, parts, c.seats-seats.ensures);
      enough = omega (arith, c.requires.parts, c.requires.enough);
      own_parts = omega (
        arith,
        split.parts_left,
        parts,
        c.seats-seats.ensures,
        c.in_ok-room.ensures.small,
        c.requires.parts,
        c.requires.enough,
      );
    }

pub returns-clause-answers : goal.returns-clause-answers
returns-clause-answers g c =
    let all = c.entries-entries.ensures ∙ ap (λ (b : Shown g.row.M.Denot). entries_in b.history) c.board.ensures in
    omega (
      arith,
      all,
      c.makers-makers.ensures.right.rings,
      rings_within c.args.restored.board.history,
      ap (λ (s : Sitting). s.share) c.of_many-left.ensures,
    )
