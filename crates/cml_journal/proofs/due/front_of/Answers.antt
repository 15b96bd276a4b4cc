use Rattle.std.proofs.Common.{rules, ◌≤◌, length, sym}
use Rattle.std.proofs.lemmas.List.{length-take-le, take_all}
use Rattle.cml_journal.proofs.due.front_of.Goals as goal

pub returns-then-line-le-SHOWN : goal.returns-then-line-le-SHOWN
returns-then-line-le-SHOWN c =
    let few : length c.args.line.now ≤ 80 = search rules in
    sym (take_all 80 c.args.line.now few)

pub slice_bounds-result-end : goal.slice_bounds-result-end
slice_bounds-result-end c =
    let many : 80 ≤ length c.args.line.now = search rules in
    sym (length-take-le 80 c.args.line.now many)
