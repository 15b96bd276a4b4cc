use Rattle.std.proofs.Common.{◌+◌, arith}
use Rattle.cml_report.specs.{is_by}
use Rattle.cml_report.proofs.ListLemmas.{how_many-le}
use Rattle.cml_report.proofs.KeptLemmas.{count_at}
use Rattle.cml_report.proofs.follower.count.Goals as goal

pub overflow_add-index_mut : goal.overflow_add-index_mut
overflow_add-index_mut c =
    let history = c.requires.0 in
    let thread = c.in-Some.thread in
    let made =
    count_at history c.args.counts.now.items thread c.index_mut.result.now c.requires.1 c.in-Some.ensures.0 c.index_mut.ensures.value in
    omega (arith, made, how_many-le (is_by (thread + 1)) history, c.requires.2)
