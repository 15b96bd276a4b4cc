use Rattle.std.proofs.Common.{refl}
use Rattle.std.proofs.lemmas.Bool.{false≢true}
use Rattle.cml_report.proofs.ListLemmas.{read_at}
use Rattle.cml_report.proofs.MovedLemmas.{so_far_more, so_far_all, moved_astray}
use Rattle.cml_report.proofs.lanes.is_in_order.Goals as goal

pub loop-entry-preserved : goal.loop-entry-preserved
loop-entry-preserved c =
    let journal = c.args.journal.now in
    let k = c.loop-entry.entry-index in
    let entry = c.entry-item.result in
    let found = read_at journal k entry c.loop-entry-test.true c.entry-item.is in
    record {
      within = c.in-Some.ensures.within;
      so_far = so_far_more c.args.plan.now c.args.lanes.now c.args.seat c.args.at journal k c.loop-entry.from entry found
          c.loop-entry.invariant.so_far c.in-Some.next c.in-Some.ensures;
    }

pub returns-in-None : goal.returns-in-None
returns-in-None c =
    let journal = c.args.journal.now in
    let k = c.loop-entry.entry-index in
    let entry = c.entry-item.result in
    let found = read_at journal k entry c.loop-entry-test.true c.entry-item.is in (
      λ yes. absurd (false≢true yes),
      λ order. absurd (moved_astray c.args.plan.now c.args.lanes.now c.args.seat c.args.at journal k c.loop-entry.from entry found
          c.loop-entry.invariant.so_far c.in-None.ensures.moved c.in-None.ensures.other order),
    )

pub returns : goal.returns
returns c = (
  λ yes. so_far_all c.args.plan.now c.args.lanes.now c.args.seat c.args.at c.args.journal.now c.loop-entry.entry-index c.loop-entry.from
      c.loop-entry-test.false c.loop-entry.invariant.so_far,
  λ order. refl,
)
