use Rattle.std.proofs.Common.{subst, sym, arith}
use Rattle.cml_chart.specs.{so_far, IsFaultOf}
use Rattle.cml_chart.proofs.ReadingLemmas.{reads_on, stops}
use Rattle.cml_chart.proofs.report.reading.read_report.Goals as goal

pub returns-in-Err-clause-fault : goal.returns-in-Err-clause-fault
returns-in-Err-clause-fault c =
    let l = c.loop-line in
    subst (IsFaultOf c.args.text.now) (sym c.at-in-Err.ensures)
    (stops _ (so_far l.reading) c.in-Err.what l.number l.rest.now c.in-Some.line.now c.in-Some.later.now l.invariant.0
    c.in-Some.ensures.0 c.in-Err.ensures.fault)

pub loop-line-preserved : goal.loop-line-preserved
loop-line-preserved c =
    let l = c.loop-line in
    let read = c.in_default-read_line.ensures in (
      reads_on _ (so_far l.reading) (so_far c.read_line.new.reading) l.number l.rest.now c.in-Some.line.now c.in-Some.later.now
          l.invariant.0 c.in-Some.ensures.0 read.fits,
      omega (arith, l.invariant, c.in-Some.ensures.1),
      omega (arith, l.invariant, c.in-Some.ensures.1, read.few),
    )
