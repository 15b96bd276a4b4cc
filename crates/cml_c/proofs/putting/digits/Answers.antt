use Rattle.std.proofs.Common.{arith}
use Rattle.cml_c.proofs.PuttingLemmas.{at_most_twenty, four_more}
use Rattle.cml_c.proofs.putting.digits.Goals as goal

pub overflow_add-count : goal.overflow_add-count
overflow_add-count c = record { fits = omega (arith, at_most_twenty c.args.number c.ranges.number.fits, c.loop-rest.invariant) }

pub loop-rest-preserved : goal.loop-rest-preserved
loop-rest-preserved c = omega (arith, c.loop-rest.invariant, four_more c.loop-rest.rest c.loop-rest-test.true c.loop-rest.auto.rest-fits.fits)

pub overflow_add-result : goal.overflow_add-result
overflow_add-result c =
    record { fits = omega (arith, at_most_twenty c.args.number c.ranges.number.fits, c.loop-rest.invariant, c.few_digits.ensures.is) }

pub returns : goal.returns
returns c = omega (arith, c.loop-rest.invariant, c.few_digits.ensures.is)
