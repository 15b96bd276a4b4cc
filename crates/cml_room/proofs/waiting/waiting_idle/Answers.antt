use Rattle.std.proofs.Common.{◌≡◌, inl, inr, arith}
use Rattle.std.proofs.lemmas.Bool.{cases_lt}
use Rattle.cml_room.specs.{row_of}
use Rattle.cml_room.proofs.ListingLemmas.{row_within, in_row}
use Rattle.cml_room.proofs.waiting.waiting_idle.Goals as goal

pub loop-row-preserved : goal.loop-row-preserved
loop-row-preserved g c = λ number waiter found less. elim (cases_lt (row_of waiter.source) c.loop-row.row) [
  | inl before ↦ c.loop-row.invariant number waiter found before
  | inr past ↦
      let here : row_of waiter.source ≡ c.loop-row.row = omega (arith, past, less) in
      c.if-not-queue_idle.ensures number
      (in_row c.rows-rows.result.now c.args.seats.now.places number waiter c.loop-row.row c.rows-rows.ensures found here) waiter found
]

pub returns : goal.returns
returns g c =
    λ number waiter found. c.loop-row.invariant number waiter found (omega (arith, row_within waiter.source, c.loop-row-test.false))
