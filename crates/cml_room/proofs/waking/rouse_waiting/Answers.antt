use Rattle.std.proofs.Common.{◌≡◌, inl, inr, List, subst, arith}
use Rattle.std.specs.Prelude.{⊤}
use Rattle.std.proofs.lemmas.Bool.{cases_lt}
use Rattle.cml_room.specs.{Place, row_of, IsQuiet}
use Rattle.cml_room.proofs.ListingLemmas.{row_within, row_itself}
use Rattle.cml_room.proofs.RousingLemmas.{none_roused, roused_twice, quiet_before}
use Rattle.cml_room.proofs.waking.rouse_waiting.Goals as goal

pub loop-row-init : goal.loop-row-init
loop-row-init c = (none_roused _ c.args.seats.now.places, λ k waiter quiet less. absurd (omega (arith, less)))

pub loop-row-preserved : goal.loop-row-preserved
loop-row-preserved c =
    let olds = c.loop-row.seats.places in
    let news = c.rouse_row.new.seats.places in (
      roused_twice (λ w. ⊤) c.args.seats.now.places olds news
          (λ one other same source so. tt) c.loop-row.invariant.0 c.rouse_row.ensures.roused,
      λ k waiter quiet less. elim (cases_lt (row_of waiter.source) c.loop-row.row) [
        | inl before ↦ c.loop-row.invariant.1 k waiter (quiet_before (λ w. ⊤) olds news k waiter c.rouse_row.ensures.roused quiet) before
        | inr past ↦
            let here : row_of waiter.source ≡ c.loop-row.row = omega (arith, past, less) in
            c.rouse_row.ensures.each k waiter quiet (row_itself waiter.source c.loop-row.row here)
      ],
    )

pub returns-clause-none : goal.returns-clause-none
returns-clause-none c = λ k waiter quiet.
    c.loop-row.invariant.1 k waiter (subst (λ (l : List Place). IsQuiet l k waiter) c.all_roused.ensures.places quiet)
    (omega (arith, row_within waiter.source, c.loop-row-test.false))
