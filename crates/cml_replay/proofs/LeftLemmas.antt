-- What a replay's report tells as left is what its schedule has left.
use Rattle.std.proofs.Common.{◌≡◌, ◌-◌, [], ◌∷◌, length, ap, ◌∙◌, arith, inl, inr}
use Rattle.std.specs.Prelude.{not}
use Rattle.std.proofs.lemmas.Bool.{cases_lt, ne_eqb}
use Rattle.cml_grammar.specs.{Lines}
use Rattle.cml_report.specs.{one_if, how_many, History, Follows, declared_count, is_of_thread, is_step_entry, HasSeats}
use Rattle.cml_replay.specs.{ReportsTellWhatIsLeft}
use Rattle.cml_replay.proofs.ScheduleLemmas.{declares, steps}
use Rattle.cml_report.proofs.BindingLemmas.{maker_is_none}
use Rattle.cml_grammar.proofs.ReadableLemmas.{can_be_read}
use Rattle.cml_report.proofs.LineLemmas.{called_seated, has_seats}

module _ (script : Lines) where
  -- the entries after the declared objects are threads' steps
  calls_are : HasSeats script → (history : History) → Follows script history
      → how_many is_step_entry history ≡ length history - declared_count script
  calls_are seats [] follows = omega arith
  calls_are seats (entry ∷ before) follows = elim (cases_lt (length before) (declared_count script)) [
    | inl lt ↦
        let none = ap one_if (ap is_of_thread (declares script before entry follows lt).by ∙ maker_is_none script (length before)) in
        omega (arith, lt, none, calls_are seats before follows.1)
    | inr ge ↦
        let step = steps script before entry follows ge in
        let low =
        (seats step.step step.ready.line step.seat step.ready.found (called_seated script step.seat step.ready.line step.ready.seated)).0 in
        let one = ap one_if (ap is_of_thread step.by ∙ ap not (ne_eqb step.seat 0 (λ e. omega (arith, low, e)))) in
        omega (arith, ge, one, calls_are seats before follows.1)
  ]

pub told_left : ReportsTellWhatIsLeft
told_left text script limit history stop is s =
    let read = can_be_read text script is in
    let seats = has_seats script read.steps read.asked read.reading.steps read.reading.threads in
    omega (arith, calls_are script seats history s.follows)
