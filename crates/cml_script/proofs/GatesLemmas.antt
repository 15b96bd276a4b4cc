-- Which ends are no hold of a gate.
use Rattle.std.proofs.Common.{◌≡◌, Result, Ok, Err, sym, ◌∙◌}
use Rattle.std.specs.Prelude.{◌≢◌, IfOk}
use Rattle.cml_board.specs.{Refusal}
use Rattle.cml_board.specs.declared.outcome.Refusal.TheVariants as refusal
use Rattle.cml_report.specs.{Stop, Played, Ending}
use Rattle.cml_script.specs.{IsUnheld, stop_of}
use Rattle.cml_report.specs.declared.stop.Stop.TheVariants.{Held}

-- no refusal is a hold
pub stop_unheld : (r : Refusal) → IsUnheld (stop_of r)
stop_unheld refusal.JournalFull = λ is. cc
stop_unheld r = λ is. cc

-- what is played of a run that was not held tells no hold
pub kept_unheld : (opens : Type 0) (stop : Stop) (r : Result Played Ending) → (opens → stop ≢ Held) → IfOk r (λ p. p.stop ≡ stop)
    → IfOk r (λ p. opens → p.stop ≢ Held)
kept_unheld opens stop (Err ended) unheld same = tt
kept_unheld opens stop (Ok p) unheld same = λ always is. unheld always (sym same ∙ is)
