-- What came of a script, by how it ended.
use Rattle.std.proofs.Common.{◌≡◌, ℕ, List, []}
use Rattle.cml_report.specs.{Ending, Stop, ending_of_stop}
use Rattle.cml_replay.specs.{IsPlayedText, EndsUnplayedText}
use Rattle.cml_report.specs.declared.ending.Ending.TheVariants as ending
use Rattle.cml_report.specs.declared.stop.Stop.TheVariants as stop
use Rattle.cml_script_c.specs.{IsReplay}

pub played : (limit : ℕ) (script report : List ℕ) (stopped : Stop) → IsPlayedText limit script stopped report
    → IsReplay limit script report (ending_of_stop stopped)
played limit script report stop.Done is = is
played limit script report stop.Stalled is = is
played limit script report stop.Full is = is
played limit script report stop.Held is = absurd is.played.scheduled.ends

pub unplayed : (limit : ℕ) (script report : List ℕ) (ended : Ending) → report ≡ [] → EndsUnplayedText script ended
    → IsReplay limit script report ended
unplayed limit script report ending.Done none why = absurd why
unplayed limit script report ending.Stalled none why = absurd why
unplayed limit script report ending.Full none why = absurd why
unplayed limit script report (ending.Fault fault) none why = (why, none)
unplayed limit script report ending.NoMemory none why = (why, none)
unplayed limit script report ending.ReadFault none why = (why, none)
unplayed limit script report ending.WriteFault none why = (why, none)
unplayed limit script report (ending.NotLawful at) none why = (why, none)
unplayed limit script report ending.Held none why = (why, none)
