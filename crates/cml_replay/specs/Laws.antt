-- Laws of the definitions.
use Rattle.std.specs.Prelude.{ℕ, ◌≡◌, ◌<◌, List, None}
use Rattle.cml_grammar.specs.{Lines, IsScript, first_ring}
use Rattle.cml_report.specs.declared.stop.Stop.{Stop}
use Rattle.cml_report.specs.declared.stop.Stop.TheVariants.{Stalled}
use Rattle.cml_report.specs.Counting.{how_many}
use Rattle.cml_report.specs.Schedule.{History, Schedule, is_seated, performed, left}
use Rattle.cml_report.specs.Stalling.{WaitsAtNext, NobodyGoesOn}
use Rattle.cml_report.specs.Report.{Tallied, no_rings, unperformed}

-- under a limit a script has one history at most, and it ends in one way
abbrev pub SchedulesAreOne : Type 0
SchedulesAreOne =
    (script : Lines) (limit : ℕ) (one other : History) (first second : Stop)
    → Schedule script limit one first → Schedule script limit other second → (one ≡ other) × (first ≡ second)

-- under each limit a script without rings has a history, and it ends in some way
abbrev pub ScriptsHaveASchedule : Type 0
ScriptsHaveASchedule =
    (text : List ℕ) (script : Lines) (limit : ℕ)
    → IsScript text script → first_ring script ≡ None → (history : History) × (stop : Stop) × Schedule script limit history stop

-- how many steps the thread with this seat has
abbrev pub steps_of_seat : Lines → ℕ → ℕ
steps_of_seat script seat = how_many (is_seated script seat) script.steps

-- where a script's history ends stalled, each thread with steps left waits at its next one
abbrev pub StalledThreadsWait : Type 0
StalledThreadsWait =
    (text : List ℕ) (script : Lines) (limit : ℕ) (history : History) (seat : ℕ)
    → IsScript text script → Schedule script limit history Stalled → performed history seat < steps_of_seat script seat
    → WaitsAtNext script history seat

-- and there is such a thread
abbrev pub SomeThreadWaits : Type 0
SomeThreadWaits =
    (text : List ℕ) (script : Lines) (limit : ℕ) (history : History)
    → IsScript text script → Schedule script limit history Stalled → (seat : ℕ) × WaitsAtNext script history seat

-- if no thread could go on and a step is left, there is such a thread too
abbrev pub SomeThreadIsStuck : Type 0
SomeThreadIsStuck =
    (text : List ℕ) (script : Lines) (limit : ℕ) (history : History) (tally : Tallied)
    → IsScript text script → NobodyGoesOn script limit history tally → 0 < unperformed script history tally
    → (seat : ℕ) × WaitsAtNext script history seat

-- what a replay's report tells as left is what its schedule has left
abbrev pub ReportsTellWhatIsLeft : Type 0
ReportsTellWhatIsLeft =
    (text : List ℕ) (script : Lines) (limit : ℕ) (history : History) (stop : Stop)
    → IsScript text script → Schedule script limit history stop → unperformed script history no_rings ≡ left script history
