-- Which report is one of a script, and what is drawn of it.
use Rattle.std.specs.Prelude.{ℕ, suc, ◌≡◌, ◌+◌, Bool, false, ◌&&◌, List, [], ◌∷◌, length, map, slice_get, Option, Some}
use Rattle.std.specs.Prelude.{None, Result, Ok, Err, if◌then◌else◌}
use Rattle.std.specs.Option.{option_map_or}
use Rattle.std.specs.Str.{bytes_eq}
use Rattle.std.specs.Str.Parse.{digits_value}
use Rattle.cml_grammar.specs.{is_number, Lines}
use Rattle.cml_chart.specs.declared.report.faults.What.TheVariants.{OtherScript}
use Rattle.cml_chart.specs.declared.report.faults.Fault.{Fault}
use Rattle.cml_chart.specs.declared.report.Report.{Report}
use Rattle.cml_chart.specs.Shown.{shown_act, shown_object}
use Rattle.cml_chart.specs.Lines.{Words, Doer, thread, lane, feed, Deed, Thing}
use Rattle.cml_chart.specs.Columns.{is_among}
use Rattle.cml_chart.specs.Chart.{IsChart, chart_fault}
use Rattle.cml_chart.specs.Threads.{Standing, perform, shown_threads}
use Rattle.cml_chart.specs.Plan.{Made, threads_in, feeds_in, targets_in, objects_in}
use Rattle.cml_chart.specs.declared.chart.Course.{Course}

-- the feed of this number has this name
abbrev pub is_feed : Words → List ℕ → List ℕ → Bool
is_feed feeds number name = is_number number && option_map_or (bytes_eq name) (slice_get feeds (digits_value 10 number)) false

-- The threads after a row of the script. A thread's row reports the thread's next step, a lane's row is on an object that
-- lanes lead to, and a feed's row is on the feed of that number. Any other row is not the script's.
abbrev pub pass : Words → Words → List Standing → Deed → Doer → Option (List Standing)
pass feeds targets threads d (thread name) = perform threads name d
pass feeds targets threads d (lane number) = if is_among targets d.object then Some threads else None
pass feeds targets threads d (feed number) = if is_feed feeds number d.object then Some threads else None

-- .. after all these rows, from number k on; or the number of the first that is not the script's
abbrev pub follow : Words → Words → List Standing → ℕ → List Deed → Result (List Standing) ℕ
follow feeds targets threads k [] = Ok threads
follow feeds targets threads k (d ∷ ds) =
    option_map_or (λ later. follow feeds targets later (suc k) ds) (pass feeds targets threads d d.doer) (Err k)

abbrev pub is_made : Thing → Made → Bool
is_made t m = bytes_eq t.kind m.0 && bytes_eq t.name m.1

-- the number of the first line of the second part, from k on, that is not that of the script's next object
abbrev pub strange_thing : ℕ → List Thing → List Made → Option ℕ
strange_thing k [] [] = None
strange_thing k (t ∷ ts) (m ∷ ms) = if is_made t m then strange_thing (suc k) ts ms else Some k
strange_thing k _ _ = Some k

abbrev pub strange_at : ℕ → Result (List Standing) Fault
strange_at k = Err (record { line = k; what = OtherScript })

-- the threads after a report of this script, or the fault of the least line that is none of it
abbrev pub followed_by : Result (List Standing) ℕ → Option ℕ → Result (List Standing) Fault
followed_by (Err k) strange = strange_at k
followed_by (Ok threads) (Some k) = strange_at k
followed_by (Ok threads) None = Ok threads

abbrev pub followed : Lines → List Deed → List Thing → Result (List Standing) Fault
followed script deeds things =
    followed_by (follow (feeds_in script) (targets_in script) (threads_in script) 1 deeds)
    (strange_thing (length deeds + 1) things (objects_in script))

-- .. where there is a script
abbrev pub threads_behind : Option Lines → List Deed → List Thing → Result (List Standing) Fault
threads_behind script deeds things = option_map_or (λ s. followed s deeds things) script (Ok [])

abbrev pub deeds_of : Report → List Deed
deeds_of r = map shown_act r.acts.items

abbrev pub things_of : Report → List Thing
things_of r = map shown_object r.objects.items

-- What is drawn of a report. If there is a script, its threads are at the steps where the report leaves them, and have the
-- first columns.
pub record IsCourse (script : Option Lines) (course : Course) : Type 0 where
  pub threads : threads_behind script (deeds_of course.report) (things_of course.report) ≡ Ok (shown_threads course.threads.items)
  pub chart : IsChart (shown_threads course.threads.items) (deeds_of course.report) (things_of course.report) course.chart

-- what is wrong with the lines of a report: one is not the script's, or else they have no chart
abbrev pub fault_behind : Result (List Standing) Fault → List Deed → List Thing → Option Fault
fault_behind (Err fault) deeds things = Some fault
fault_behind (Ok threads) deeds things = chart_fault threads deeds things

abbrev pub lines_fault : Option Lines → List Deed → List Thing → Option Fault
lines_fault script deeds things = fault_behind (threads_behind script deeds things) deeds things
