-- What is a chart of a report.
use Rattle.std.specs.Prelude.{ℕ, suc, ◌≡◌, ◌+◌, ◌&&◌, nat_lt, nat_le, List, [], ◌∷◌, ◌++◌, length, map, Option, Some, None, if◌then◌else◌}
use Rattle.std.specs.Option.{option_map, option_map_or}
use Rattle.cml_chart.specs.declared.report.faults.What.TheVariants.{NameTaken, UnknownName}
use Rattle.cml_chart.specs.declared.report.faults.Fault.{Fault}
use Rattle.cml_chart.specs.Lines.{Words, Deed, Thing}
use Rattle.cml_chart.specs.Shown.{shown_act}
use Rattle.cml_chart.specs.declared.chart.Row.{Row}
use Rattle.cml_chart.specs.declared.chart.Chart.{Chart}
use Rattle.cml_chart.specs.Threads.{Standing}
use Rattle.cml_chart.specs.Columns.{doer_text, names_of, column_of, doers_of, taken_from}

-- the columns at the ends of an arrow: that of who acts, and that of the object
abbrev pub Arrow : Type 0
Arrow = ℕ × ℕ

-- who acts has one of the first columns, which are of those who act, and the object one of the others
abbrev pub arrow_between : ℕ → Option ℕ → Option ℕ → Option Arrow
arrow_between doers (Some doer) (Some object) = if nat_lt doer doers && nat_le doers object then Some (doer, object) else None
arrow_between doers _ _ = None

-- the ends of a line's arrow are the columns of its two names
abbrev pub arrow_of : Words → ℕ → Deed → Option Arrow
arrow_of names doers d = arrow_between doers (column_of names (doer_text d.doer)) (column_of names d.object)

-- a row: a line, and its arrow
pub record Joined : Type 0 where
  pub deed : Deed
  pub arrow : Option Arrow

abbrev pub joined : Words → ℕ → Deed → Joined
joined names doers d = record { deed = d; arrow = arrow_of names doers d }

abbrev pub shown_row : Row → Joined
shown_row row = record { deed = shown_act row.act; arrow = Some (row.actor, row.object) }

abbrev pub titles_of : List Thing → Words
titles_of things = map (λ (t : Thing). t.name) things

-- The columns are the threads of the script, the other actors, and after them the objects, each with a name that no other
-- column has. There is a row for each line, in the lines' order, and each row has an arrow.
pub record IsChart (threads : List Standing) (deeds : List Deed) (things : List Thing) (chart : Chart) : Type 0 where
  pub names : names_of chart.names.keys ≡ doers_of threads deeds ++ titles_of things
  pub free : taken_from (doers_of threads deeds) (length deeds + 1) things ≡ None
  pub actors : chart.actors ≡ length (doers_of threads deeds)
  pub rows : map shown_row chart.rows.items ≡ map (joined (names_of chart.names.keys) chart.actors) deeds

-- the number of the first of these lines, from k on, whose names don't both have columns
abbrev pub unknown_from : Words → ℕ → ℕ → List Deed → Option ℕ
unknown_from names doers k [] = None
unknown_from names doers k (d ∷ ds) = option_map_or (λ _. unknown_from names doers (suc k) ds) (arrow_of names doers d) (Some k)

abbrev pub unknown_fault : List Standing → List Deed → List Thing → Option Fault
unknown_fault threads deeds things =
    option_map (λ k. record { line = k; what = UnknownName })
    (unknown_from (doers_of threads deeds ++ titles_of things) (length (doers_of threads deeds)) 1 deeds)

-- why the lines of a report have no chart: an object has the name of an earlier column, or else a line of the first part an object
-- that the second doesn't tell of
abbrev pub chart_fault : List Standing → List Deed → List Thing → Option Fault
chart_fault threads deeds things =
    option_map_or (λ k. Some (record { line = k; what = NameTaken })) (taken_from (doers_of threads deeds) (length deeds + 1) things)
    (unknown_fault threads deeds things)
