-- How far each thread of a script has come by a report.
use Rattle.std.specs.Prelude.{ℕ, ◌+◌, Bool, true, false, List, [], ◌∷◌, ◌++◌, map, slice_get, Option, Some, None, codes, if◌then◌else◌}
use Rattle.std.specs.Option.{option_map, option_map_or}
use Rattle.std.specs.Str.{bytes_eq}
use Rattle.cml_chart.specs.Lines.{Words, Deed}
use Rattle.cml_chart.specs.Shown.{texts}
use Rattle.cml_chart.specs.declared.following.Thread.{Thread}

-- a thread, the lines of its steps that have rows, and how many of these were performed
pub record Standing : Type 0 where
  pub name : List ℕ
  pub steps : Words
  pub performed : ℕ

-- its next step: the first that was not performed
abbrev pub stands_at : Standing → Option (List ℕ)
stands_at s = slice_get s.steps s.performed

-- a row reports that step, with a reply
abbrev pub tells : Standing → Deed → Bool
tells s d = option_map_or (λ step. bytes_eq (step ++ codes ": " ++ d.reply) d.line) (stands_at s) false

abbrev pub advanced : Bool → Standing → Standing
advanced told s = if told then record s { performed = s.performed + 1 } else s

-- the threads after a row of the one with this name, which reports that thread's next step
abbrev pub perform : List Standing → List ℕ → Deed → Option (List Standing)
perform [] name d = None
perform (s ∷ ss) name d =
    if bytes_eq s.name name then (if tells s d then Some (advanced true s ∷ ss) else None)
    else option_map (λ later. s ∷ later) (perform ss name d)

abbrev pub shown_thread : Thread → Standing
shown_thread t = record { name = t.name.now; steps = texts t.steps.items; performed = t.performed }

abbrev pub shown_threads : List Thread → List Standing
shown_threads threads = map shown_thread threads
