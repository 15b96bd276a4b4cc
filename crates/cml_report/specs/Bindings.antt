-- The inside of `play`, `work`, `audit` and a report: what steps gave their names, kept by name, and how many were performed,
-- kept by thread.
use Rattle.std.specs.Prelude.{ℕ, ◌≡◌, ◌+◌, ◌<◌, List, length, slice_get, slice_set, Option, Some, None}
use Rattle.cml_grammar.specs.{Lines, names_of}
use Rattle.cml_report.specs.declared.binding.Binding.{Binding}
use Rattle.cml_report.specs.Schedule.{History, binding_of, performed}

-- by name, what a step gave it
pub record AreBindings (script : Lines) (history : History) (bindings : List Binding) : Type 0 where
  pub all : length bindings ≡ length (names_of script)
  pub each : (at : ℕ) → at < length bindings → slice_get bindings at ≡ Some (binding_of script history at)

-- with what a step gave the name at this position, if it gave one
abbrev pub with_binding : List Binding → Option ℕ → Binding → List Binding
with_binding bindings None given = bindings
with_binding bindings (Some at) given = slice_set bindings at given

-- by thread, how many of its steps were performed
pub record AreCounts (history : History) (counts : List ℕ) : Type 0 where
  pub seats : length counts ≡ 64
  pub each : (thread : ℕ) → thread < 64 → slice_get counts thread ≡ Some (performed history (thread + 1))
