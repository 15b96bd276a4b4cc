-- The inside of `audit` and of a report: what is known of the objects that a script declares.
use Rattle.std.specs.Prelude.{ℕ, ◌≡◌, ◌<◌, Bool, false, List, length, slice_get, Some}
use Rattle.std.specs.Option.{option_map_or}
use Rattle.std.specs.List.{list_any}
use Rattle.cml_board.specs.{Who}
use Rattle.cml_grammar.specs.{Lines}
use Rattle.cml_report.specs.declared.objects.Objects.{Objects}
use Rattle.cml_report.specs.Schedule.{is_object, is_feed, declared_count, maker, positions_where}
use Rattle.cml_report.specs.Audit.{leads_to}

-- by object, who makes it
pub record AreMakers (script : Lines) (makers : List Who) : Type 0 where
  pub all : length makers ≡ declared_count script
  pub each : (k : ℕ) → k < length makers → slice_get makers k ≡ Some (maker script k)

-- by object, whether a lane line leads to it
pub record AreLaid (script : Lines) (laid : List Bool) : Type 0 where
  pub all : length laid ≡ declared_count script
  pub each : (k : ℕ) → option_map_or (λ t. t) (slice_get laid k) false ≡ list_any (leads_to script k) script.lanes

-- what is kept of the declared objects is so: who makes each, where it is declared, and so each feed, and to
-- which of them lanes lead
pub record AreObjects (script : Lines) (objects : Objects) : Type 0 where
  pub makers : AreMakers script objects.makers.items
  pub placed : objects.places.items ≡ positions_where (is_object script) 0 script.declarations
  pub fed : objects.feeds.items ≡ positions_where (is_feed script) 0 script.declarations
  pub laid : AreLaid script objects.laid.items
