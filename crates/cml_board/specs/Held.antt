-- What a variable holds.
use Rattle.std.specs.Prelude.{ℕ, ◌==◌, List, [], ◌∷◌, Option, Some, None, unwrap_or, if◌then◌else◌}
use Rattle.cml_board.specs.declared.call.Name.{Name}
use Rattle.cml_board.specs.declared.call.Call.{Call}
use Rattle.cml_board.specs.declared.call.Call.TheVariants.{MVarInit, Put, Take, TakePoll, Swap}
use Rattle.cml_board.specs.declared.entry.Reply.{Reply}
use Rattle.cml_board.specs.declared.entry.Reply.TheVariants.{Done, Made, Got}
use Rattle.cml_board.specs.declared.entry.Entry.{Entry}

-- something for the object of this name, and nothing for each other
abbrev pub only_at : {X : Type 0} → Name → ℕ → X → Option X
only_at name object x = if name.0 == object then Some x else None

module _ {M : Type 0} where
  -- what an entry leaves in a variable, a message or nothing; none where it doesn't change the variable
  abbrev pub left_by : Call M → Reply M → ℕ → Option (Option M)
  left_by (MVarInit message) (Made name) object = only_at name object (Some message)
  left_by (Put name message) Done object = only_at name object (Some message)
  left_by (Swap name message) (Got old) object = only_at name object (Some message)
  left_by (Take name) (Got message) object = only_at name object None
  left_by (TakePoll name) (Got message) object = only_at name object None
  left_by call reply object = None

  -- what a variable holds: what the last entry left that changed it
  abbrev pub held : List (Entry M) → ℕ → Option M
  held [] object = None
  held (entry ∷ before) object = unwrap_or (left_by entry.call entry.reply object) (held before object)
