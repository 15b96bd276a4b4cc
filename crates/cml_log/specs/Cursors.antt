-- Where cursors are, each under its key.
use Rattle.std.specs.Prelude.{List, [], ◌∷◌, Option}
use Rattle.cml_log.specs.declared.cursors.Cursor.{Cursor}
use Rattle.cml_log.specs.declared.cursors.Kept.{Kept}
use Rattle.cml_log.specs.declared.cursors.Kept.TheVariants.{One, Many}

-- the cursor or nothing under each key from 0 on
abbrev pub slots_of : Kept → List (Option Cursor)
slots_of (One sole) = sole ∷ []
slots_of (Many slab) = slab.slots
