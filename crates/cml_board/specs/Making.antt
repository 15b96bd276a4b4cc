-- What a call that makes an object needs of a board, and what it adds.
use Rattle.std.specs.Prelude.{◌≡◌, true, List, [], ◌∷◌, ◌++◌, None, ⊤}
use Rattle.cml_log.specs.Log.{Log}
use Rattle.cml_log.specs.{empty_log, next_of, place_of}
use Rattle.cml_board.specs.declared.board.note.Making.{Making}
use Rattle.cml_board.specs.declared.board.note.Making.TheVariants as making
use Rattle.cml_board.specs.declared.object.Object.{Object}
use Rattle.cml_board.specs.declared.object.Object.TheVariants.{Channel, Variable}
use Rattle.cml_calls.specs.{is_channel, is_port}
use Rattle.cml_board.specs.Counts.{is_a}
use Rattle.cml_board.specs.Holdings.{HasLog, HasCursor, AddsMailbox, AddsPort}
use Rattle.cml_board.specs.Shown.{Shown}
use Rattle.cml_board.specs.Standing.{ReadsAt}

module _ {M : Type 0} where
  -- the object that it is made of fits it
  abbrev pub CanMake : Shown M → Making → Type 0
  CanMake board (making.Port channel) = is_a is_channel board.history channel.0 ≡ true
  CanMake board (making.Copy port channel key) = (is_a is_port board.history port.0 ≡ true) × ReadsAt board port.0 channel.0 key
  CanMake board _ = ⊤

  -- the log that it is made of, or the cursor in it, is there
  abbrev pub HasSource : List (Object M (Log M)) → Making → Type 0
  HasSource objects (making.Port channel) = HasLog objects channel.0
  HasSource objects (making.Copy port channel key) = HasCursor objects channel.0 key
  HasSource objects _ = ⊤

  -- it added just its object, at the end
  abbrev pub AddsMade : Making → List (Object M (Log M)) → List (Object M (Log M)) → Type 0
  AddsMade making.Mailbox old new = AddsMailbox old new
  AddsMade making.Channel old new = new ≡ old ++ Channel empty_log ∷ []
  AddsMade (making.Port channel) old new = AddsPort old new channel.0 next_of
  AddsMade (making.Copy port channel key) old new = AddsPort old new channel.0 (λ log. place_of log key)
  AddsMade (making.Variable form) old new = new ≡ old ++ Variable form None ∷ []
