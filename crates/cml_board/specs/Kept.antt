-- What is kept of the messages of a mailbox or a channel.
use Rattle.std.specs.Prelude.{ℕ, zero, suc, ◌==◌, ◌-◌, ◌*◌, ◌/◌, Bool, false, ◌&&◌, min, List, length, Option, Some, if◌then◌else◌}
use Rattle.cml_board.specs.declared.entry.Entry.{Entry}
use Rattle.cml_board.specs.Origins.{Origin, mailbox, port}
use Rattle.cml_board.specs.History.{made, origin_of, is_open, sent, place}

-- a mailbox reads its own messages, and an open port those of its channel
abbrev pub reads_by : ℕ → Option Origin → Bool → ℕ → Bool
reads_by object (Some mailbox) opened source = object == source
reads_by object (Some (port from start)) opened source = opened && from == source
reads_by object origin opened source = false

module _ {M : Type 0} where
  abbrev pub reads : List (Entry M) → ℕ → ℕ → Bool
  reads history source object = reads_by object (origin_of history object) (is_open history object) source

  -- the least place of those of the first n objects that read them, or their end where none does
  abbrev pub least_of : List (Entry M) → ℕ → ℕ → ℕ
  least_of history source zero = length (sent history source)
  least_of history source (suc n) =
      if reads history source n then min (place history n) (least_of history source n) else least_of history source n

  abbrev pub least_place : List (Entry M) → ℕ → ℕ
  least_place history source = least_of history source (length (made history))

  -- kept is what lies from the start of the least place's chunk on
  abbrev pub kept_from : ℕ → List (Entry M) → ℕ → ℕ
  kept_from chunk history source = chunk * (least_place history source / chunk)

  abbrev pub kept_size : ℕ → List (Entry M) → ℕ → ℕ
  kept_size chunk history source = length (sent history source) - kept_from chunk history source
