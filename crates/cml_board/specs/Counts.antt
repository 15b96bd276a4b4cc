-- What a board's readers tell of an object; none where its kind has no such thing.
use Rattle.std.specs.Prelude.{ℕ, Bool, false, ◌&&◌, List, [], length, Option, Some, None, if◌then◌else◌}
use Rattle.std.specs.Option.{option_map_or}
use Rattle.cml_board.specs.declared.call.Name.{Name}
use Rattle.cml_calls.specs.{Kind, is_source, is_receiver, is_port, is_variable}
use Rattle.cml_board.specs.declared.entry.Entry.{Entry}
use Rattle.cml_board.specs.Origins.{Origin, port}
use Rattle.cml_board.specs.Held.{held}
use Rattle.cml_board.specs.History.{origin_of, kind_of, sent, got, owed, is_open}
use Rattle.cml_board.specs.Kept.{kept_from, kept_size}

abbrev pub only_if : {X : Type 0} → Bool → X → Option X
only_if test x = if test then Some x else None

abbrev pub channel_in : Option Origin → Option Name
channel_in (Some (port source start)) = Some (record { 0 = source })
channel_in origin = None

abbrev pub start_in : Option Origin → Option ℕ
start_in (Some (port source start)) = Some start
start_in origin = None

module _ {M : Type 0} where
  abbrev pub is_a : (Kind → Bool) → List (Entry M) → ℕ → Bool
  is_a test history object = option_map_or test (kind_of history object) false

  abbrev pub sent_count : List (Entry M) → ℕ → Option ℕ
  sent_count history object = only_if (is_a is_source history object) (length (sent history object))

  abbrev pub got_count : List (Entry M) → ℕ → Option ℕ
  got_count history object = only_if (is_a is_receiver history object) (length (got history object))

  -- a closed port is owed nothing, and has no such count
  abbrev pub owed_count : List (Entry M) → ℕ → Option ℕ
  owed_count history object = only_if (is_a is_receiver history object && is_open history object) (length (owed history object))

  -- what is owed to a mailbox or an open port, and nothing to anything else
  abbrev pub owed_to : List (Entry M) → ℕ → List M
  owed_to history object = if is_a is_receiver history object && is_open history object then owed history object else []

  abbrev pub channel_of : List (Entry M) → ℕ → Option Name
  channel_of history object = channel_in (origin_of history object)

  abbrev pub start_of : List (Entry M) → ℕ → Option ℕ
  start_of history object = start_in (origin_of history object)

  abbrev pub first_of : ℕ → List (Entry M) → ℕ → Option ℕ
  first_of chunk history object = only_if (is_a is_source history object) (kept_from chunk history object)

  abbrev pub kept_count : ℕ → List (Entry M) → ℕ → Option ℕ
  kept_count chunk history object = only_if (is_a is_source history object) (kept_size chunk history object)

  abbrev pub port_is_open : List (Entry M) → ℕ → Option Bool
  port_is_open history object = only_if (is_a is_port history object) (is_open history object)

  -- a message or nothing
  abbrev pub held_by : List (Entry M) → ℕ → Option (Option M)
  held_by history object = only_if (is_a is_variable history object) (held history object)
