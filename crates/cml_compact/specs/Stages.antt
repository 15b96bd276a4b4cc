-- What becomes of each object in a compaction: it is made again, then what is owed of it is sent again, and then it is settled. What a
-- port needs of its channel to begin at its place is sent before the port is made.
use Rattle.std.specs.Prelude.{ℕ, zero, suc, ◌+◌, ◌-◌, ◌==◌, nat_lt, min, Bool, true, false, ◌&&◌, List, [], length, take, drop}
use Rattle.std.specs.Prelude.{Option, Some, None, if◌then◌else◌}
use Rattle.std.specs.Option.{option_map}
use Rattle.cml_calls.specs.{is_mailbox, is_channel, is_port, is_variable}
use Rattle.cml_board.specs.{Entry, Origin, port, source_by, held, made, origin_of, is_open, owed, reads, is_a}
use Rattle.cml_board.specs.Facts.{Facts}

-- this is a port of this channel
abbrev pub is_port_by : Option Origin → ℕ → Bool
is_port_by (Some (port from start)) source = from == source
is_port_by origin source = false

-- how many calls close an object: one if it isn't open
abbrev pub closings : Bool → ℕ
closings true = 0
closings false = 1

module _ {M : Type 0} where
  -- the longer of two lists
  abbrev pub longer : List M → List M → List M
  longer xs ys = if nat_lt (length xs) (length ys) then ys else xs

  -- what an object is owed of the messages of this source
  abbrev pub owed_of : List (Entry M) → ℕ → ℕ → List M
  owed_of history source object = if reads history source object then owed history object else []

  -- the longest of the lists that the first n objects are owed of them
  abbrev pub longest_of : List (Entry M) → ℕ → ℕ → List M
  longest_of history source zero = []
  longest_of history source (suc n) = longer (longest_of history source n) (owed_of history source n)

  -- what is sent again: all that waits in a mailbox, and all that the slowest open port of a channel is owed
  abbrev pub stock : List (Entry M) → ℕ → List M
  stock history name =
      if is_a is_mailbox history name then owed history name
      else if is_a is_channel history name then longest_of history name (length (made history)) else []

  -- how many of them an object has passed; one that reads none of them has passed all
  abbrev pub passed_of : List (Entry M) → ℕ → ℕ → ℕ
  passed_of history source object = length (stock history source) - length (owed_of history source object)

  -- the fewest that one of the k objects from n on has passed
  abbrev pub fewest_passed : List (Entry M) → ℕ → ℕ → ℕ → ℕ
  fewest_passed history source n zero = length (stock history source)
  fewest_passed history source n (suc k) = min (passed_of history source n) (fewest_passed history source (suc n) k)

  -- how many are sent again before a port is made: no more than this port has passed, and no more than a port with a later name has
  abbrev pub begins_at : List (Entry M) → ℕ → ℕ → ℕ
  begins_at history source name = fewest_passed history source name (length (made history) - name)

  -- how many are sent again before the object n is made
  abbrev pub sent_before : List (Entry M) → ℕ → ℕ → ℕ
  sent_before history source zero = 0
  sent_before history source (suc n) =
      if is_port_by (origin_of history n) source then begins_at history source n else sent_before history source n

  -- an object as it is made again
  abbrev pub placed : List (Entry M) → ℕ → Origin → Origin
  placed history name (port source start) = port source (begins_at history source name)
  placed history name origin = origin

  -- what an open port receives, until it is owed what it was
  abbrev pub passed_over : List (Entry M) → ℕ → List M
  passed_over history name =
      let source = source_by name (origin_of history name) in
      let stream = stock history source in
      let begins = begins_at history source name in
      if is_a is_port history name && is_open history name
      then take (length stream - length (owed history name) - begins) (drop begins stream) else []

  -- the object was made, and nothing was done since but what is sent before the object n is made
  abbrev pub begun_before : List (Entry M) → ℕ → ℕ → Facts M
  begun_before history n name = record {
    origin = option_map (placed history name) (origin_of history name);
    opened = true;
    sent = take (sent_before history name n) (stock history name);
    got = [];
    held = None;
  }

  -- all objects were made
  abbrev pub begun_anew : List (Entry M) → ℕ → Facts M
  begun_anew history = begun_before history (length (made history))

  -- and what is sent again was sent
  abbrev pub stocked : List (Entry M) → ℕ → Facts M
  stocked history name = record (begun_anew history name) { sent = stock history name }

  -- it leaves what it left before
  abbrev pub settled : List (Entry M) → ℕ → Facts M
  settled history name = record {
    origin = option_map (placed history name) (origin_of history name);
    opened = is_open history name;
    sent = stock history name;
    got = passed_over history name;
    held = if is_a is_variable history name then held history name else None;
  }

  -- how many calls fill a variable: one if it holds something
  abbrev pub fillings : Option M → ℕ
  fillings None = 0
  fillings (Some message) = 1

  -- how many calls give an object these facts once it is made
  abbrev pub weight : Facts M → ℕ
  weight facts = length facts.sent + length facts.got + closings facts.opened + fillings facts.held

  -- how many make the first n objects and give them these facts
  abbrev pub weights : (ℕ → Facts M) → ℕ → ℕ
  weights facts zero = 0
  weights facts (suc n) = weights facts n + (1 + weight (facts n))
