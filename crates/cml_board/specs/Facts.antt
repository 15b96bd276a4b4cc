-- All that a history tells of one object.
use Rattle.std.specs.Prelude.{ℕ, ◌+◌, Bool, true, List, [], length, Option, Some}
use Rattle.cml_board.specs.declared.entry.Entry.{Entry}
use Rattle.cml_board.specs.Origins.{Origin, start_by}
use Rattle.cml_board.specs.Held.{held}
use Rattle.cml_board.specs.History.{origin_of, is_open, sent, got}

pub record Facts (M : Type 0) : Type 0 where
  pub origin : Option Origin
  pub opened : Bool
  pub sent : List M
  pub got : List M
  pub held : Option M

module _ {M : Type 0} where
  abbrev pub facts_of : List (Entry M) → ℕ → Facts M
  facts_of history object = record {
    origin = origin_of history object;
    opened = is_open history object;
    sent = sent history object;
    got = got history object;
    held = held history object;
  }

  -- those of an object that was just made
  abbrev pub new_facts : Origin → Option M → Facts M
  new_facts origin held = record { origin = Some origin; opened = true; sent = []; got = []; held = held }

  -- its place in the list that it receives from
  abbrev pub place_by : Facts M → ℕ
  place_by facts = start_by facts.origin + length facts.got
