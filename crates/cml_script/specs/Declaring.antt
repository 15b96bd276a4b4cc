-- The inside of `declare`: how it makes what one declaration says.
use Rattle.std.specs.Prelude.{ℕ, ◌≡◌, Option, Some, ⊤, List}
use Rattle.std.specs.Option.{option_map}
use Rattle.cml_board.specs.{Name, Call, Reply}
use Rattle.cml_grammar.specs.{Lines, Makes, IsCapacity}
use Rattle.cml_grammar.specs.declared.forms.Makes.TheVariants as makes
use Rattle.cml_report.specs.Schedule.{number_of, making_call}
use Rattle.cml_script.specs.Working.{Made, with_call, with_feed}

-- the call that makes this, where each declared object has the number of its declaration among them
abbrev pub making : Lines → Makes → Option (Call (List ℕ))
making script makes = making_call (λ at. Some (number_of script at)) makes

-- a feed has room for 1 to 1,024 messages
abbrev pub HasCapacity : Makes → Type 0
HasCapacity (makes.Feed feed) = IsCapacity feed.capacity
HasCapacity m = ⊤

-- what a caller made later has this besides: nothing for a thread, a feed with its port, or what its seat was answered
abbrev pub HasMade : Lines → Makes → Option Made → Option Made → Type 0
HasMade script makes.Thread before after = after ≡ before
HasMade script (makes.Feed feed) before after = (port : Name)
    × (after ≡ option_map (with_feed (record { 0 = number_of script feed.channel }) feed.capacity port) before)
HasMade script m before after = (asked : Call (List ℕ)) × (answered : Reply (List ℕ)) × (making script m ≡ Some asked)
    × (after ≡ option_map (with_call asked answered) before)
