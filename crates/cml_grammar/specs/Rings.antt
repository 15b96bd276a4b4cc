-- What the lane lines of a script say, and which line is the first that needs a ring.
use Rattle.std.specs.Prelude.{ℕ, Bool, true, false, min, List, [], ◌∷◌, slice_get, Option, Some, None, if◌then◌else◌}
use Rattle.std.specs.Option.{option_map, option_map_or}
use Rattle.std.specs.List.{find}
use Rattle.std.specs.Str.Parse.{digits_value}
use Rattle.cml_grammar.specs.declared.forms.Declares.{Declares}
use Rattle.cml_grammar.specs.declared.forms.Declares.TheVariants as declares
use Rattle.cml_grammar.specs.declared.forms.Makes.{Makes}
use Rattle.cml_grammar.specs.declared.forms.Makes.TheVariants as makes
use Rattle.cml_grammar.specs.Names.{Given}
use Rattle.cml_grammar.specs.Forms.{declares_of}
use Rattle.cml_grammar.specs.Faults.{Ends, ends_by, are_same}
use Rattle.cml_grammar.specs.Script.{SourceLine, Lines}

-- the ends of a lane, and its capacity
abbrev pub Laid : Type 0
Laid = Ends × ℕ

-- what the words after `lane` say
abbrev pub lane_by : List Given → List (List ℕ) → Option Laid
lane_by names (thread ∷ target ∷ capacity ∷ []) =
    option_map (λ ends. (ends, digits_value 10 capacity)) (ends_by names (thread ∷ target ∷ []))
lane_by names _ = None

abbrev pub lane_of : List Given → List (List ℕ) → Option Laid
lane_of names [] = None
lane_of names (word ∷ rest) = lane_by names rest

-- the capacity that the first lane line for these ends says
abbrev pub capacity_of : List Given → List SourceLine → Ends → Option ℕ
capacity_of names [] ends = None
capacity_of names (line ∷ lines) ends =
    let later = capacity_of names lines ends in
    option_map_or (λ laid. if are_same ends laid.0 then Some laid.1 else later) (lane_of names line.words) later

-- whether a line declares a feed
abbrev pub is_feed : Declares → Bool
is_feed declares.Feed = true
is_feed _ = false

abbrev pub declares_feed : List (List ℕ) → Bool
declares_feed [] = false
declares_feed (word ∷ rest) = option_map_or is_feed (declares_of word) false

-- and whether what it makes is one
abbrev pub makes_feed : Makes → Bool
makes_feed (makes.Feed f) = true
makes_feed _ = false

-- the numbers of the first lane line, and of the first feed's
abbrev pub first_lane : Lines → Option ℕ
first_lane script = option_map (λ line. line.number) (slice_get script.lanes 0)

abbrev pub first_feed : Lines → Option ℕ
first_feed script = option_map (λ line. line.number) (find (λ line. declares_feed line.words) script.declarations)

-- the lesser of two numbers, where both are there
abbrev pub lesser : Option ℕ → Option ℕ → Option ℕ
lesser None other = other
lesser (Some n) None = Some n
lesser (Some n) (Some m) = Some (min n m)

-- the number of the first line of a script that declares a lane or a feed
abbrev pub first_ring : Lines → Option ℕ
first_ring script = lesser (first_lane script) (first_feed script)
