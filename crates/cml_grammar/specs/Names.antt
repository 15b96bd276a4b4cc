-- Names and numbers, and the list of the names given.
use Rattle.std.specs.Prelude.{ℕ, ◌==◌, ◌^◌, Bool, false, not, ◌&&◌, ◌||◌, nat_lt, nat_le, List, [], ◌∷◌, length, slice_get}
use Rattle.std.specs.Prelude.{is_some, Option, Some, None, position, count_by, codes}
use Rattle.std.specs.Option.{option_map, option_and_then}
use Rattle.std.specs.List.{list_any, list_all}
use Rattle.std.specs.Str.{bytes_eq, all_ascii_digits}
use Rattle.std.specs.Str.Parse.{digits_value}
use Rattle.cml_calls.specs.{Kind}
use Rattle.cml_calls.specs.declared.kind.Kind.TheVariants as kind
use Rattle.cml_grammar.specs.declared.names.Named.{Named}
use Rattle.cml_grammar.specs.declared.names.Named.TheVariants.{Thread, Mailbox, Channel, Port, IVar, MVar, Feed}

abbrev pub is_letter : ℕ → Bool
is_letter b = (nat_le 65 b && nat_le b 90) || (nat_le 97 b && nat_le b 122)

abbrev pub is_digit : ℕ → Bool
is_digit b = nat_le 48 b && nat_le b 57

abbrev pub is_name_byte : ℕ → Bool
is_name_byte b = is_letter b || is_digit b || b == 95

-- the words that are no names
abbrev pub reserved : List (List ℕ)
reserved = codes "cml" ∷ codes "mailbox" ∷ codes "channel" ∷ codes "port" ∷ codes "ivar" ∷ codes "mvar" ∷ codes "thread"
    ∷ codes "lane" ∷ codes "feed" ∷ []

abbrev pub is_reserved : List ℕ → Bool
is_reserved word = list_any (λ other. bytes_eq word other) reserved

-- a name is a letter and then letters, digits and `_`, 1 to 32 bytes in all, and no reserved word
abbrev pub is_name : List ℕ → Bool
is_name [] = false
is_name (b ∷ bs) = is_letter b && list_all is_name_byte bs && nat_le (length bs) 31 && not (is_reserved (b ∷ bs))

-- a number is `0`, or digits that don't begin with 0, and is below 2 ^ 64
abbrev pub is_number : List ℕ → Bool
is_number [] = false
is_number (b ∷ bs) = all_ascii_digits (b ∷ bs) && (not (b == 48) || length bs == 0) && nat_lt (digits_value 10 (b ∷ bs)) (2 ^ 64)

-- a capacity is a number from 1 to 1,024
abbrev pub is_capacity : List ℕ → Bool
is_capacity word = is_number word && nat_le 1 (digits_value 10 word) && nat_le (digits_value 10 word) 1024

-- a name that was given, and what it names
abbrev pub Given : Type 0
Given = List ℕ × Named

abbrev pub is_called : List ℕ → Given → Bool
is_called word given = bytes_eq word given.0

-- a name's position among those given so far
abbrev pub position_of : List Given → List ℕ → Option ℕ
position_of names word = position (is_called word) names

abbrev pub is_given : List Given → List ℕ → Bool
is_given names word = is_some (position_of names word)

-- what a name names
abbrev pub named : List Given → List ℕ → Option Named
named names word = option_and_then (λ i. option_map (λ g. g.1) (slice_get names i)) (position_of names word)

-- the kind of object that is named: none for a thread, and for a feed
abbrev pub kind_of_named : Named → Option Kind
kind_of_named (Thread seat) = None
kind_of_named Mailbox = Some kind.Mailbox
kind_of_named Channel = Some kind.Channel
kind_of_named (Port whose) = Some kind.Port
kind_of_named IVar = Some kind.IVar
kind_of_named MVar = Some kind.MVar
kind_of_named (Feed owner) = None

-- .. and with a feed for its port
abbrev pub kind_named : Named → Option Kind
kind_named (Feed owner) = Some kind.Port
kind_named named = kind_of_named named

abbrev pub seat_in : Named → Option ℕ
seat_in (Thread seat) = Some seat
seat_in _ = None

-- the seat of the thread with this name
abbrev pub seat_of : List Given → List ℕ → Option ℕ
seat_of names word = option_and_then seat_in (named names word)

-- how many threads have been declared
abbrev pub thread_count : List Given → ℕ
thread_count names = count_by (λ g. is_some (seat_in g.1)) names
