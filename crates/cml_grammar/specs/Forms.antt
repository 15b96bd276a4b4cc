-- The lines of a script: which words a declaration and a step have, and what is allowed in each word's place.
use Rattle.std.specs.Prelude.{ℕ, ◌+◌, ◌==◌, Bool, true, false, not, ◌&&◌, List, [], ◌∷◌, length, Option, Some, None, if◌then◌else◌, codes}
use Rattle.std.specs.Option.{option_map, option_map_or, option_or}
use Rattle.std.specs.List.{find, zip}
use Rattle.std.specs.Str.{bytes_eq}
use Rattle.cml_calls.specs.declared.shape.Takers.TheVariants.{Channels}
use Rattle.cml_calls.specs.{Ask, is_source, is_receiver, admits, given, asked, names_one, give_of, ask_of}
use Rattle.cml_calls.specs.declared.table.Ask.TheVariants.{Poll}
use Rattle.cml_grammar.specs.declared.names.Named.{Named}
use Rattle.cml_grammar.specs.declared.names.Named.TheVariants as called
use Rattle.cml_grammar.specs.declared.names.Users.TheVariants as users
use Rattle.cml_grammar.specs.declared.forms.Declares.{Declares}
use Rattle.cml_grammar.specs.declared.forms.Declares.TheVariants as declares
use Rattle.cml_grammar.specs.declared.forms.Verb.{Verb}
use Rattle.cml_grammar.specs.declared.forms.Verb.TheVariants as verb
use Rattle.cml_grammar.specs.declared.forms.Place.{Place}
use Rattle.cml_grammar.specs.declared.forms.Place.TheVariants.{Fresh, Thread, Object, Target, Polled, Message, Capacity}
use Rattle.cml_grammar.specs.Names.{Given, kind_of_named, kind_named, seat_of}

-- the first word of a declaration that gives a name
abbrev pub declares_of : List ℕ → Option Declares
declares_of word =
    if bytes_eq word (codes "mailbox") then Some declares.Mailbox
    else if bytes_eq word (codes "channel") then Some declares.Channel
    else if bytes_eq word (codes "port") then Some declares.Port
    else if bytes_eq word (codes "ivar") then Some declares.IVar
    else if bytes_eq word (codes "mvar") then Some declares.MVar
    else if bytes_eq word (codes "thread") then Some declares.Thread
    else if bytes_eq word (codes "feed") then Some declares.Feed
    else None

-- the places after it: an m-variable has its name alone, or, if there are two words, its name and its first message
abbrev pub declared_places : Declares → List (List ℕ) → List Place
declared_places declares.Mailbox rest = Fresh ∷ []
declared_places declares.Channel rest = Fresh ∷ []
declared_places declares.Port rest = Object Channels ∷ Fresh ∷ []
declared_places declares.IVar rest = Fresh ∷ []
declared_places declares.MVar rest = if length rest == 2 then Fresh ∷ Message ∷ [] else Fresh ∷ []
declared_places declares.Thread rest = Fresh ∷ []
declared_places declares.Feed rest = Thread ∷ Fresh ∷ Object Channels ∷ Capacity ∷ []

-- the first word of a lane line, which gives no name
abbrev pub is_lane_word : List ℕ → Bool
is_lane_word word = bytes_eq word (codes "lane")

-- the places after it
abbrev pub lane_places : List Place
lane_places = Thread ∷ Target ∷ Capacity ∷ []

-- a step's second word: a call of the table that is made on an object
abbrev pub verb_of : List ℕ → Option Verb
verb_of word = option_or (option_map verb.Give (give_of word)) (option_map verb.Ask (ask_of word))

abbrev pub is_poll : Ask → Bool
is_poll Poll = true
is_poll call = false

-- what is allowed as the object of a call without a message: a feed can be polled as well
abbrev pub asked_place : Ask → Place
asked_place call = if is_poll call then Polled else Object (asked call).takers

-- the places after it: the object, and then the message, or the name that a new port is given
abbrev pub step_places : Verb → List Place
step_places (verb.Give call) = Object (given call).takers ∷ Message ∷ []
step_places (verb.Ask call) = asked_place call ∷ (if names_one (asked call) then Fresh ∷ [] else [])

-- what kind of line it is, with the words that are left
pub data Form : Type 0 where
  unknown : Form
  declaration : Declares → List (List ℕ) → Form
  lane : List (List ℕ) → Form
  no_step : ℕ → Form
  step : ℕ → Verb → List (List ℕ) → Form

abbrev pub step_form : ℕ → List (List ℕ) → Form
step_form seat [] = no_step seat
step_form seat (word ∷ rest) = option_map_or (λ v. step seat v rest) (verb_of word) (no_step seat)

-- the first word is a declaration's or a lane line's, or a thread that was declared
abbrev pub form_of : List Given → List (List ℕ) → Form
form_of names [] = unknown
form_of names (word ∷ rest) =
    option_map_or (λ d. declaration d rest) (declares_of word)
    (if is_lane_word word then lane rest
    else option_map_or (λ seat. step_form seat rest) (seat_of names word) unknown)

abbrev pub places_of : Form → List Place
places_of unknown = []
places_of (declaration d rest) = declared_places d rest
places_of (lane rest) = lane_places
places_of (no_step seat) = []
places_of (step seat v rest) = step_places v

abbrev pub rest_of : Form → List (List ℕ)
rest_of unknown = []
rest_of (declaration d rest) = rest
rest_of (lane rest) = rest
rest_of (no_step seat) = []
rest_of (step seat v rest) = rest

-- the seat of the thread whose step it is, and 0 for the other lines
abbrev pub seat_of_form : Form → ℕ
seat_of_form (no_step seat) = seat
seat_of_form (step seat v rest) = seat
seat_of_form _ = 0

-- whether a place is a name's, is for a name that the line gives, or for one that it uses
abbrev pub is_name_place : Place → Bool
is_name_place Message = false
is_name_place Capacity = false
is_name_place _ = true

abbrev pub is_fresh : Place → Bool
is_fresh Fresh = true
is_fresh _ = false

abbrev pub is_used : Place → Bool
is_used place = is_name_place place && not (is_fresh place)

-- whether what is named suits a place
abbrev pub suits : Place → Named → Bool
suits Thread (called.Thread seat) = true
suits (Object takers) named = option_map_or (admits takers) (kind_of_named named) false
suits Target named = option_map_or is_source (kind_of_named named) false
suits Polled named = option_map_or is_receiver (kind_named named) false
suits _ _ = false

-- whether what is named is a port or a feed of another seat
abbrev pub is_others : ℕ → Named → Bool
is_others seat (called.Port (users.One owner)) = not (owner == seat)
is_others seat (called.Feed owner) = not (owner == seat)
is_others seat _ = false

-- the word in the place of a name that the line gives
abbrev pub fresh_word : List Place → List (List ℕ) → Option (List ℕ)
fresh_word places words = option_map (λ p. p.1) (find (λ p. is_fresh p.0) (zip places words))

-- the seat of the thread that is first in the rest of a feed's line, and 0 if none is
abbrev pub owner_of : List Given → List (List ℕ) → ℕ
owner_of names [] = 0
owner_of names (thread ∷ rest) = option_map_or (λ seat. seat) (seat_of names thread) 0

-- what a declaration's name names, where this many threads were declared before; a feed's is the owner's
abbrev pub named_by : Declares → ℕ → ℕ → Named
named_by declares.Mailbox threads owner = called.Mailbox
named_by declares.Channel threads owner = called.Channel
named_by declares.Port threads owner = called.Port users.Every
named_by declares.IVar threads owner = called.IVar
named_by declares.MVar threads owner = called.MVar
named_by declares.Thread threads owner = called.Thread (threads + 1)
named_by declares.Feed threads owner = called.Feed owner
