-- What the lines of a script mean: which names it has, what a declaration makes and what a step asks for.
use Rattle.std.specs.Prelude.{ℕ, Bool, true, false, List, [], ◌∷◌, ◌++◌, Option, Some, None}
use Rattle.std.specs.Option.{option_map, option_and_then, option_to_list}
use Rattle.std.specs.Str.Parse.{digits_value}
use Rattle.cml_calls.specs.{Ask, asked, names_one}
use Rattle.cml_grammar.specs.declared.forms.Declares.{Declares}
use Rattle.cml_grammar.specs.declared.forms.Declares.TheVariants as declares
use Rattle.cml_grammar.specs.declared.forms.Verb.{Verb}
use Rattle.cml_grammar.specs.declared.forms.Verb.TheVariants as verb
use Rattle.cml_grammar.specs.declared.forms.Makes.{Makes}
use Rattle.cml_grammar.specs.declared.forms.Makes.TheVariants as makes
use Rattle.cml_grammar.specs.declared.forms.FeedMaking.{FeedMaking}
use Rattle.cml_grammar.specs.declared.forms.Action.{Action}
use Rattle.cml_grammar.specs.declared.forms.Action.TheVariants as action
use Rattle.cml_grammar.specs.Names.{Given, position_of, seat_of}
use Rattle.cml_grammar.specs.Forms.{declares_of, verb_of}
use Rattle.cml_grammar.specs.Faults.{Scope, Ends, start, ends_by, after_words}
use Rattle.cml_grammar.specs.Script.{SourceLine, Lines}

-- the scope after lines
abbrev pub scope_after : Scope → List SourceLine → Scope
scope_after scope [] = scope
scope_after scope (line ∷ lines) = scope_after (after_words scope line.words) lines

-- the ends that a lane line's words say, and those of all lane lines, among these names
abbrev pub ends_of : List Given → List (List ℕ) → Option Ends
ends_of names [] = None
ends_of names (word ∷ rest) = ends_by names rest

abbrev pub all_ends : List Given → List SourceLine → List Ends
all_ends names [] = []
all_ends names (line ∷ lines) = option_to_list (ends_of names line.words) ++ all_ends names lines

-- the scope after all lines of a script: only lane lines leave ends, and they leave nothing else
abbrev pub scope_of : Lines → Scope
scope_of script =
    let named = scope_after (start script.version) (script.declarations ++ script.steps) in
    record { version = script.version; names = named.names; started = named.started; lanes = all_ends named.names script.lanes }

-- all names of a script, in text order
abbrev pub names_of : Lines → List Given
names_of script = (scope_of script).names

-- what a feed's line says: its thread's seat, its channel by its position among the names, and its capacity
abbrev pub feed_by : List Given → List (List ℕ) → Option FeedMaking
feed_by names (thread ∷ name ∷ channel ∷ capacity ∷ []) =
    option_and_then (λ seat. option_map (λ at. record { seat = seat; channel = at; capacity = digits_value 10 capacity })
    (position_of names channel)) (seat_of names thread)
feed_by names _ = None

-- what a declaration of these words makes: a port's channel by its position among the names, an m-variable with its message
abbrev pub makes_by : List Given → Declares → List (List ℕ) → Option Makes
makes_by names declares.Mailbox rest = Some makes.Mailbox
makes_by names declares.Channel rest = Some makes.Channel
makes_by names declares.Port (channel ∷ rest) = option_map makes.Port (position_of names channel)
makes_by names declares.Port [] = None
makes_by names declares.IVar rest = Some makes.IVar
makes_by names declares.MVar (name ∷ message ∷ []) = Some (makes.MVarInit message)
makes_by names declares.MVar rest = Some makes.MVar
makes_by names declares.Thread rest = Some makes.Thread
makes_by names declares.Feed rest = option_map makes.Feed (feed_by names rest)

abbrev pub makes_of : List Given → List (List ℕ) → Option Makes
makes_of names [] = None
makes_of names (word ∷ rest) = option_and_then (λ d. makes_by names d rest) (declares_of word)

-- what a call without a message asks of the object at this position: after the object's name is the name that a new port is
-- given, or nothing
abbrev pub asked_by : Bool → Option ℕ → Ask → List (List ℕ) → Option Action
asked_by true at call (name ∷ []) = option_map (action.Ask call) at
asked_by false at call [] = option_map (action.Ask call) at
asked_by _ at call _ = None

-- what a step of these words asks for, its names by their positions among the script's
abbrev pub action_by : List Given → Verb → List (List ℕ) → Option Action
action_by names (verb.Give call) (object ∷ message ∷ []) = option_map (λ at. action.Give call at message) (position_of names object)
action_by names (verb.Ask call) (object ∷ rest) = asked_by (names_one (asked call)) (position_of names object) call rest
action_by names _ _ = None

abbrev pub action_of : List Given → List (List ℕ) → Option Action
action_of names (thread ∷ word ∷ rest) = option_and_then (λ v. action_by names v rest) (verb_of word)
action_of names (thread ∷ []) = None
action_of names [] = None

-- the seat of the thread that a step names first
abbrev pub seat_of_step : List Given → List (List ℕ) → Option ℕ
seat_of_step names [] = None
seat_of_step names (thread ∷ rest) = seat_of names thread
