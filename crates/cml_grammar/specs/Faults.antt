-- What is wrong with a line, and with a text: the first test of the table that holds, on the least line.
use Rattle.std.specs.Prelude.{ℕ, suc, ◌≡◌, ◌⊎◌, ◌==◌, Bool, true, false, not, ◌&&◌, ◌||◌, nat_lt, nat_le, List, [], ◌∷◌}
use Rattle.std.specs.Prelude.{◌++◌, length, Option, Some, None, if◌then◌else◌, codes}
use Rattle.std.specs.Option.{option_map, option_map_or, option_and_then, option_to_list}
use Rattle.std.specs.List.{list_any, zip}
use Rattle.std.specs.Str.{bytes_eq}
use Rattle.cml_grammar.specs.declared.names.Named.{Named}
use Rattle.cml_grammar.specs.declared.names.Named.TheVariants as called
use Rattle.cml_grammar.specs.declared.names.Users.TheVariants as users
use Rattle.cml_grammar.specs.declared.forms.Declares.TheVariants as declares
use Rattle.cml_grammar.specs.declared.forms.Place.{Place}
use Rattle.cml_grammar.specs.declared.forms.Place.TheVariants.{Message, Capacity}
use Rattle.cml_grammar.specs.declared.fault.What.{What}
use Rattle.cml_grammar.specs.declared.fault.What.TheVariants.{NoLineEnd, BadBytes, BadHeader, BadWords, UnknownLine, LateDeclaration}
use Rattle.cml_grammar.specs.declared.fault.What.TheVariants.{UnknownStep, WordCount, BadName, NameTaken, UnknownName, WrongKind, NotYours}
use Rattle.cml_grammar.specs.declared.fault.What.TheVariants.{BadNumber, BadText, LaneTaken, TooManyThreads, TooLong, Memory}
use Rattle.cml_grammar.specs.declared.fault.Fault.{Fault}
use Rattle.cml_calls.specs.{is_text}
use Rattle.cml_grammar.specs.Words.{parts_of, words_of, is_bad_byte, is_skipped, has_empty_word}
use Rattle.cml_grammar.specs.Names.{Given, is_name, is_number, is_capacity, position_of, is_given, named, seat_of, thread_count}
use Rattle.cml_grammar.specs.Forms.{Form, unknown, declaration, lane, no_step, step, form_of, places_of, rest_of, is_name_place, is_fresh}
use Rattle.cml_grammar.specs.Forms.{is_used, suits, fresh_word, owner_of, named_by, declared_places, seat_of_form, is_others, step_places}

-- what a lane lies between: a thread by its seat, and an object by its position among the names
abbrev pub Ends : Type 0
Ends = ℕ × ℕ

-- the version that a first line asks for
abbrev pub version_in : List ℕ → ℕ
version_in line = if bytes_eq line (codes "cml 2") then 2 else 1

abbrev pub first_version : List (List ℕ) → ℕ
first_version [] = 1
first_version (line ∷ lines) = version_in line

-- the version of a text
abbrev pub version_of : List ℕ → ℕ
version_of text = first_version (parts_of text)

-- what the lines so far leave: the version, the names given, whether a step was seen, and the ends of each lane
pub record Scope : Type 0 where
  pub version : ℕ
  pub names : List Given
  pub started : Bool
  pub lanes : List Ends

abbrev pub start : ℕ → Scope
start version = record { version = version; names = []; started = false; lanes = [] }

-- a line says something where it isn't the header and isn't skipped
abbrev pub says : ℕ → List ℕ → Bool
says k line = not (k == 1) && not (is_skipped line)

-- the tests of the table, in its order: of a line, of its form, and of each word in its place
abbrev pub is_bad_header : ℕ → List ℕ → Bool
is_bad_header k line = (k == 1) && not (bytes_eq line (codes "cml 1") || bytes_eq line (codes "cml 2"))

abbrev pub is_unknown : Form → Bool
is_unknown unknown = true
is_unknown _ = false

abbrev pub is_late : Bool → Form → Bool
is_late started (declaration d rest) = started
is_late started (lane rest) = started
is_late started _ = false

-- a declaration, whether it gives a name or not
abbrev pub is_declaring : Form → Bool
is_declaring (declaration d rest) = true
is_declaring (lane rest) = true
is_declaring _ = false

abbrev pub is_no_step : Form → Bool
is_no_step (no_step seat) = true
is_no_step _ = false

abbrev pub is_bad_name : Place → List ℕ → Bool
is_bad_name place word = is_name_place place && not (is_name word)

abbrev pub is_taken : List Given → Place → List ℕ → Bool
is_taken names place word = is_fresh place && is_given names word

abbrev pub is_unknown_name : List Given → Place → List ℕ → Bool
is_unknown_name names place word = is_used place && not (is_given names word)

abbrev pub is_wrong_kind : List Given → Place → List ℕ → Bool
is_wrong_kind names place word = is_used place && not (option_map_or (suits place) (named names word) false)

abbrev pub is_not_yours : List Given → ℕ → Place → List ℕ → Bool
is_not_yours names seat place word = is_used place && option_map_or (is_others seat) (named names word) false

-- a message of version 1 is a number, and a capacity is one in either version
abbrev pub is_bad_number : ℕ → Place → List ℕ → Bool
is_bad_number version Message word = not (version == 2) && not (is_number word)
is_bad_number version Capacity word = not (is_capacity word)
is_bad_number version _ word = false

-- a message of version 2 is a text
abbrev pub is_bad_text : ℕ → Place → List ℕ → Bool
is_bad_text version Message word = (version == 2) && not (is_text word)
is_bad_text version _ word = false

-- the ends that the words after `lane` say, where they name a thread and something
abbrev pub ends_by : List Given → List (List ℕ) → Option Ends
ends_by names (thread ∷ target ∷ rest) =
    option_and_then (λ seat. option_map (λ at. (seat, at)) (position_of names target)) (seat_of names thread)
ends_by names _ = None

abbrev pub are_same : Ends → Ends → Bool
are_same one other = (one.0 == other.0) && (one.1 == other.1)

abbrev pub is_lane_taken : List Given → List Ends → Form → Bool
is_lane_taken names lanes (lane rest) = option_map_or (λ ends. list_any (are_same ends) lanes) (ends_by names rest) false
is_lane_taken names lanes _ = false

abbrev pub declares_thread : Form → Bool
declares_thread (declaration declares.Thread rest) = true
declares_thread _ = false

-- some word in its place passes the test
abbrev pub any_word : (Place → List ℕ → Bool) → Form → Bool
any_word test form = list_any (λ p. test p.0 p.1) (zip (places_of form) (rest_of form))

-- the first that holds
abbrev pub first_of : List (Bool × What) → Option What
first_of [] = None
first_of (test ∷ tests) = if test.0 then Some test.1 else first_of tests

abbrev pub tests_of_form : Scope → Form → List (Bool × What)
tests_of_form scope form =
    (is_unknown form, UnknownLine)
    ∷ (is_late scope.started form, LateDeclaration)
    ∷ (is_no_step form, UnknownStep)
    ∷ (not (length (rest_of form) == length (places_of form)), WordCount)
    ∷ (any_word is_bad_name form, BadName)
    ∷ (any_word (is_taken scope.names) form, NameTaken)
    ∷ (any_word (is_unknown_name scope.names) form, UnknownName)
    ∷ (any_word (is_wrong_kind scope.names) form, WrongKind)
    ∷ (any_word (is_not_yours scope.names (seat_of_form form)) form, NotYours)
    ∷ (any_word (is_bad_number scope.version) form, BadNumber)
    ∷ (any_word (is_bad_text scope.version) form, BadText)
    ∷ (is_lane_taken scope.names scope.lanes form, LaneTaken)
    ∷ (declares_thread form && nat_le 64 (thread_count scope.names), TooManyThreads)
    ∷ []

abbrev pub fault_in_words : Scope → List (List ℕ) → Option What
fault_in_words scope words =
    if has_empty_word words then Some BadWords else first_of (tests_of_form scope (form_of scope.names words))

-- what is wrong with the line of number k
abbrev pub fault_in : Scope → ℕ → List ℕ → Option What
fault_in scope k line =
    if list_any is_bad_byte line then Some BadBytes
    else if is_bad_header k line then Some BadHeader
    else if says k line then fault_in_words scope (words_of line)
    else None

-- a name that is given, if one is
abbrev pub given_as : Named → Option (List ℕ) → List Given
given_as n word = option_to_list (option_map (λ w. (w, n)) word)

-- the names that a line gives
abbrev pub gives : List Given → Form → List Given
gives names unknown = []
gives names (declaration d rest) =
    given_as (named_by d (thread_count names) (owner_of names rest)) (fresh_word (declared_places d rest) rest)
gives names (lane rest) = []
gives names (no_step seat) = []
gives names (step seat v rest) = given_as (called.Port (users.One seat)) (fresh_word (step_places v) rest)

-- the ends of the lane that a line says, if it says one
abbrev pub lays : List Given → Form → List Ends
lays names (lane rest) = option_to_list (ends_by names rest)
lays names _ = []

abbrev pub is_step : Form → Bool
is_step (step seat v rest) = true
is_step _ = false

-- a declaration that gives a name
abbrev pub is_declaration : Form → Bool
is_declaration (declaration d rest) = true
is_declaration _ = false

abbrev pub is_lane : Form → Bool
is_lane (lane rest) = true
is_lane _ = false

-- the scope after a line of words
abbrev pub after_words : Scope → List (List ℕ) → Scope
after_words scope words =
    let form = form_of scope.names words in
    record {
      version = scope.version;
      names = scope.names ++ gives scope.names form;
      started = scope.started || is_step form;
      lanes = scope.lanes ++ lays scope.names form;
    }

-- the scope after the line of number k
abbrev pub after : Scope → ℕ → List ℕ → Scope
after scope k line = if says k line then after_words scope (words_of line) else scope

abbrev pub at_line : ℕ → What → Fault
at_line k what = record { line = k; what = what }

-- the fault at a line; want of memory concerns no line
abbrev pub fault_at : ℕ → What → Fault
fault_at k Memory = at_line 0 Memory
fault_at k what = at_line k what

-- the fault of the last part, which no line end follows: none if it is empty, unless the text has no line
abbrev pub fault_at_end : ℕ → List ℕ → Option Fault
fault_at_end k part =
    if not (length part == 0) then Some (at_line k NoLineEnd)
    else if k == 1 then Some (at_line k BadHeader)
    else None

-- the fault of the least line from number k on
abbrev pub fault_from : Scope → ℕ → List (List ℕ) → Option Fault
fault_from scope k [] = None
fault_from scope k (part ∷ []) = fault_at_end k part
fault_from scope k (line ∷ next ∷ more) =
    option_map_or (λ what. Some (at_line k what)) (fault_in scope k line) (fault_from (after scope k line) (suc k) (next ∷ more))

-- the fault of a text: too long before all, then the least line's
abbrev pub fault_of : List ℕ → Option Fault
fault_of text = if nat_lt 1048576 (length text) then Some (at_line 0 TooLong) else fault_from (start (version_of text)) 1 (parts_of text)

-- what went wrong with a line is what was found there, unless memory ran out
abbrev pub IsWhat : What → Option What → Type 0
IsWhat what found = (what ≡ Memory) ⊎ (found ≡ Some what)

-- the fault of a text, unless memory ran out
abbrev pub IsFaultOf : List ℕ → Fault → Type 0
IsFaultOf text fault = (fault ≡ at_line 0 Memory) ⊎ (fault_of text ≡ Some fault)
