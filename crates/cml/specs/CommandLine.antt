-- What the words of the command line ask for.
use Rattle.std.specs.Prelude.{◌≡◌, ◌⊎◌, ◌≤◌, ◌^◌, ℕ, Bool, true, false, List, [], ◌∷◌, ◌++◌, Option, Some, None, Result, IfOk, drop, codes}
use Rattle.std.specs.Str.Parse.{IsNumeral, digits_value, without_leading_plus}
use Rattle.clap.specs.Words.{App, Kinds, Row, Rule, Shape, Text, FailsBy, fault_of, new_app, new_rule, one_of}
use Rattle.clap.specs.Words.{subcommand_of, with_rule, with_subcommand}
use Rattle.clap.specs.Simple.{on_top}
use Rattle.clap.specs.declared.error.Error.{Error}
use Rattle.clap.specs.declared.builder.value_parser.ValueParser.TheVariants as parser
use Rattle.clap.specs.declared.builder.action.ArgAction.TheVariants.{SetTrue}
use Rattle.cml_report.specs.{Form}
use Rattle.cml_report.specs.declared.form.Form.TheVariants.{Report, Journal}
use Rattle.cml.specs.declared.asked.Order.{Order}
use Rattle.cml.specs.declared.asked.Order.TheVariants as order

-- the words after the program's name
abbrev pub asked_of : List Text → List Text
asked_of words = drop 1 words

-- the option of this name, as two words or as one, with this text for its number
abbrev pub IsLimitOption : Text → List Text → Text → Type 0
IsLimitOption name words text = (words ≡ (codes "--" ++ name) ∷ text ∷ [])
    ⊎ (words ≡ (codes "--" ++ (name ++ (codes "=" ++ text))) ∷ [])

-- the text is read as this number: decimal digits, which a plus may precede
abbrev pub ReadsAs : Text → ℕ → Type 0
ReadsAs text number = IsNumeral 10 (without_leading_plus text)
    × (number ≡ digits_value 10 (without_leading_plus text))

-- one option of a subcommand: its limit, or its flag
pub data Use : Type 0 where
  Limit : ℕ → Use
  Flag : Use

-- the words of one option, where the subcommand has a limit of this name, and this flag
abbrev pub AreOfUse : Text → Text → Use → List Text → Type 0
AreOfUse name flag (Limit limit) words =
    (text : Text) × IsLimitOption name words text × ReadsAs text limit × (1 ≤ limit) × (limit ≤ 2 ^ 32)
AreOfUse name flag Flag words = words ≡ flag ∷ []

-- the words of these options, one after another, with or without the `--` that ends them
abbrev pub AreUses : Text → Text → List Use → List Text → Type 0
AreUses name flag [] words = (words ≡ []) ⊎ (words ≡ codes "--" ∷ [])
AreUses name flag (one ∷ more) words = (first : List Text) × (rest : List Text) × (words ≡ first ++ rest)
    × AreOfUse name flag one first × AreUses name flag more rest

-- the limit and the form that the options of a script's subcommand give: each option at most once, in any order. Without the limit's
-- option it is this default
abbrev pub given_by : ℕ → List Use → Option (ℕ × Form)
given_by default [] = Some (default, Report)
given_by default (Limit limit ∷ []) = Some (limit, Report)
given_by default (Flag ∷ []) = Some (default, Journal)
given_by default (Limit limit ∷ Flag ∷ []) = Some (limit, Journal)
given_by default (Flag ∷ Limit limit ∷ []) = Some (limit, Journal)
given_by default _ = None

-- whether the options of `check` ask for the state
abbrev pub state_by : List Use → Option Bool
state_by [] = Some false
state_by (Flag ∷ []) = Some true
state_by _ = None

-- this subcommand, which has a limit of this name, and this flag, with options that are so
pub record Asks (subcommand name flag : Text) (Are : List Use → Type 0) (words : List Text) : Type 0 where
  pub uses : List Use
  pub rest : List Text
  pub gives : Are uses
  pub reads : AreUses name flag uses rest
  pub are : asked_of words ≡ subcommand ∷ rest

-- the words ask to replay
abbrev pub AsksReplay : List Text → ℕ → Form → Type 0
AsksReplay words limit form =
    Asks (codes "replay") (codes "limit") (codes "--journal") (λ uses. given_by 65536 uses ≡ Some (limit, form)) words

-- the words ask to run
abbrev pub AsksRun : List Text → ℕ → Form → Type 0
AsksRun words limit form =
    Asks (codes "run") (codes "limit") (codes "--journal") (λ uses. given_by 65536 uses ≡ Some (limit, form)) words

-- the words ask to explore at most this many states
abbrev pub AsksExplore : List Text → ℕ → Form → Type 0
AsksExplore words states form =
    Asks (codes "explore") (codes "states") (codes "--journal") (λ uses. given_by 500000 uses ≡ Some (states, form)) words

-- the words ask to check a journal. There is no limit
abbrev pub AsksCheck : List Text → Bool → Type 0
AsksCheck words state = Asks (codes "check") [] (codes "--state") (λ uses. state_by uses ≡ Some state) words

-- the words ask to compact a journal. There is no option
abbrev pub AsksCompact : List Text → Type 0
AsksCompact words = (rest : List Text) × (asked_of words ≡ codes "compact" ∷ rest) × AreUses [] [] [] rest

-- the words ask for this order
abbrev pub AsksFor : List Text → Order → Type 0
AsksFor words (order.Replay limit form) = AsksReplay words limit form
AsksFor words (order.Run limit form) = AsksRun words limit form
AsksFor words (order.Explore states form) = AsksExplore words states form
AsksFor words (order.Check state) = AsksCheck words state
AsksFor words order.Compact = AsksCompact words

-- how many entries the journal of an order takes, or how many states are kept
abbrev pub limit_of : Order → Option ℕ
limit_of (order.Replay limit form) = Some limit
limit_of (order.Run limit form) = Some limit
limit_of (order.Explore states form) = Some states
limit_of (order.Check state) = None
limit_of order.Compact = None

-- the long or the short word for help
abbrev pub IsHelp : Text → Type 0
IsHelp word = (word ≡ codes "--help") ⊎ (word ≡ codes "-h")

-- help on the program or on one of its subcommands
abbrev pub AsksHelp : List Text → Type 0
AsksHelp words = (help : Text) × IsHelp help
    × ((asked_of words ≡ help ∷ [])
    ⊎ ((asked_of words ≡ codes "replay" ∷ help ∷ [])
    ⊎ ((asked_of words ≡ codes "run" ∷ help ∷ [])
    ⊎ ((asked_of words ≡ codes "explore" ∷ help ∷ [])
    ⊎ ((asked_of words ≡ codes "check" ∷ help ∷ [])
    ⊎ (asked_of words ≡ codes "compact" ∷ help ∷ []))))))

-- the option of this name, a number from 1 to 2^32, and this default where the words have none
abbrev pub limit_rule : Text → Text → Rule
limit_rule name default = record (new_rule name) {
  long = Some name;
  value_names = 1;
  parser = Some (parser.Unsigned 1 4294967296);
  defaults = default ∷ [];
}

-- an option of this name without a value
abbrev pub flag_rule : Text → Rule
flag_rule name = record (new_rule name) { long = Some name; action = Some SetTrue }

-- the subcommand of this name, whose options are the limit of this name, with this default, and `--journal`
abbrev pub script_shape : Text → Text → Text → Shape
script_shape name limit default = (with_rule (with_rule (new_app name) (limit_rule limit default)) (flag_rule (codes "journal"))).top

-- the subcommand of this name, which performs a script
abbrev pub performing : Text → Shape
performing name = script_shape name (codes "limit") (codes "65536")

-- the subcommand of this name, which explores a script
abbrev pub exploring : Text → Shape
exploring name = script_shape name (codes "states") (codes "500000")

-- the subcommand whose one option is `--state`
abbrev pub checking : Shape
checking = (with_rule (new_app (codes "check")) (flag_rule (codes "state"))).top

-- the subcommand without options
abbrev pub compacting : Shape
compacting = (new_app (codes "compact")).top

-- the program, one of whose subcommands is required
abbrev pub usage : App
usage = with_subcommand
    (with_subcommand
    (with_subcommand
    (with_subcommand
    (with_subcommand
    (on_top (λ top. record top { subcommand_required = true; arg_required_else_help = true })
    (new_app (codes "cml")))
    (performing (codes "replay")))
    (performing (codes "run")))
    (exploring (codes "explore")))
    checking)
    compacting

-- what was found of each option gives the option of this name this number
abbrev pub FindsLimit : (Text → Option Text) → Text → ℕ → Type 0
FindsLimit found name limit = (text : Text) × ReadsAs text limit × (1 ≤ limit) × (limit ≤ 2 ^ 32) × (found name ≡ Some text)

-- .. and sets this flag or not
abbrev pub FindsFlag : (Text → Option Text) → Text → Bool → Type 0
FindsFlag found name true = found name ≡ Some (codes "true")
FindsFlag found name false = found name ≡ Some (codes "false")

-- the form, where the flag is set or not
abbrev pub form_if : Bool → Form
form_if true = Journal
form_if false = Report

-- .. and gives this limit and form
abbrev pub FindsBoth : (Text → Option Text) → Text → ℕ × Form → Type 0
FindsBoth found name both =
    FindsLimit found name both.0 × (set : Bool) × FindsFlag found (codes "journal") set × (both.1 ≡ form_if set)

-- the parse entered the subcommand of this name, and found the options of this order there
abbrev pub Finds : Text → (Text → Option Text) → Order → Type 0
Finds name found (order.Replay limit form) = (name ≡ codes "replay") × FindsBoth found (codes "limit") (limit, form)
Finds name found (order.Run limit form) = (name ≡ codes "run") × FindsBoth found (codes "limit") (limit, form)
Finds name found (order.Explore states form) = (name ≡ codes "explore") × FindsBoth found (codes "states") (states, form)
Finds name found (order.Check state) = (name ≡ codes "check") × FindsFlag found (codes "state") state
Finds name found order.Compact = name ≡ codes "compact"

-- the parse found this order
abbrev pub HasOrder : Option (Text × List Row) → Order → Type 0
HasOrder None order = ⊥
HasOrder (Some entered) order = Finds entered.0 (λ name. one_of name entered.1) order

-- the kinds of error that the words may give; none where they are understood
abbrev pub faults_of : List Text → Kinds
faults_of words = fault_of usage words

-- a parse fails as the words' faults say, and what is read of it is the order that it found
abbrev pub Reads : List Text → Result Order Error → Type 0
Reads words read = FailsBy (faults_of words) read
    × IfOk read (λ order. (asked : Order) → HasOrder (subcommand_of usage words) asked → order ≡ asked)
