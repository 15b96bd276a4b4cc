-- What the words of the command line ask for.
use Rattle.std.specs.Prelude.{ℕ, ◌≡◌, ◌<◌, ◌^◌, Bool, List, Option, None, Some, codes, option_map, true, false}
use Rattle.std.specs.Option.{SomeIff}
use Rattle.std.specs.Str.Parse.{IsNumeral, digits_value, without_leading_plus}
use Rattle.clap.specs.Words.{App, Kinds, Row, Rule, Text, fault_of, first_of, matches_of, new_app, new_rule, one_of, with_rule}
use Rattle.clap.specs.declared.builder.action.ArgAction.TheVariants.{SetTrue}
use Rattle.clap.specs.declared.builder.value_parser.ValueParser.TheVariants as parser
use Rattle.cml_chart.specs.declared.command_line.Order.{Order}

-- `--text`, which takes no value
abbrev pub text_rule : Rule
text_rule = record (new_rule (codes "text")) { long = Some (codes "text"); action = Some SetTrue }

-- an option of this name, whose value is a number from 1 to 2^32
abbrev pub numbered_rule : Text → Rule
numbered_rule name = record (new_rule name) {
  long = Some name;
  parser = Some (parser.Unsigned 1 4294967296);
  value_names = 1;
}

-- `--script`, whose value is any word
abbrev pub script_rule : Rule
script_rule = record (new_rule (codes "script")) {
  long = Some (codes "script");
  value_names = 1;
}

-- the program with its three options of how a report is to be drawn, and with all four
abbrev pub drawing_usage : App
drawing_usage =
    with_rule (with_rule (with_rule (new_app (codes "cml_chart")) text_rule) (numbered_rule (codes "from"))) (numbered_rule (codes "to"))

abbrev pub usage : App
usage = with_rule drawing_usage script_rule

-- the kinds of error that the words may give; none where they are understood
abbrev pub faults_of : List Text → Kinds
faults_of words = fault_of usage words

-- what is found of each option in words that are understood
abbrev pub options_in : List Text → List Row
options_in words = matches_of usage words

-- a flag is set just where it is found as set
pub record IsFlag (found : Option Text) (flag : Bool) : Type 0 where
  pub none : found ≡ None → flag ≡ false
  pub set : found ≡ Some (codes "true") → flag ≡ true
  pub unset : found ≡ Some (codes "false") → flag ≡ false

-- the text is a number: decimal digits below 2^64, which a plus may precede
abbrev pub TellsNumber : Text → Type 0
TellsNumber text = IsNumeral 10 (without_leading_plus text) × (digits_value 10 (without_leading_plus text) < 2 ^ 64)

-- the number of a row is what the option's text is, if that is a number
pub record IsRow (found : Option Text) (row : Option ℕ) : Type 0 where
  pub none : found ≡ None → row ≡ None
  pub told : (text : Text) → found ≡ Some text → SomeIff row (TellsNumber text) (digits_value 10 (without_leading_plus text))

-- what is asked for is what was found of each option, under that option's name
pub record IsAsked (options : List Row) (order : Order) : Type 0 where
  pub text : IsFlag (one_of (codes "text") options) order.text
  pub from : IsRow (one_of (codes "from") options) order.from
  pub to : IsRow (one_of (codes "to") options) order.to
  pub script : option_map (λ path. path.now) order.script ≡ first_of (codes "script") options
