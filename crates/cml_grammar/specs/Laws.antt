-- What faults and scripts have to do with each other, numbers with what is printed of them, and lines with their words.
use Rattle.std.specs.Prelude.{ℕ, ◌≡◌, ◌<◌, ◌^◌, true, List, ◌∷◌, ◌++◌, None, codes}
use Rattle.std.specs.Fmt.{decimal}
use Rattle.std.specs.List.{join_with_byte}
use Rattle.std.specs.Str.Parse.{digits_value}
use Rattle.cml_grammar.specs.Words.{words_of}
use Rattle.cml_grammar.specs.Names.{is_number}
use Rattle.cml_grammar.specs.Faults.{fault_of}
use Rattle.cml_grammar.specs.Script.{Lines, IsScript}

-- a text that is a script has no fault
abbrev pub ScriptsHaveNoFault : Type 0
ScriptsHaveNoFault = (text : List ℕ) (script : Lines) → IsScript text script → fault_of text ≡ None

-- a text is at most one script
abbrev pub TextsAreOneScript : Type 0
TextsAreOneScript = (text : List ℕ) (one other : Lines) → IsScript text one → IsScript text other → one ≡ other

-- a text without fault is a script
abbrev pub FaultlessTextsAreScripts : Type 0
FaultlessTextsAreScripts = (text : List ℕ) → fault_of text ≡ None → (script : Lines) × IsScript text script

-- a number's word is what the number prints as
abbrev pub NumbersArePrinted : Type 0
NumbersArePrinted = (word : List ℕ) → is_number word ≡ true → word ≡ decimal (digits_value 10 word)

-- and what a number prints as is its word
abbrev pub PrintedNumbersAreRead : Type 0
PrintedNumbersAreRead = (n : ℕ) → n < 2 ^ 64 → is_number (decimal n) ≡ true

-- A script of version 1 whose first line is changed to `cml 2` is one of version 2: its messages are numbers, and numbers are
-- texts.
abbrev pub NumbersAreTexts : Type 0
NumbersAreTexts =
    (body : List ℕ) (script : Lines) → IsScript (codes "cml 1" ++ 10 ∷ body) script
    → IsScript (codes "cml 2" ++ 10 ∷ body)
    (record { version = 2; declarations = script.declarations; lanes = script.lanes; steps = script.steps })

-- a line's words, with a space between each two, are the line
abbrev pub WordsMakeLines : Type 0
WordsMakeLines = (line : List ℕ) → join_with_byte 32 (words_of line) ≡ line
