-- Scripts, and which text is which script.
use Rattle.std.specs.Prelude.{ℕ, suc, ◌≡◌, ◌<◌, ◌≤◌, ◌&&◌, Bool, List, [], ◌∷◌, length, if◌then◌else◌, None}
use Rattle.cml_grammar.specs.Words.{parts_of, words_of}
use Rattle.cml_grammar.specs.Forms.{form_of}
use Rattle.cml_grammar.specs.Faults.{Scope, start, version_of, says, fault_in, is_declaration, is_lane, is_step, after}

-- a line: its number, from 1, and its words
pub record SourceLine : Type 0 where
  pub number : ℕ
  pub words : List (List ℕ)

-- a script: its version, and in text order the declaration lines that give names, the lane lines and the step lines
pub record Lines : Type 0 where
  pub version : ℕ
  pub declarations : List SourceLine
  pub lanes : List SourceLine
  pub steps : List SourceLine

-- the lines, with one more in front where the test says so
abbrev pub with_line : Bool → SourceLine → List SourceLine → List SourceLine
with_line test line lines = if test then line ∷ lines else lines

abbrev pub source : ℕ → List ℕ → SourceLine
source k line = record { number = k; words = words_of line }

-- The parts of a text from number k on, in the scope that the earlier lines leave: no line has a fault, and these are
-- the declarations, the lanes and the steps among them. Nothing follows the last line end.
abbrev pub Says : Scope → ℕ → List (List ℕ) → List SourceLine → List SourceLine → List SourceLine → Type 0
Says scope k [] declarations lanes steps = ⊥
Says scope k (part ∷ []) declarations lanes steps =
    (1 < k) × (part ≡ []) × (declarations ≡ []) × (lanes ≡ []) × (steps ≡ [])
Says scope k (line ∷ next ∷ more) declarations lanes steps =
    let form = form_of scope.names (words_of line) in
    (fault_in scope k line ≡ None)
    × (later_declarations : List SourceLine) × (later_lanes : List SourceLine) × (later_steps : List SourceLine)
    × (declarations ≡ with_line (says k line && is_declaration form) (source k line) later_declarations)
    × (lanes ≡ with_line (says k line && is_lane form) (source k line) later_lanes)
    × (steps ≡ with_line (says k line && is_step form) (source k line) later_steps)
    × Says (after scope k line) (suc k) (next ∷ more) later_declarations later_lanes later_steps

-- the text is this script
pub record IsScript (text : List ℕ) (script : Lines) : Type 0 where
  pub short : length text ≤ 1048576
  pub version : script.version ≡ version_of text
  pub says : Says (start (version_of text)) 1 (parts_of text) script.declarations script.lanes script.steps
