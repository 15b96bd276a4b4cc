-- How what is kept of the lines so far goes on with one more line.
use Rattle.std.proofs.Common.{◌≡◌, ℕ, ◌==◌, Bool, true, false, not, ◌||◌, List, [], ◌∷◌, ◌++◌, length, map, Option, Some, None}
use Rattle.std.proofs.Common.{Result, Ok, Err, string_bytes, if◌then◌else◌, refl, sym, ap, ◌∙◌, subst, arith}
use Rattle.std.specs.Option.{option_to_list}
use Rattle.std.specs.Result.{OnOk}
use Rattle.std.proofs.Math.Bool.{or-false}
use Rattle.std.proofs.lemmas.Bool.{not-false, eqb-true, true≢false}
use Rattle.std.proofs.lemmas.List.{append-nil, append_assoc, map-append}
use Rattle.cml_grammar.specs.{Declares, Verb, Declaration, Lane, Line, Step, words_of, has_empty_word, Given, unknown, declaration, lane}
use Rattle.cml_grammar.specs.{no_step, step, form_of, places_of, rest_of, Scope, Ends, start, first_of, tests_of_form, fault_in_words}
use Rattle.cml_grammar.specs.{gives, lays, after_words, is_declaration, is_lane, is_step, SourceLine, Lines, source, with_line, scope_after}
use Rattle.cml_grammar.specs.{scope_of, names_of, ends_of, all_ends, source_of, view_of, with_words, AllSuit}
use Rattle.cml_grammar.specs.declared.fault.What.TheVariants.{BadWords}
use Rattle.cml_grammar.specs.Forms.{Form}
use Rattle.cml_grammar.proofs.TableLemmas.{Passes, words_pass, all_suit-passes}
use Rattle.cml_grammar.proofs.FormLemmas.{line_by}

-- the scope after lines, and after one more
scope_after-append : (scope : Scope) (lines more : List SourceLine)
    → scope_after scope (lines ++ more) ≡ scope_after (scope_after scope lines) more
scope_after-append scope [] more = refl
scope_after-append scope (line ∷ lines) more = scope_after-append (after_words scope line.words) lines more

abbrev lines_of : ℕ → List SourceLine → List SourceLine → List SourceLine → Lines
lines_of version declared laid asked = record { version = version; declarations = declared; lanes = laid; steps = asked }

-- the scope with these names, and with the lanes of these lines
abbrev scope_with : ℕ → Scope → List SourceLine → Scope
scope_with version named laid =
    record { version = version; names = named.names; started = named.started; lanes = all_ends named.names laid }

-- the lanes of these lines stay the same where more names are given
abbrev pub KeepsEnds : List Given → List SourceLine → Type 0
KeepsEnds names laid = (more : List Given) → all_ends (names ++ more) laid ≡ all_ends names laid

all_ends-push : (names : List Given) (laid : List SourceLine) (line : SourceLine)
    → all_ends names (laid ++ line ∷ []) ≡ all_ends names laid ++ option_to_list (ends_of names line.words)
all_ends-push names [] line = append-nil (option_to_list (ends_of names line.words))
all_ends-push names (first ∷ laid) line =
    ap (λ ends. option_to_list (ends_of names first.words) ++ ends) (all_ends-push names laid line)
    ∙ sym (append_assoc (option_to_list (ends_of names first.words)) (all_ends names laid) (option_to_list (ends_of names line.words)))

pub empty_list : {X : Type 0} (xs : List X) → length xs ≡ 0 → xs ≡ []
empty_list [] h = refl
empty_list (x ∷ xs) h = absurd (omega arith)

-- before a declaration that gives a name no step was seen
pub no_steps : (script : Lines) (form : Form) → (scope_of script).started ≡ not (length script.steps == 0) → Passes (scope_of script) form
    → is_declaration form ≡ true → script.steps ≡ []
no_steps script (declaration d rest) started p is = empty_list script.steps (eqb-true _ _ (not-false _ (sym started ∙ p.in_time)))
no_steps script _ started p is = absurd (true≢false (sym is))

-- ---- the scope after a script and one more line
module _ (script : Lines) (line : SourceLine) (keeps : KeepsEnds (names_of script) script.lanes) where
  -- the lines that may give names, and the scope after them
  abbrev giving : List SourceLine
  giving = script.declarations ++ script.steps

  abbrev named : Scope
  named = scope_after (start script.version) giving

  abbrev with_form : Form → Lines
  with_form form = lines_of script.version (script.declarations ++ with_line (is_declaration form) line [])
      (script.lanes ++ with_line (is_lane form) line []) (script.steps ++ with_line (is_step form) line [])

  joined : (form : Form) → (is_declaration form ≡ true → script.steps ≡ [])
      → (with_form form).declarations ++ (with_form form).steps ≡ giving ++ with_line (is_declaration form || is_step form) line []
  joined (declaration what rest) empty =
      subst (λ ss. (script.declarations ++ line ∷ []) ++ (ss ++ []) ≡ (script.declarations ++ ss) ++ line ∷ []) (sym (empty refl))
      (append-nil (script.declarations ++ line ∷ []) ∙ ap (λ ds. ds ++ line ∷ []) (sym (append-nil script.declarations)))
  joined (step seat verb rest) empty =
      ap (λ ds. ds ++ (script.steps ++ line ∷ [])) (append-nil script.declarations)
      ∙ sym (append_assoc script.declarations script.steps (line ∷ []))
  joined _ empty = ap (λ ds. ds ++ (script.steps ++ [])) (append-nil script.declarations)
      ∙ sym (append_assoc script.declarations script.steps [])

  -- a line that is no lane line adds nothing to the lanes
  without_lane : (form : Form) → form_of named.names line.words ≡ form → lays named.names form ≡ []
      → (lines : List SourceLine) → lines ≡ giving ++ line ∷ []
      → scope_with script.version (scope_after (start script.version) lines) (script.lanes ++ []) ≡ after_words (scope_of script) line.words
  without_lane form is none lines same =
      ap (λ (s : Scope). scope_with script.version s (script.lanes ++ []))
      (ap (scope_after (start script.version)) same ∙ scope_after-append (start script.version) giving (line ∷ []))
      ∙ (λ j. record {
        version = script.version;
        names = (after_words named line.words).names;
        started = (after_words named line.words).started;
        lanes = ends j;
      })
    where
      ends : all_ends (after_words named line.words).names (script.lanes ++ [])
          ≡ all_ends named.names script.lanes ++ lays named.names (form_of named.names line.words)
      ends =
          ap (all_ends (after_words named line.words).names) (append-nil script.lanes)
          ∙ keeps (gives named.names (form_of named.names line.words))
          ∙ sym (append-nil (all_ends named.names script.lanes))
          ∙ ap (λ ends. all_ends named.names script.lanes ++ ends) (sym (ap (lays named.names) is ∙ none))

  scope_of-with_form : (form : Form) → form_of named.names line.words ≡ form → Passes (scope_of script) form
      → (is_declaration form ≡ true → script.steps ≡ []) → scope_of (with_form form) ≡ after_words (scope_of script) line.words
  scope_of-with_form unknown is p empty = absurd (true≢false p.known)
  scope_of-with_form (no_step seat) is p empty = absurd (true≢false p.does_something)
  scope_of-with_form (declaration what rest) is p empty =
      without_lane (declaration what rest) is refl _ (joined (declaration what rest) empty)
  scope_of-with_form (step seat verb rest) is p empty = without_lane (step seat verb rest) is refl _ (joined (step seat verb rest) empty)
  scope_of-with_form (lane rest) is p empty =
      ap (λ ls. scope_with script.version (scope_after (start script.version) ls) (script.lanes ++ line ∷ []))
      (joined (lane rest) empty ∙ append-nil giving)
      ∙ (λ j. record {
        version = script.version;
        names = sym (ap (λ f. named.names ++ gives named.names f) is ∙ append-nil named.names) j;
        started = sym (ap (λ f. named.started || is_step f) is ∙ or-false named.started) j;
        lanes = ends j;
      })
    where
      ends : all_ends named.names (script.lanes ++ line ∷ [])
          ≡ all_ends named.names script.lanes ++ lays named.names (form_of named.names line.words)
      ends =
          all_ends-push named.names script.lanes line
          ∙ ap (λ ws. all_ends named.names script.lanes ++ option_to_list (ends_of named.names ws))
          (line_by named.names line.words (lane rest) is).1
          ∙ ap (λ f. all_ends named.names script.lanes ++ lays named.names f) (sym is)

pub scope_of-with_words : (script : Lines) (k : ℕ) (line : List ℕ) → (scope_of script).started ≡ not (length script.steps == 0)
    → KeepsEnds (names_of script) script.lanes → fault_in_words (scope_of script) (words_of line) ≡ None
    → scope_of (with_words script k line) ≡ after_words (scope_of script) (words_of line)
scope_of-with_words script k line started keeps none =
    let form = form_of (names_of script) (words_of line) in
    let p = (words_pass (scope_of script) (words_of line) none).1 in
    scope_of-with_form script (source k line) keeps form refl p (no_steps script form started p)

-- ---- the view with one more line
module _ (v : ℕ) (ds : List Declaration) (ls : List Lane) (ss : List Step) where
  abbrev declared_lines : List SourceLine
  declared_lines = map (λ (x : Declaration). source_of x.line) ds

  abbrev lane_lines : List SourceLine
  lane_lines = map (λ (x : Lane). source_of x.line) ls

  abbrev step_lines : List SourceLine
  step_lines = map (λ (x : Step). source_of x.line) ss

  abbrev with_source : SourceLine → Form → Lines
  with_source line f = lines_of v (declared_lines ++ with_line (is_declaration f) line []) (lane_lines ++ with_line (is_lane f) line [])
      (step_lines ++ with_line (is_step f) line [])

  pub view-declaration : (d : Declaration) (rest : List (List ℕ)) (what : Declares)
      → form_of (names_of (view_of v ds ls ss)) (words_of (string_bytes d.line.text)) ≡ declaration what rest
      → view_of v (ds ++ d ∷ []) ls ss ≡ with_words (view_of v ds ls ss) d.line.number (string_bytes d.line.text)
  view-declaration d rest what form =
      (λ j. lines_of v (map-append (λ (x : Declaration). source_of x.line) ds (d ∷ []) j)
      (sym (append-nil lane_lines) j) (sym (append-nil step_lines) j))
      ∙ ap (with_source (source_of d.line)) (sym form)

  pub view-lane : (l : Lane) (rest : List (List ℕ))
      → form_of (names_of (view_of v ds ls ss)) (words_of (string_bytes l.line.text)) ≡ lane rest
      → view_of v ds (ls ++ l ∷ []) ss ≡ with_words (view_of v ds ls ss) l.line.number (string_bytes l.line.text)
  view-lane l rest form =
      (λ j. lines_of v (sym (append-nil declared_lines) j)
      (map-append (λ (x : Lane). source_of x.line) ls (l ∷ []) j) (sym (append-nil step_lines) j))
      ∙ ap (with_source (source_of l.line)) (sym form)

  pub view-step : (s : Step) (seat : ℕ) (verb : Verb) (rest : List (List ℕ))
      → form_of (names_of (view_of v ds ls ss)) (words_of (string_bytes s.line.text)) ≡ step seat verb rest
      → view_of v ds ls (ss ++ s ∷ []) ≡ with_words (view_of v ds ls ss) s.line.number (string_bytes s.line.text)
  view-step s seat verb rest form =
      (λ j. lines_of v (sym (append-nil declared_lines) j) (sym (append-nil lane_lines) j)
      (map-append (λ (x : Step). source_of x.line) ss (s ∷ []) j))
      ∙ ap (with_source (source_of s.line)) (sym form)

-- ---- a line of this form, without fault after this script
pub record ReadFrom (now : Lines) (line : Line) (form : Form) : Type 0 where
  pub fits : fault_in_words (scope_of now) (words_of (string_bytes line.text)) ≡ None
  pub is : form_of (names_of now) (words_of (string_bytes line.text)) ≡ form

pub read_passes : (now : Lines) (line : Line) (form : Form) → ReadFrom now line form → Passes (scope_of now) form
read_passes now line form read =
    subst (Passes (scope_of now)) read.is (words_pass (scope_of now) (words_of (string_bytes line.text)) read.fits).1

-- its words suit their places among the names that are kept
pub kept_suits : (now script : Lines) (names : List Given) (line : Line) (form : Form) → script ≡ now → names ≡ names_of script
    → ReadFrom now line form → AllSuit names (places_of form) (rest_of form)
kept_suits now script names line form seen kept read =
    subst (λ (gs : List Given). AllSuit gs (places_of form) (rest_of form)) (sym (kept ∙ ap names_of seen))
    (all_suit-passes (scope_of now) form (read_passes now line form read))

-- ---- what is found in a line of words after a script, told by what is kept of it
pub fault_found : (now script : Lines) (version : ℕ) (names : List Given) (started : Bool) (lanes : List Ends)
    (words said : List (List ℕ)) (form : Form)
    → script ≡ now → version ≡ script.version → names ≡ names_of script
    → started ≡ (scope_of script).started → lanes ≡ (scope_of script).lanes
    → words ≡ said → has_empty_word words ≡ false → form ≡ form_of names words
    → first_of (tests_of_form (record { version = version; names = names; started = started; lanes = lanes }) form)
    ≡ fault_in_words (scope_of now) said
fault_found now script version names started lanes words said form seen asked kept begun laid same full is =
    let scope : Scope = record { version = version; names = names; started = started; lanes = lanes } in
    let there : scope ≡ scope_of script = (λ j. record { version = asked j; names = kept j; started = begun j; lanes = laid j }) in
    ap (λ f. first_of (tests_of_form scope f)) is
    ∙ ap (λ t. if t then Some BadWords else first_of (tests_of_form scope (form_of names words))) (sym full)
    ∙ ap (λ (s : Scope). fault_in_words s words) (there ∙ ap scope_of seen)
    ∙ ap (fault_in_words (scope_of now)) same

pub nothing_left : {X : Type 0} (o : Option X) → ((x : X) → o ≡ Some x → ⊥) → o ≡ None
nothing_left None h = refl
nothing_left (Some x) h = absurd (h x refl)

-- what holds anyway holds where a call went well
pub whichever : {X E P : Type 0} (r : Result X E) → P → OnOk r P
whichever (Ok x) h = h
whichever (Err e) h = tt
