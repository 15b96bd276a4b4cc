-- A text by its parts: what a run of lines is read as, one line at a time.
use Rattle.std.proofs.Common.{◌≡◌, ℕ, suc, ◌+◌, ◌<◌, ◌≤◌, ◌==◌, Bool, true, false, ◌&&◌, List, [], ◌∷◌, ◌++◌, length, Some, None}
use Rattle.std.proofs.Common.{if◌then◌else◌, refl, sym, ap, ◌∙◌, subst, arith, inl, inr, ◌⊎◌, ⊎_elim}
use Rattle.std.specs.Option.{option_map_or}
use Rattle.std.specs.List.{onto_first}
use Rattle.std.proofs.lemmas.List.{append-nil, append_assoc}
use Rattle.cml_grammar.specs.{What, parts_of, words_of, form_of, Scope, start, version_of, says, fault_in, after, at_line, fault_at}
use Rattle.cml_grammar.specs.{fault_from, is_declaration, is_lane, is_step, IsWhat, SourceLine, Lines, source, with_line, Says, scope_of}
use Rattle.cml_grammar.specs.{names_of, with_next, with_words}
use Rattle.cml_grammar.specs.declared.fault.What.TheVariants.{Memory}
use Rattle.cml_grammar.specs.Forms.{Form}

-- the parts say the declarations, the lanes and the steps of these lines
abbrev pub SaysThese : Scope → ℕ → List (List ℕ) → Lines → Type 0
SaysThese scope k parts these = Says scope k parts these.declarations these.lanes these.steps

-- a script's lines, and others after them
abbrev pub behind : Lines → Lines → Lines
behind script more = record {
  version = script.version;
  declarations = script.declarations ++ more.declarations;
  lanes = script.lanes ++ more.lanes;
  steps = script.steps ++ more.steps;
}

-- lines with one in front, where it says something
abbrev pub in_front : Bool → Form → SourceLine → Lines → Lines
in_front says form line more = record {
  version = more.version;
  declarations = with_line (says && is_declaration form) line more.declarations;
  lanes = with_line (says && is_lane form) line more.lanes;
  steps = with_line (says && is_step form) line more.steps;
}

abbrev pub no_lines : ℕ → Lines
no_lines version = record { version = version; declarations = []; lanes = []; steps = [] }

-- a text has a first part
pub some_part : (text : List ℕ) → (part : List ℕ) × (more : List (List ℕ)) × (parts_of text ≡ part ∷ more)
some_part [] = ([], [], refl)
some_part (b ∷ bs) = by (b == 10) (parts_of bs)
  where
    by : (t : Bool) (parts : List (List ℕ)) → (part : List ℕ) × (more : List (List ℕ))
        × ((if t then [] ∷ parts else onto_first b parts) ≡ part ∷ more)
    by true parts = ([], parts, refl)
    by false [] = (b ∷ [], [], refl)
    by false (part ∷ parts) = (b ∷ part, parts, refl)

pub parts-some : (text : List ℕ) → 0 < length (parts_of text)
parts-some text = let p = some_part text in subst (λ (ps : List (List ℕ)). 0 < length ps) (sym p.2) (omega arith)

-- ---- one line, and the parts after it
module _ (scope : Scope) (k : ℕ) (line : List ℕ) (rest : List ℕ) where
  fault_from-line : fault_from scope k (line ∷ parts_of rest) ≡ option_map_or (λ what. Some (at_line k what)) (fault_in scope k line)
      (fault_from (after scope k line) (suc k) (parts_of rest))
  fault_from-line =
      let p = some_part rest in
      ap (λ ps. fault_from scope k (line ∷ ps)) p.2
      ∙ ap (λ ps. option_map_or (λ what. Some (at_line k what)) (fault_in scope k line) (fault_from (after scope k line) (suc k) ps))
      (sym p.2)

  says-line : (more : Lines) → fault_in scope k line ≡ None → SaysThese (after scope k line) (suc k) (parts_of rest) more
      → SaysThese scope k (line ∷ parts_of rest) (in_front (says k line) (form_of scope.names (words_of line)) (source k line) more)
  says-line more none said =
      let p = some_part rest in
      subst (λ ps. SaysThese scope k (line ∷ ps) (in_front (says k line) (form_of scope.names (words_of line)) (source k line) more))
      (sym p.2) (
        none,
        more.declarations,
        more.lanes,
        more.steps,
        refl,
        refl,
        refl,
        subst (λ ps. SaysThese (after scope k line) (suc k) ps more) p.2 said,
      )

-- ---- a script so far, and what the parts after it add
with_line-append : (test : Bool) (line : SourceLine) (lines more : List SourceLine)
    → (lines ++ with_line test line []) ++ more ≡ lines ++ with_line test line more
with_line-append true line lines more = append_assoc lines (line ∷ []) more
with_line-append false line lines more = ap (λ ls. ls ++ more) (append-nil lines)

pub behind-line : (script more : Lines) (k : ℕ) (line : List ℕ) → behind (with_next script k line) more
    ≡ behind script (in_front (says k line) (form_of (names_of script) (words_of line)) (source k line) more)
behind-line script more k line = by (says k line)
  where
    form : Form
    form = form_of (names_of script) (words_of line)

    by : (t : Bool) → behind (if t then with_words script k line else script) more ≡ behind script (in_front t form (source k line) more)
    by false = refl
    by true = (λ j. record {
      version = script.version;
      declarations = with_line-append (is_declaration form) (source k line) script.declarations more.declarations j;
      lanes = with_line-append (is_lane form) (source k line) script.lanes more.lanes j;
      steps = with_line-append (is_step form) (source k line) script.steps more.steps j;
    })

pub behind-nothing : (script : Lines) (version : ℕ) → behind script (no_lines version) ≡ script
behind-nothing script version = (λ j. record {
  version = script.version;
  declarations = append-nil script.declarations j;
  lanes = append-nil script.lanes j;
  steps = append-nil script.steps j;
})

-- what has been read, and what is left, are the whole text
pub record ReadsOn (text : List ℕ) (script : Lines) (k : ℕ) (rest : List ℕ) : Type 0 where
  pub fault : fault_from (scope_of script) k (parts_of rest) ≡ fault_from (start (version_of text)) 1 (parts_of text)
  pub says : (more : Lines) → SaysThese (scope_of script) k (parts_of rest) more
      → SaysThese (start (version_of text)) 1 (parts_of text) (behind script more)
  pub version : script.version ≡ version_of text
  pub low : 1 ≤ k
  pub place : k + length rest ≤ length text + 1

pub reads_on-line : (text : List ℕ) (script next : Lines) (k : ℕ) (rest line later : List ℕ) → ReadsOn text script k rest
    → parts_of rest ≡ line ∷ parts_of later → length later < length rest
    → fault_in (scope_of script) k line ≡ None → next ≡ with_next script k line → scope_of next ≡ after (scope_of script) k line
    → ReadsOn text next (k + 1) later
reads_on-line text script next k rest line later so_far cut shorter fits read scope =
    subst (λ (n : ℕ). ReadsOn text next n later) (omega arith) whole
  where
    whole : ReadsOn text next (suc k) later
    whole = record {
      fault =
          ap (λ (s : Scope). fault_from s (suc k) (parts_of later)) scope
          ∙ ap (λ found. option_map_or (λ what. Some (at_line k what)) found
          (fault_from (after (scope_of script) k line) (suc k) (parts_of later))) (sym fits)
          ∙ sym (ap (fault_from (scope_of script) k) cut ∙ fault_from-line (scope_of script) k line later)
          ∙ so_far.fault;
      says = λ more said.
          let front : Lines = in_front (says k line) (form_of (names_of script) (words_of line)) (source k line) more in
          let here = says-line (scope_of script) k line later more fits
          (subst (λ (s : Scope). SaysThese s (suc k) (parts_of later) more) scope said) in
          subst (SaysThese (start (version_of text)) 1 (parts_of text))
          (sym (ap (λ (s : Lines). behind s more) read ∙ behind-line script more k line))
          (so_far.says front (subst (λ ps. SaysThese (scope_of script) k ps front) (sym cut) here));
      version = ap (λ (s : Lines). s.version) read
          ∙ ap (λ (s : Lines). s.version) (behind-line script (no_lines 0) k line) ∙ so_far.version;
      low = omega arith;
      place = omega (arith, so_far.place, shorter);
    }

-- a fault of a line is the text's
pub fault-line : (text : List ℕ) (script : Lines) (k : ℕ) (rest line later : List ℕ) (what : What) → ReadsOn text script k rest
    → parts_of rest ≡ line ∷ parts_of later
    → IsWhat what (fault_in (scope_of script) k line)
    → (fault_at k what ≡ at_line 0 Memory) ⊎ (fault_from (start (version_of text)) 1 (parts_of text) ≡ Some (fault_at k what))
fault-line text script k rest line later what so_far cut h =
    ⊎_elim (λ e. inl (ap (fault_at k) e)) (λ found.
    by what (sym so_far.fault ∙ ap (fault_from (scope_of script) k) cut ∙ fault_from-line (scope_of script) k line later ∙ ap (λ found.
    option_map_or (λ what. Some (at_line k what)) found (fault_from (after (scope_of script) k line) (suc k) (parts_of later))) found)) h
  where
    by : (w : What) → fault_from (start (version_of text)) 1 (parts_of text) ≡ Some (at_line k w)
        → (fault_at k w ≡ at_line 0 Memory) ⊎ (fault_from (start (version_of text)) 1 (parts_of text) ≡ Some (fault_at k w))
    by Memory e = inl refl
    by _ e = inr e
