-- A text without fault is a script, and one script only.
use Rattle.std.proofs.Common.{◌≡◌, ℕ, suc, ◌<◌, ◌≤◌, ◌==◌, Bool, true, false, not, ◌&&◌, nat_lt, List, [], ◌∷◌, length, Option, Some}
use Rattle.std.proofs.Common.{None, if◌then◌else◌, refl, sym, ap, ◌∙◌, subst, arith, inl, inr, ◌⊎◌, ⊎_elim}
use Rattle.std.specs.Option.{option_map_or}
use Rattle.std.proofs.lemmas.Option.{none-some}
use Rattle.std.proofs.lemmas.Bool.{ne_eqb, eqb-false, le-ltb, ltb-false}
use Rattle.cml_grammar.specs.declared.fault.What.TheVariants.{Memory, NoLineEnd, BadHeader, TooLong}
use Rattle.cml_grammar.specs.{Fault, parts_of, words_of, form_of, Scope, start, version_of, says, fault_in, after, at_line, fault_at_end}
use Rattle.cml_grammar.specs.{fault_from, fault_of, is_declaration, is_lane, is_step, IsFaultOf, SourceLine, Lines, source, with_line, Says}
use Rattle.cml_grammar.specs.{IsScript, scope_of, ScriptsHaveNoFault, TextsAreOneScript, FaultlessTextsAreScripts}
use Rattle.std.proofs.lemmas.List.Splits.{length-slice_split}
use Rattle.std.proofs.lemmas.List.Sums.{count_by-le-length}
use Rattle.cml_grammar.proofs.LinesLemmas.{SaysThese, in_front, no_lines, behind-nothing, parts-some, ReadsOn}

not_some : {A B : Type 0} (o : Option A) (f : A → B) (later : Option B)
    → option_map_or (λ a. Some (f a)) o later ≡ None → (o ≡ None) × (later ≡ None)
not_some None f later h = (refl, h)
not_some (Some a) f later h = absurd (none-some (f a) (sym h))

-- the last part has no fault just where nothing follows a line end
ends_well : (k : ℕ) (part : List ℕ) → 1 ≤ k → fault_at_end k part ≡ None → (1 < k) × (part ≡ [])
ends_well k (b ∷ bs) low h =
    absurd (none-some (at_line k NoLineEnd) (sym (sym (ap (λ t. if not t then Some (at_line k NoLineEnd) else if k == 1
    then Some (at_line k BadHeader) else None) (ne_eqb (length (b ∷ bs)) 0 (λ e. omega arith))) ∙ h)))
ends_well k [] low h = (by (k == 1) refl h, refl)
  where
    by : (t : Bool) → (k == 1) ≡ t → (if t then Some (at_line k BadHeader) else None) ≡ None → 1 < k
    by true e f = absurd (none-some (at_line k BadHeader) (sym f))
    by false e f = omega (arith, low, eqb-false k 1 e)

-- parts without fault say something
says_some : (scope : Scope) (k : ℕ) (parts : List (List ℕ)) → 1 ≤ k → 0 < length parts → fault_from scope k parts ≡ None
    → (these : Lines) × SaysThese scope k parts these
says_some scope k [] low some h = absurd (omega arith)
says_some scope k (part ∷ []) low some h = let e = ends_well k part low h in (no_lines scope.version, (e.0, e.1, refl, refl, refl))
says_some scope k (line ∷ next ∷ more) low some h =
    let e = not_some (fault_in scope k line) (at_line k) (fault_from (after scope k line) (suc k) (next ∷ more)) h in
    let later = says_some (after scope k line) (suc k) (next ∷ more) (omega arith) (omega arith) e.1 in
    let these : Lines = later.0 in (
      in_front (says k line) (form_of scope.names (words_of line)) (source k line) these,
      (e.0, these.declarations, these.lanes, these.steps, refl, refl, refl, later.1),
    )

-- what parts say leaves them without fault
no_fault : (scope : Scope) (k : ℕ) (parts : List (List ℕ)) (declared laid asked : List SourceLine)
    → Says scope k parts declared laid asked → fault_from scope k parts ≡ None
no_fault scope k [] declared laid asked h = absurd h
no_fault scope k (part ∷ []) declared laid asked h =
    ap (fault_at_end k) h.1 ∙ ap (λ t. if t then Some (at_line k BadHeader) else None) (ne_eqb k 1 (λ e. omega (arith, h.0)))
no_fault scope k (line ∷ next ∷ more) declared laid asked h =
    ap (λ found. option_map_or (λ what. Some (at_line k what)) found (fault_from (after scope k line) (suc k) (next ∷ more))) h.0
    ∙ no_fault (after scope k line) (suc k) (next ∷ more) h.1 h.2 h.3 h.7

-- parts say one thing
said_once : (scope : Scope) (k : ℕ) (parts : List (List ℕ)) (d d' l l' s s' : List SourceLine) → Says scope k parts d l s
    → Says scope k parts d' l' s' → (d ≡ d') × (l ≡ l') × (s ≡ s')
said_once scope k [] d d' l l' s s' h g = absurd h
said_once scope k (part ∷ []) d d' l l' s s' h g = (h.2 ∙ sym g.2, h.3 ∙ sym g.3, h.4 ∙ sym g.4)
said_once scope k (line ∷ next ∷ more) d d' l l' s s' h g =
    let same = said_once (after scope k line) (suc k) (next ∷ more) h.1 g.1 h.2 g.2 h.3 g.3 h.7 g.7 in (
      h.4 ∙ ap (with_line (says k line && is_declaration (form_of scope.names (words_of line))) (source k line)) same.0 ∙ sym g.4,
      h.5 ∙ ap (with_line (says k line && is_lane (form_of scope.names (words_of line))) (source k line)) same.1 ∙ sym g.5,
      h.6 ∙ ap (with_line (says k line && is_step (form_of scope.names (words_of line))) (source k line)) same.2 ∙ sym g.6,
    )

pub fault_of-short : (text : List ℕ) → length text ≤ 1048576 → fault_of text ≡ fault_from (start (version_of text)) 1 (parts_of text)
fault_of-short text short = ap (λ t. if t then Some (at_line 0 TooLong) else fault_from (start (version_of text)) 1 (parts_of text))
    (le-ltb 1048576 (length text) short)

pub script_without_fault : ScriptsHaveNoFault
script_without_fault text script h = fault_of-short text h.short
    ∙ no_fault (start (version_of text)) 1 (parts_of text) script.declarations script.lanes script.steps h.says

pub one_script : TextsAreOneScript
one_script text a b h g =
    let same =
    said_once (start (version_of text)) 1 (parts_of text) a.declarations b.declarations a.lanes b.lanes a.steps b.steps h.says g.says in
    (λ i. record { version = (h.version ∙ sym g.version) i; declarations = same.0 i; lanes = same.1 i; steps = same.2 i })

pub faultless_script : FaultlessTextsAreScripts
faultless_script text h = by (nat_lt 1048576 (length text)) refl h
  where
    by : (t : Bool) → nat_lt 1048576 (length text) ≡ t
        → (if t then Some (at_line 0 TooLong) else fault_from (start (version_of text)) 1 (parts_of text)) ≡ None
        → (script : Lines) × IsScript text script
    by true e f = absurd (none-some (at_line 0 TooLong) (sym f))
    by false e f =
        let some = says_some (start (version_of text)) 1 (parts_of text) (omega arith) (parts-some text) f in
        let these : Lines = some.0 in (
          record { version = version_of text; declarations = these.declarations; lanes = these.lanes; steps = these.steps },
          record { short = ltb-false 1048576 (length text) e; version = refl; says = some.1 },
        )

-- ---- the end of the reading
pub reads_all : (text : List ℕ) (script : Lines) (k : ℕ) (rest : List ℕ) → length text ≤ 1048576 → ReadsOn text script k rest
    → parts_of rest ≡ rest ∷ [] → fault_at_end k rest ≡ None → IsScript text script
reads_all text script k rest short so_far last none =
    let end = ends_well k rest so_far.low none in
    let said : SaysThese (scope_of script) k (parts_of rest) (no_lines 0) =
    subst (λ ps. SaysThese (scope_of script) k ps (no_lines 0)) (sym last) (end.0, end.1, refl, refl, refl) in
    record {
      short = short;
      version = so_far.version;
      says = subst (SaysThese (start (version_of text)) 1 (parts_of text)) (behind-nothing script 0) (so_far.says (no_lines 0) said);
    }

-- each line says one thing at most
few_lines : (scope : Scope) (k : ℕ) (parts : List (List ℕ)) (declared laid asked : List SourceLine) → Says scope k parts declared laid asked
    → (length declared < length parts) × (length laid < length parts) × (length asked < length parts)
few_lines scope k [] declared laid asked said = absurd said
few_lines scope k (part ∷ []) declared laid asked said =
    (omega (arith, ap length said.2), omega (arith, ap length said.3), omega (arith, ap length said.4))
few_lines scope k (line ∷ next ∷ more) declared laid asked said =
    let few = few_lines (after scope k line) (suc k) (next ∷ more) said.1 said.2 said.3 said.7 in (
      one_more _ said.1 declared few.0 said.4,
      one_more _ said.2 laid few.1 said.5,
      one_more _ said.3 asked few.2 said.6,
    )
  where
    one_more : (t : Bool) (ls all : List SourceLine) → length ls < length (next ∷ more) → all ≡ with_line t (source k line) ls
        → length all < suc (length (next ∷ more))
    one_more true ls all lt e = omega (arith, lt, ap length e)
    one_more false ls all lt e = omega (arith, lt, ap length e)

-- and a script has no more lines than its text has bytes
pub script_short : (text : List ℕ) (script : Lines) → IsScript text script
    → (length script.declarations ≤ 1048576) × (length script.lanes ≤ 1048576) × (length script.steps ≤ 1048576)
script_short text script is =
    let lines = few_lines (start (version_of text)) 1 (parts_of text) script.declarations script.lanes script.steps is.says in
    let parts = length-slice_split (λ b. b == 10) text in
    let ends = count_by-le-length (λ b. b == 10) text in (
      omega (arith, is.short, lines.0, parts, ends),
      omega (arith, is.short, lines.1, parts, ends),
      omega (arith, is.short, lines.2, parts, ends),
    )

pub fault_of_text : (text : List ℕ) (fault : Fault) → length text ≤ 1048576
    → (fault ≡ at_line 0 Memory) ⊎ (fault_from (start (version_of text)) 1 (parts_of text) ≡ Some fault) → IsFaultOf text fault
fault_of_text text fault short h = ⊎_elim (λ e. inl e) (λ e. inr (fault_of-short text short ∙ e)) h
