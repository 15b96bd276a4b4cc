-- A text that is a script can be read: what a reading keeps of its lines holds, line by line from the first on.
use Rattle.std.proofs.Common.{◌≡◌, ℕ, suc, ◌+◌, ◌<◌, ◌≤◌, ◌==◌, ◌^◌, Bool, true, false, if◌then◌else◌, List, [], ◌∷◌, ◌++◌, length, map}
use Rattle.std.proofs.Common.{Option, Some, None, String, string_bytes, refl, sym, ap, ◌∙◌, subst, arith, true≢false, rules}
use Rattle.std.specs.Prelude.{⊤}
use Rattle.std.specs.Global.{Global}
use Rattle.std.specs.List.{list_any, onto_first}
use Rattle.std.proofs.lemmas.List.{append-nil, length-map, map-append}
use Rattle.cml_grammar.specs.declared.fault.What.TheVariants.{BadBytes, BadHeader}
use Rattle.cml_grammar.specs.{Named, Line, Declaration, Lane, Step, parts_of, words_of, is_bad_byte, is_name, unknown, declaration, lane}
use Rattle.cml_grammar.specs.{no_step, step, form_of, step_places, fresh_word, owner_of, named_by, Scope, version_of, says, fault_in}
use Rattle.cml_grammar.specs.{fault_in_words, is_bad_header, after, after_words, given_as, Lines, source, IsScript, scope_of, names_of}
use Rattle.cml_grammar.specs.{source_of, view_of, texts_of, threads_by, capacities_of, IsReadSoFar, IsReading, with_words, with_next}
use Rattle.cml_grammar.specs.declared.names.Named.TheVariants as called
use Rattle.cml_grammar.specs.declared.names.Users.TheVariants as users
use Rattle.cml_grammar.specs.Forms.{Form}
use Rattle.cml_grammar.proofs.TableLemmas.{Passes, not_first, words_pass, all_suit-passes, fresh_suits}
use Rattle.cml_grammar.proofs.LinesLemmas.{SaysThese, behind, in_front, no_lines, behind-line, behind-nothing}
use Rattle.cml_grammar.proofs.ScriptLemmas.{script_short}
use Rattle.cml_grammar.proofs.ReadingLemmas.{view-declaration, view-lane, view-step}
use Rattle.cml_grammar.proofs.WordLemmas.{text_from_bytes}
use Rattle.cml_grammar.proofs.TextLemmas.{string_from, name_text, name_short}
use Rattle.cml_grammar.proofs.SuitingLemmas.{makes_this, lays_this, asks_this}
use Rattle.cml_grammar.proofs.DeclaredLaneLemmas.{laid_so_far}
use Rattle.cml_grammar.proofs.KeepingLemmas.{next_scope, declared_so_far, asked_so_far}

-- lines that were read
record Reads (script : Lines) : Type 0 where
  entries : List (String Global × Named)
  declarations : List Declaration
  lanes : List Lane
  steps : List Step
  threads : ℕ
  is : view_of script.version declarations lanes steps ≡ script
  so_far : IsReadSoFar script entries declarations lanes (capacities_of lanes) steps threads

-- no line was
nothing : (v : ℕ) → Reads (no_lines v)
nothing v = record {
  entries = [];
  declarations = [];
  lanes = [];
  steps = [];
  threads = 0;
  is = refl;
  so_far = search rules;
}

abbrev name_string : (word : List ℕ) → is_name word ≡ true → String Global
name_string word named = string_from word (name_text word named) (name_short word named)

-- ---- one line more
module _ (v k : ℕ) (line : List ℕ) (small : length line < 2 ^ 63) (text : list_any is_bad_byte line ≡ false)
    (es : List (String Global × Named)) (ds : List Declaration) (ls : List Lane) (ss : List Step) (threads : ℕ)
    (so_far : IsReadSoFar (view_of v ds ls ss) es ds ls (capacities_of ls) ss threads)
    (none : fault_in_words (scope_of (view_of v ds ls ss)) (words_of line) ≡ None) where
  abbrev now : Lines
  now = view_of v ds ls ss

  abbrev kept : Line
  kept = record { number = k; text = string_from line (text_from_bytes line text) small }

  -- the name that a step gives, where it gives one
  given_entries : (seat : ℕ) (word : Option (List ℕ)) → ((w : List ℕ) → word ≡ Some w → is_name w ≡ true)
      → (later : List (String Global × Named)) × (texts_of later ≡ texts_of es ++ given_as (called.Port (users.One seat)) word)
  given_entries seat None named = (es, sym (append-nil (texts_of es)))
  given_entries seat (Some w) named =
      let entry : String Global × Named = (name_string w (named w refl), called.Port (users.One seat)) in
      (es ++ entry ∷ [], map-append (λ (e : String Global × Named). (string_bytes e.0, e.1)) es (entry ∷ []))

  words_read : (form : Form) → form_of (names_of now) (words_of line) ≡ form → Passes (scope_of now) form → Reads (with_words now k line)
  words_read unknown is passes = absurd (true≢false passes.known)
  words_read (no_step seat) is passes = absurd (true≢false passes.does_something)
  words_read (declaration what rest) is passes =
      let suits = all_suit-passes (scope_of now) (declaration what rest) passes in
      let this = makes_this (names_of now) what rest so_far.seats suits in
      let d : Declaration = record { line = kept; makes = this.made } in
      let entry : String Global × Named = (
        name_string this.name (fresh_suits (names_of now) _ rest this.name suits this.gives).0,
        named_by what threads (owner_of (names_of now) rest),
      ) in
      let more = view-declaration v ds ls ss d rest what is in
      record {
        entries = es ++ entry ∷ [];
        declarations = ds ++ d ∷ [];
        lanes = ls;
        steps = ss;
        threads = threads + threads_by what;
        is = more;
        so_far =
            subst (λ (s : Lines). IsReadSoFar s (es ++ entry ∷ []) (ds ++ d ∷ []) ls (capacities_of ls) ss (threads + threads_by what)) more
            (declared_so_far v es ds ls (capacities_of ls) ss threads d what rest this.name so_far
            (record { fits = none; is = is }) this.gives this.makes this.well (es ++ entry ∷ [])
            (map-append (λ (e : String Global × Named). (string_bytes e.0, e.1)) es (entry ∷ [])));
      }
  words_read (lane rest) is passes =
      let this = lays_this (names_of now) rest so_far.seats (all_suit-passes (scope_of now) (lane rest) passes) in
      let l : Lane = record { line = kept; seat = this.seat; target = this.target; capacity = this.capacity } in
      let more = view-lane v ds ls ss l rest is in
      record {
        entries = es;
        declarations = ds;
        lanes = ls ++ l ∷ [];
        steps = ss;
        threads = threads;
        is = more;
        so_far = subst (λ (s : Lines). IsReadSoFar s es ds (ls ++ l ∷ []) (capacities_of (ls ++ l ∷ [])) ss threads) more
            (laid_so_far v es ds ls (capacities_of ls) ss threads l rest so_far (record { fits = none; is = is }) this.says
            (capacities_of (ls ++ l ∷ [])) (map-append (λ (x : Lane). ((x.seat, x.target), x.capacity)) ls (l ∷ [])));
      }
  words_read (step seat verb rest) is passes =
      let suits = all_suit-passes (scope_of now) (step seat verb rest) passes in
      let this = asks_this (names_of now) verb rest suits in
      let s : Step = record { line = kept; seat = seat; action = this.action } in
      let later = given_entries seat (fresh_word (step_places verb) rest)
      (λ w found. (fresh_suits (names_of now) (step_places verb) rest w suits found).0) in
      let more = view-step v ds ls ss s seat verb rest is in
      record {
        entries = later.0;
        declarations = ds;
        lanes = ls;
        steps = ss ++ s ∷ [];
        threads = threads;
        is = more;
        so_far = subst (λ (x : Lines). IsReadSoFar x later.0 ds ls (capacities_of ls) (ss ++ s ∷ []) threads) more
            (asked_so_far v es ds ls (capacities_of ls) ss threads s verb rest so_far
            (record { fits = none; is = is }) this.asks this.uses later.0 later.1);
      }

-- one line more was read, and leaves the scope that is said
abbrev ReadsOne : Lines → ℕ → List ℕ → Type 0
ReadsOne script k line = Reads (with_next script k line) × (scope_of (with_next script k line) ≡ after (scope_of script) k line)

line_read : (script : Lines) (k : ℕ) (line : List ℕ) → length line < 2 ^ 63 → Reads script
    → fault_in (scope_of script) k line ≡ None → ReadsOne script k line
line_read script k line small reads none = by_says (says k line) header.1
  where
    bytes : (list_any is_bad_byte line ≡ false)
        × ((if is_bad_header k line then Some BadHeader else if says k line then fault_in_words (scope_of script) (words_of line) else None)
        ≡ None)
    bytes = not_first (list_any is_bad_byte line) BadBytes _ none

    header : (is_bad_header k line ≡ false) × ((if says k line then fault_in_words (scope_of script) (words_of line) else None) ≡ None)
    header = not_first (is_bad_header k line) BadHeader _ bytes.1

    by_says : (t : Bool) → (if t then fault_in_words (scope_of script) (words_of line) else None) ≡ None
        → Reads (if t then with_words script k line else script) × (scope_of (if t then with_words script k line else script)
        ≡ (if t then after_words (scope_of script) (words_of line) else scope_of script))
    by_says false fits = (reads, refl)
    by_says true fits =
        let r = reads in
        let now : Lines = view_of script.version r.declarations r.lanes r.steps in
        let so_far = subst (λ (s : Lines). IsReadSoFar s r.entries r.declarations r.lanes (capacities_of r.lanes) r.steps r.threads)
        (sym r.is) r.so_far in
        let there = subst (λ (s : Lines). fault_in_words (scope_of s) (words_of line) ≡ None) (sym r.is) fits in
        let words = words_read script.version k line small bytes.0 r.entries r.declarations r.lanes r.steps r.threads so_far there
        (form_of (names_of now) (words_of line)) refl (words_pass (scope_of now) (words_of line) there).1 in
        subst (λ (s : Lines). Reads (with_words s k line) × (scope_of (with_words s k line) ≡ after_words (scope_of s) (words_of line)))
        r.is
        (words, next_scope script.version r.entries r.declarations r.lanes (capacities_of r.lanes) r.steps r.threads so_far k line there)

-- ---- all lines
-- no part is longer
AreShort : ℕ → List (List ℕ) → Type 0
AreShort n [] = ⊤
AreShort n (part ∷ parts) = (length part ≤ n) × AreShort n parts

parts_read : (script more : Lines) (k : ℕ) (parts : List (List ℕ)) → AreShort 1048576 parts → Reads script
    → SaysThese (scope_of script) k parts more → Reads (behind script more)
unfolding AreShort
parts_read script more k [] short reads said = absurd said
parts_read script more k (part ∷ []) short reads said =
    let none : more ≡ no_lines more.version =
    (λ j. record { version = more.version; declarations = said.2 j; lanes = said.3 j; steps = said.4 j }) in
    subst Reads (sym (ap (behind script) none ∙ behind-nothing script more.version)) reads
parts_read script more k (line ∷ next ∷ parts) short reads said =
    let here = line_read script k line (omega (arith, short.0)) reads said.0 in
    let later : Lines = record { version = more.version; declarations = said.1; lanes = said.2; steps = said.3 } in
    let front : in_front (says k line) (form_of (names_of script) (words_of line)) (source k line) later ≡ more =
    (λ j. record { version = more.version; declarations = sym said.4 j; lanes = sym said.5 j; steps = sym said.6 j }) in
    subst Reads (behind-line script later k line ∙ ap (behind script) front)
    (parts_read (with_next script k line) later (suc k) (next ∷ parts) short.1 here.0
    (subst (λ (scope : Scope). SaysThese scope (suc k) (next ∷ parts) later) (sym here.1) said.7))

-- no part is longer than the text
shorter : (m n : ℕ) (parts : List (List ℕ)) → m ≤ n → AreShort m parts → AreShort n parts
unfolding AreShort
shorter m n [] le h = tt
shorter m n (part ∷ parts) le h = (omega (arith, le, h.0), shorter m n parts le h.1)

parts_short : (text : List ℕ) → AreShort (length text) (parts_of text)
unfolding AreShort
parts_short [] = (omega arith, tt)
parts_short (b ∷ bs) = by_end (b == 10) (parts_of bs) (parts_short bs)
  where
    by_end : (t : Bool) (parts : List (List ℕ)) → AreShort (length bs) parts
        → AreShort (suc (length bs)) (if t then [] ∷ parts else onto_first b parts)
    by_end true parts h = (omega arith, shorter (length bs) (suc (length bs)) parts (omega arith) h)
    by_end false [] h = (omega arith, tt)
    by_end false (part ∷ parts) h = (omega (arith, h.0), shorter (length bs) (suc (length bs)) parts (omega arith) h.1)

-- a script with the lists that it can be kept as
pub record CanBeRead (script : Lines) : Type 0 where
  pub entries : List (String Global × Named)
  pub declarations : List Declaration
  pub lanes : List Lane
  pub steps : List Step
  pub declared : map (λ d. source_of d.line) declarations ≡ script.declarations
  pub laid : map (λ l. source_of l.line) lanes ≡ script.lanes
  pub asked : map (λ s. source_of s.line) steps ≡ script.steps
  pub reading : IsReading script entries declarations lanes (capacities_of lanes) steps

pub can_be_read : (text : List ℕ) (script : Lines) → IsScript text script → CanBeRead script
can_be_read text script is =
    let v = version_of text in
    let few = script_short text script is in
    let read = parts_read (no_lines v) script 1 (parts_of text)
    (shorter (length text) 1048576 (parts_of text) is.short (parts_short text)) (nothing v) is.says in
    let r : Reads script = subst Reads
    (λ j. record { version = sym is.version j; declarations = script.declarations; lanes = script.lanes; steps = script.steps }) read in
    let so_far = r.so_far in
    let declared = ap (λ (s : Lines). s.declarations) r.is in
    let laid = ap (λ (s : Lines). s.lanes) r.is in
    let asked = ap (λ (s : Lines). s.steps) r.is in
    record {
      entries = r.entries;
      declarations = r.declarations;
      lanes = r.lanes;
      steps = r.steps;
      declared = declared;
      laid = laid;
      asked = asked;
      reading = record {
        names = so_far.names;
        gives = so_far.gives;
        given = so_far.given;
        declarations = so_far.declarations;
        lanes = so_far.lanes;
        capacities_are = refl;
        steps = so_far.steps;
        earlier = so_far.earlier;
        threads = omega (arith, so_far.count, so_far.limit);
        few = omega (arith, few.0, ap length declared, length-map r.declarations (λ (d : Declaration). source_of d.line));
        narrow = omega (arith, few.1, ap length laid, length-map r.lanes (λ (l : Lane). source_of l.line));
        short = omega (arith, few.2, ap length asked, length-map r.steps (λ (s : Step). source_of s.line));
      };
    }
