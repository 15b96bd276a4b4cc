-- The same, in the words of the code: what was inserted and pushed, and the value that was seen before.
use Rattle.std.proofs.Common.{◌≡◌, ℕ, ◌+◌, List, [], ◌∷◌, ◌++◌, length, Some, None, String, string_bytes, sym, ap, ◌∙◌, subst, Option}
use Rattle.std.proofs.lemmas.List.{append-nil}
use Rattle.std.proofs.Common.{false}
use Rattle.std.specs.Global.{Global}
use Rattle.std.specs.String.{string_eq}
use Rattle.indexmap.specs.IndexMap.{insert_entry}
use Rattle.cml_grammar.specs.{Named, Declares, Verb, Declaration, Lane, Step, words_of, is_given, declaration, step, declared_places}
use Rattle.cml_grammar.specs.{step_places, fresh_word, owner_of, named_by, Ends, after_words, given_as, Lines, scope_of, names_of, makes_by}
use Rattle.cml_grammar.specs.{action_by, view_of, texts_of, UsesWell, IsMadeWell, IsReadSoFar, threads_by}
use Rattle.cml_grammar.specs.declared.names.Named.TheVariants as called
use Rattle.cml_grammar.specs.declared.names.Users.TheVariants as users
use Rattle.cml_grammar.proofs.NameLemmas.{Names, inserted_texts}
use Rattle.cml_grammar.proofs.TableLemmas.{fresh_suits}
use Rattle.cml_grammar.proofs.ReadingLemmas.{ReadFrom, kept_suits}
use Rattle.cml_grammar.proofs.KeepingLemmas.{declared_scope, declared_so_far, asked_scope, asked_so_far}

module _ (v : ℕ) (now : Lines) (m : Names) (ds ds' : List Declaration) (ls : List Lane)
    (cs : List (Ends × ℕ)) (ss : List Step) (threads : ℕ)
    (d : Declaration) (what : Declares) (rest : List (List ℕ)) (name : List ℕ)
    (seen : view_of v ds ls ss ≡ now)
    (so_far : IsReadSoFar (view_of v ds ls ss) m.entries ds ls cs ss threads)
    (read : ReadFrom now d.line (declaration what rest))
    (there : fresh_word (declared_places what rest) rest ≡ Some name)
    (makes : makes_by (texts_of m.entries) what rest ≡ Some d.makes)
    (well : IsMadeWell (texts_of m.entries) (length (texts_of m.entries)) d.makes)
    (pushed : ds' ≡ ds ++ d ∷ []) where
  before : ReadFrom (view_of v ds ls ss) d.line (declaration what rest)
  before = subst (λ (s : Lines). ReadFrom s d.line (declaration what rest)) (sym seen) read

  fresh : is_given (texts_of m.entries) name ≡ false
  fresh = (fresh_suits (texts_of m.entries) (declared_places what rest) rest name
      (kept_suits now (view_of v ds ls ss) (texts_of m.entries) d.line (declaration what rest) seen so_far.names read) there).1

  made : makes_by (names_of (view_of v ds ls ss)) what rest ≡ Some d.makes
  made = ap (λ gs. makes_by gs what rest) (sym so_far.names) ∙ makes

  made_well : IsMadeWell (names_of (view_of v ds ls ss)) (length (names_of (view_of v ds ls ss))) d.makes
  made_well = subst (λ gs. IsMadeWell gs (length gs) d.makes) so_far.names well

  pub declared_closes : (es' : List (String Global × Named)) (threads' : ℕ) (key : String Global) (n : Named)
      → string_bytes key ≡ name → n ≡ named_by what threads (owner_of (texts_of m.entries) rest)
      → es' ≡ insert_entry string_eq m.entries key n → threads' ≡ threads + threads_by what
      → IsReadSoFar (view_of v ds' ls ss) es' ds' ls cs ss threads'
  declared_closes es' threads' key n same named inserted counted =
      let entries = ap texts_of inserted ∙ inserted_texts m key n name same fresh
      ∙ ap (λ k. texts_of m.entries ++ (name, k) ∷ []) (named ∙ ap (λ gs. named_by what threads (owner_of gs rest)) so_far.names) in
      let whole = declared_so_far v m.entries ds ls cs ss threads d what rest name so_far before there made made_well es' entries in
      subst (λ (t : ℕ). IsReadSoFar (view_of v ds' ls ss) es' ds' ls cs ss t) (sym counted)
      (subst (λ (xs : List Declaration). IsReadSoFar (view_of v xs ls ss) es' xs ls cs ss (threads + threads_by what)) (sym pushed) whole)

  pub declared_scopes : scope_of (view_of v ds' ls ss) ≡ after_words (scope_of now) (words_of (string_bytes d.line.text))
  declared_scopes =
      ap (λ (xs : List Declaration). scope_of (view_of v xs ls ss)) pushed
      ∙ declared_scope v m.entries ds ls cs ss threads d what rest name so_far before there made made_well
      ∙ ap (λ (s : Lines). after_words (scope_of s) (words_of (string_bytes d.line.text))) seen

module _ (v : ℕ) (now : Lines) (m : Names) (ds : List Declaration) (ls : List Lane) (cs : List (Ends × ℕ))
    (ss ss' : List Step) (threads : ℕ)
    (s : Step) (verb : Verb) (rest : List (List ℕ))
    (seen : view_of v ds ls ss ≡ now)
    (so_far : IsReadSoFar (view_of v ds ls ss) m.entries ds ls cs ss threads)
    (read : ReadFrom now s.line (step s.seat verb rest))
    (action : action_by (texts_of m.entries) verb rest ≡ Some s.action)
    (uses : UsesWell (texts_of m.entries) s.action)
    (pushed : ss' ≡ ss ++ s ∷ []) where
  before_step : ReadFrom (view_of v ds ls ss) s.line (step s.seat verb rest)
  before_step = subst (λ (x : Lines). ReadFrom x s.line (step s.seat verb rest)) (sym seen) read

  means : action_by (names_of (view_of v ds ls ss)) verb rest ≡ Some s.action
  means = ap (λ gs. action_by gs verb rest) (sym so_far.names) ∙ action

  uses_well : UsesWell (names_of (view_of v ds ls ss)) s.action
  uses_well = subst (λ gs. UsesWell gs s.action) so_far.names uses

  closes : (es' : List (String Global × Named))
      → texts_of es' ≡ texts_of m.entries ++ given_as (called.Port (users.One s.seat)) (fresh_word (step_places verb) rest)
      → IsReadSoFar (view_of v ds ls ss') es' ds ls cs ss' threads
  closes es' entries =
      subst (λ (xs : List Step). IsReadSoFar (view_of v ds ls xs) es' ds ls cs xs threads) (sym pushed)
      (asked_so_far v m.entries ds ls cs ss threads s verb rest so_far before_step means uses_well es' entries)

  -- a step that gives no name, and one that does
  pub asked_closes : fresh_word (step_places verb) rest ≡ None → IsReadSoFar (view_of v ds ls ss') m.entries ds ls cs ss' threads
  asked_closes none =
      closes m.entries (sym (ap (λ (o : Option (List ℕ)). texts_of m.entries ++ given_as (called.Port (users.One s.seat)) o) none
      ∙ append-nil (texts_of m.entries)))

  pub giving_closes : (name : List ℕ) → fresh_word (step_places verb) rest ≡ Some name
      → (es' : List (String Global × Named)) (key : String Global)
      → string_bytes key ≡ name → es' ≡ insert_entry string_eq m.entries key (called.Port (users.One s.seat))
      → IsReadSoFar (view_of v ds ls ss') es' ds ls cs ss' threads
  giving_closes name there es' key same inserted =
      let suits = kept_suits now (view_of v ds ls ss) (texts_of m.entries) s.line (step s.seat verb rest) seen so_far.names read in
      let free = (fresh_suits (texts_of m.entries) (step_places verb) rest name suits there).1 in
      closes es' (
      ap texts_of inserted
      ∙ inserted_texts m key (called.Port (users.One s.seat)) name same free
      ∙ sym (ap (λ (o : Option (List ℕ)). texts_of m.entries ++ given_as (called.Port (users.One s.seat)) o) there))

  pub asked_scopes : scope_of (view_of v ds ls ss') ≡ after_words (scope_of now) (words_of (string_bytes s.line.text))
  asked_scopes =
      ap (λ (xs : List Step). scope_of (view_of v ds ls xs)) pushed
      ∙ asked_scope v m.entries ds ls cs ss threads s verb rest so_far before_step means uses_well
      ∙ ap (λ (x : Lines). after_words (scope_of x) (words_of (string_bytes s.line.text))) seen
