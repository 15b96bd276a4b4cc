-- What holds of the lines so far holds with one more lane.
use Rattle.std.proofs.Common.{◌≡◌, ℕ, false, List, [], ◌∷◌, ◌++◌, Some, None, String, string_bytes, All, refl, sym, ap, ◌∙◌, subst}
use Rattle.std.specs.Global.{Global}
use Rattle.std.specs.Map.{keys_of, lookup}
use Rattle.std.specs.List.{list_any}
use Rattle.std.specs.Option.{option_map_or}
use Rattle.std.specs.declared.hash.FoldHasher.{FoldHasher}
use Rattle.std.specs.declared.hash.BuildHasherDefault.{BuildHasherDefault}
use Rattle.std.proofs.lemmas.Map.Made.{is_some-lookup}
use Rattle.std.proofs.lemmas.List.{map-append}
use Rattle.std.proofs.lemmas.List.Elements.{All-push}
use Rattle.indexmap.specs.IndexMap.{IndexMap, insert_entry}
use Rattle.indexmap.proofs.CallerLemmas.{insert_entry-new}
use Rattle.cml_grammar.specs.{Named, Declaration, Lane, Step, words_of, lane, Ends, after_words, are_same, Lines, scope_of, names_of}
use Rattle.cml_grammar.specs.{lane_by, lane_of, view_of, texts_of, ReadsLane, capacities_of, IsReadSoFar}
use Rattle.cml_grammar.proofs.FormLemmas.{line_by}
use Rattle.cml_grammar.proofs.GrowingLemmas.{ends_said, ends_kept}
use Rattle.cml_grammar.proofs.SuitingLemmas.{said_well}
use Rattle.cml_grammar.proofs.ReadingLemmas.{view-lane, ReadFrom, read_passes, kept_suits}
use Rattle.cml_grammar.proofs.KeepingLemmas.{next_scope}
use Rattle.cml_grammar.proofs.NameLemmas.{Names, absent}

module _ (v : ℕ) (es : List (String Global × Named)) (ds : List Declaration) (ls : List Lane)
    (cs : List (Ends × ℕ)) (ss : List Step) (threads : ℕ)
    (l : Lane) (rest : List (List ℕ))
    (so_far : IsReadSoFar (view_of v ds ls ss) es ds ls cs ss threads)
    (read : ReadFrom (view_of v ds ls ss) l.line (lane rest))
    (says : lane_by (names_of (view_of v ds ls ss)) rest ≡ Some ((l.seat, l.target), l.capacity)) where
  pub laid_scope : scope_of (view_of v ds (ls ++ l ∷ []) ss) ≡ after_words (scope_of (view_of v ds ls ss))
      (words_of (string_bytes l.line.text))
  laid_scope =
      ap scope_of (view-lane v ds ls ss l rest read.is)
      ∙ next_scope v es ds ls cs ss threads so_far l.line.number (string_bytes l.line.text) read.fits

  laid_lanes : All (ReadsLane (names_of (view_of v ds ls ss))) (ls ++ l ∷ [])
  laid_lanes =
      let names = names_of (view_of v ds ls ss) in
      let line = line_by names (words_of (string_bytes l.line.text)) (lane rest) read.is in
      let well = said_well names rest ((l.seat, l.target), l.capacity) so_far.seats
      (kept_suits (view_of v ds ls ss) (view_of v ds ls ss) names l.line (lane rest) refl refl read) says in
      All-push (ReadsLane names) ls l so_far.lanes
      (record { says = ap (lane_of names) line.1 ∙ says; seated = well.0; target = well.1; capacity = well.2 })

  pub laid_so_far : (cs' : List (Ends × ℕ)) → cs' ≡ cs ++ ((l.seat, l.target), l.capacity) ∷ []
      → IsReadSoFar (view_of v ds (ls ++ l ∷ []) ss) es ds (ls ++ l ∷ []) cs' ss threads
  laid_so_far cs' grown = record {
    names = so_far.names;
    gives = so_far.gives;
    given = so_far.given;
    declarations = so_far.declarations;
    lanes = laid_lanes;
    capacities_are = same;
    steps = so_far.steps;
    earlier = so_far.earlier;
    count = so_far.count;
    limit = so_far.limit;
    seats = so_far.seats;
    started = so_far.started;
    ends = ends_kept (names_of (view_of v ds ls ss)) (ls ++ l ∷ []) laid_lanes ∙ ap keys_of (sym same);
  }
    where
      same : cs' ≡ capacities_of (ls ++ l ∷ [])
      same =
          grown
          ∙ ap (λ xs. xs ++ ((l.seat, l.target), l.capacity) ∷ []) so_far.capacities_are
          ∙ sym (map-append (λ (x : Lane). ((x.seat, x.target), x.capacity)) ls (l ∷ []))

  -- no lane had these ends
  pub laid_is_new : lookup (are_same (l.seat, l.target)) cs ≡ None
  laid_is_new =
      absent _ (
      is_some-lookup (are_same (l.seat, l.target)) cs
      ∙ ap (list_any (are_same (l.seat, l.target))) (sym so_far.ends)
      ∙ ap (λ o. option_map_or (λ ends. list_any (are_same ends) (scope_of (view_of v ds ls ss)).lanes) o false)
      (sym (ends_said (names_of (view_of v ds ls ss)) rest ((l.seat, l.target), l.capacity) says))
      ∙ (read_passes (view_of v ds ls ss) l.line (lane rest) read).unlaid)

-- ---- the same, in the words of the code
abbrev Capacities : Type 0
Capacities = IndexMap Ends ℕ (BuildHasherDefault FoldHasher)

module _ (v : ℕ) (now : Lines) (m : Names) (capacities : Capacities) (ds : List Declaration)
    (ls ls' : List Lane) (ss : List Step) (threads : ℕ)
    (l : Lane) (rest : List (List ℕ))
    (seen : view_of v ds ls ss ≡ now)
    (so_far : IsReadSoFar (view_of v ds ls ss) m.entries ds ls capacities.entries ss threads)
    (read : ReadFrom now l.line (lane rest))
    (says : lane_by (texts_of m.entries) rest ≡ Some ((l.seat, l.target), l.capacity))
    (pushed : ls' ≡ ls ++ l ∷ []) where
  before : ReadFrom (view_of v ds ls ss) l.line (lane rest)
  before = subst (λ (s : Lines). ReadFrom s l.line (lane rest)) (sym seen) read

  says_there : lane_by (names_of (view_of v ds ls ss)) rest ≡ Some ((l.seat, l.target), l.capacity)
  says_there = ap (λ gs. lane_by gs rest) (sym so_far.names) ∙ says

  pub laid_closes : (cs' : List (Ends × ℕ)) → cs' ≡ insert_entry are_same capacities.entries (l.seat, l.target) l.capacity
      → IsReadSoFar (view_of v ds ls' ss) m.entries ds ls' cs' ss threads
  laid_closes cs' inserted =
      subst (λ (xs : List Lane). IsReadSoFar (view_of v ds xs ss) m.entries ds xs cs' ss threads) (sym pushed)
      (laid_so_far v m.entries ds ls capacities.entries ss threads l rest so_far before says_there cs'
      (inserted ∙ insert_entry-new are_same capacities (l.seat, l.target) l.capacity
      (laid_is_new v m.entries ds ls capacities.entries ss threads l rest so_far before says_there)))

  pub laid_scopes : scope_of (view_of v ds ls' ss) ≡ after_words (scope_of now) (words_of (string_bytes l.line.text))
  laid_scopes =
      ap (λ (xs : List Lane). scope_of (view_of v ds xs ss)) pushed
      ∙ laid_scope v m.entries ds ls capacities.entries ss threads l rest so_far before says_there
      ∙ ap (λ (s : Lines). after_words (scope_of s) (words_of (string_bytes l.line.text))) seen
