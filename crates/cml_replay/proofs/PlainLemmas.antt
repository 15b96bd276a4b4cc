-- What is so of a script without rings.
use Rattle.std.proofs.Common.{◌≡◌, inl, inr, ℕ, zero, suc, ◌&&◌, Bool, true, false, cond, List, [], ◌∷◌, take, filter}
use Rattle.std.proofs.Common.{slice_get, Option, Some, None, refl, sym, ap, ◌∙◌}
use Rattle.std.specs.Prelude.{not, min}
use Rattle.std.specs.Option.{option_map, option_map_or, option_and_then}
use Rattle.std.specs.List.{find}
use Rattle.std.proofs.lemmas.Option.{none-some, same_Some}
use Rattle.std.proofs.lemmas.Bool.{true≢false, false≢true, false_from_ne_true}
use Rattle.cml_calls.specs.declared.table.Give.TheVariants as give
use Rattle.cml_calls.specs.declared.table.Ask.TheVariants as ask
use Rattle.cml_board.specs.declared.entry.Who.TheVariants.{Seat, Feed}
use Rattle.cml_grammar.specs.{Declares, Action, Given, position_of, declares_of, SourceLine, Lines, names_of, makes_of, makes_by, action_of}
use Rattle.cml_grammar.specs.{seat_of_step, lesser, first_lane, first_feed, first_ring, declares_feed, makes_feed, is_feed as is_feed_word}
use Rattle.cml_grammar.specs.{capacity_of}
use Rattle.cml_grammar.specs.declared.forms.Declares.TheVariants as declares
use Rattle.cml_grammar.specs.declared.forms.Action.TheVariants as action
use Rattle.cml_report.specs.declared.route.Route.TheVariants as route
use Rattle.cml_report.specs.{how_many, is_feed, is_seated, is_called, is_apart, is_by_ring, objects_of, is_object, maker, feed_at}
use Rattle.cml_report.specs.{feed_route, lane_route, route_of}
use Rattle.cml_report.proofs.ListLemmas.{cases_Option, passing}
use Rattle.cml_report.proofs.LineLemmas.{and_true}

-- neither of two is there where the lesser isn't
neither : (one other : Option ℕ) → lesser one other ≡ None → (one ≡ None) × (other ≡ None)
neither None other e = (refl, e)
neither (Some n) None e = absurd (none-some n (sym e))
neither (Some n) (Some m) e = absurd (none-some (min n m) (sym e))

none_mapped : (f : SourceLine → ℕ) (o : Option SourceLine) → option_map f o ≡ None → o ≡ None
none_mapped f None e = refl
none_mapped f (Some line) e = absurd (none-some (f line) (sym e))

no_lines : (lines : List SourceLine) → slice_get lines 0 ≡ None → lines ≡ []
no_lines [] e = refl
no_lines (line ∷ lines) e = absurd (none-some line (sym e))

-- what is not found is nowhere
none_found : (p : SourceLine → Bool) (lines : List SourceLine) → find p lines ≡ None → (i : ℕ) (line : SourceLine)
    → slice_get lines i ≡ Some line → p line ≡ false
none_found p [] none i line found = absurd (none-some line found)
none_found p (first ∷ lines) none i line found = by (p first) refl none i found (none_found p lines)
  where
    by : (t : Bool) → p first ≡ t → cond t (Some first) (find p lines) ≡ None → (i : ℕ) → slice_get (first ∷ lines) i ≡ Some line
        → (find p lines ≡ None → (i : ℕ) (line : SourceLine) → slice_get lines i ≡ Some line → p line ≡ false) → p line ≡ false
    by true e none i found later = cc
    by false e none zero found later = ap p (sym (same_Some _ _ found)) ∙ e
    by false e none (suc i) found later = later none i line found

-- only the line of a feed makes a feed
feed_made : (names : List Given) (d : Declares) (rest : List (List ℕ))
    → option_map_or makes_feed (makes_by names d rest) false ≡ true → d ≡ declares.Feed
feed_made names declares.Feed rest e = refl
feed_made names declares.Port (channel ∷ rest) e =
    elim (cases_Option (position_of names channel)) [
      | inl there ↦ absurd (false≢true (rw there.1 at e))
      | inr none ↦ absurd (false≢true (rw none at e))
    ]
feed_made names declares.MVar (name ∷ message ∷ []) e = absurd (false≢true e)
feed_made names d rest e = absurd (false≢true e)

feed_declared : (names : List Given) (words : List (List ℕ))
    → option_map_or makes_feed (makes_of names words) false ≡ true → declares_feed words ≡ true
feed_declared names [] e = absurd (false≢true e)
feed_declared names (word ∷ rest) e = by_declares (declares_of word) e
  where
    by_declares : (d : Option Declares) → option_map_or makes_feed (option_and_then (λ x. makes_by names x rest) d) false ≡ true
        → option_map_or is_feed_word d false ≡ true
    by_declares None e = absurd (false≢true e)
    by_declares (Some d) e = ap is_feed_word (feed_made names d rest e)

module _ (script : Lines) (plain : first_ring script ≡ None) where
  both : (first_lane script ≡ None) × (first_feed script ≡ None)
  both = neither (first_lane script) (first_feed script) plain

  pub plain_lanes : script.lanes ≡ []
  plain_lanes = no_lines script.lanes (none_mapped (λ (line : SourceLine). line.number) (slice_get script.lanes 0) both.0)

  pub plain_feed : (i : ℕ) (line : SourceLine) → slice_get script.declarations i ≡ Some line → is_feed script line ≡ false
  plain_feed i line found = false_from_ne_true (is_feed script line) (λ feed.
      let none = none_mapped (λ (line : SourceLine). line.number)
      (find (λ (line : SourceLine). declares_feed line.words) script.declarations) both.1 in
      true≢false (sym (feed_declared (names_of script) line.words feed)
      ∙ none_found (λ (line : SourceLine). declares_feed line.words) script.declarations none i line found))

  no_capacity : (seat : Option ℕ) (at : ℕ) → option_and_then (λ (s : ℕ). capacity_of (names_of script) script.lanes (s, at)) seat ≡ None
  no_capacity None at = refl
  no_capacity (Some s) at = ap (λ l. capacity_of (names_of script) l (s, at)) plain_lanes

  no_feed : (at : ℕ) → feed_at script at ≡ None
  no_feed at = ap (λ t. cond t (Some (how_many (is_feed script) (take at script.declarations))) None)
      (false_from_ne_true (option_map_or (is_feed script) (slice_get script.declarations at) false) (λ feed.
      let line = passing (is_feed script) (slice_get script.declarations at) feed in
      true≢false (sym line.2 ∙ plain_feed at line.0 line.1)))

  -- each step is performed by its thread's seat
  no_route : (seat : Option ℕ) (a : Action) → is_by_ring (route_of script seat a) ≡ false
  no_route seat (action.Give give.Send at message) = ap (λ o. is_by_ring (lane_route o)) (no_capacity seat at)
  no_route seat (action.Give give.Cast at message) = ap (λ o. is_by_ring (lane_route o)) (no_capacity seat at)
  no_route seat (action.Ask ask.Poll at) = ap (λ o. is_by_ring (feed_route o)) (no_feed at)
  no_route seat a = refl

  none_apart : (line : SourceLine) → is_apart script line ≡ false
  none_apart line = by_action (action_of (names_of script) line.words)
    where
      by_action : (a : Option Action)
          → is_by_ring (option_map_or (route_of script (seat_of_step (names_of script) line.words)) a route.Seat) ≡ false
      by_action None = refl
      by_action (Some a) = no_route (seat_of_step (names_of script) line.words) a

  pub plain_called : (seat : ℕ) (line : SourceLine) → is_called script seat line ≡ is_seated script seat line
  plain_called seat line = ap (λ t. is_seated script seat line && not t) (none_apart line) ∙ and_true (is_seated script seat line)

  pub plain_count : (seat : ℕ) (lines : List SourceLine) → how_many (is_called script seat) lines ≡ how_many (is_seated script seat) lines
  plain_count seat [] = refl
  plain_count seat (line ∷ lines) = rw (plain_called seat line, plain_count seat lines) refl

  -- and each object made by seat 0
  objects_plain : (lines : List SourceLine) → ((i : ℕ) (line : SourceLine) → slice_get lines i ≡ Some line → is_feed script line ≡ false)
      → (k : ℕ) → option_map_or (is_feed script) (slice_get (filter (is_object script) lines) k) false ≡ false
  objects_plain [] none k = refl
  objects_plain (line ∷ lines) none k = by_test (is_object script line) k (objects_plain lines (λ i l found. none (suc i) l found))
    where
      by_test : (t : Bool) (k : ℕ)
          → ((k : ℕ) → option_map_or (is_feed script) (slice_get (filter (is_object script) lines) k) false ≡ false) → option_map_or
          (is_feed script) (slice_get (cond t (line ∷ filter (is_object script) lines) (filter (is_object script) lines)) k) false ≡ false
      by_test true zero later = none 0 line refl
      by_test true (suc k) later = later k
      by_test false k later = later k

  pub plain_maker : (k : ℕ) → maker script k ≡ Seat 0
  plain_maker k = ap (λ t. cond t (Feed (how_many (is_feed script) (take k (objects_of script)))) (Seat 0))
      (objects_plain script.declarations plain_feed k)
