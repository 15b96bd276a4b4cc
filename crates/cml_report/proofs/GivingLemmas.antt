-- Which names the steps give, and which step is a thread's next.
use Rattle.std.proofs.Common.{◌≡◌, ℕ, ◌+◌, ◌<◌, ◌≤◌, Bool, true, false, cond, eqb, ltb, List, [], ◌∷◌, length, take, slice_get, Option}
use Rattle.std.proofs.Common.{Some, None, MatchBool, count_by, refl, sym, ap, subst, ◌∙◌, arith, inl, inr, zero-add}
use Rattle.std.specs.Prelude.{not}
use Rattle.std.specs.Option.{option_map_or, option_and_then}
use Rattle.std.proofs.lemmas.Option.{cond_some}
use Rattle.std.proofs.lemmas.List.Sums.{sum_by-cons}
use Rattle.std.proofs.lemmas.Bool.{cases_eq, cases_order, eqb-true, ne_eqb, true≢false}
use Rattle.cml_board.specs.{Call, Who}
use Rattle.cml_board.specs.declared.entry.Who.TheVariants.{Seat, Lane, Feed}
use Rattle.cml_grammar.specs.{SourceLine, Lines, is_giving, names_before}
use Rattle.cml_report.specs.{one_if, how_many, IsOfScript, IsOfCaller, History, IsReady, IsStep, IsDeclaration, Follows, declared_count}
use Rattle.cml_report.specs.{is_called, earlier, performed, positions_from, next_position, given_by, gives_next, is_of_thread, HasSeats}
use Rattle.cml_report.proofs.ListLemmas.{counted_mono, taken_count, count_taken, none_unless, passing}
use Rattle.cml_report.proofs.LineLemmas.{called_seated}
use Rattle.cml_report.proofs.QueueLemmas.{position_is, position_of_step}

pub counted_same : {X : Type 0} (p : X → Bool) (xs : List X) → count_by p xs ≡ how_many p xs
counted_same p [] = refl
counted_same p (x ∷ xs) = sum_by-cons (λ y. cond (p y) 1 0) x xs ∙ ap (λ n. one_if (p x) + n) (counted_same p xs)

-- the name that the caller's next call gives
abbrev pub giver : Lines → History → Who → Option ℕ
giver script before who = option_and_then (given_by script) (next_position script before who)

module _ (script : Lines) where
  -- names before a giving step are fewer than names before a later step
  pub names_mono : (i j : ℕ) (line : SourceLine) → i < j → slice_get script.steps i ≡ Some line → is_giving line ≡ true
      → names_before script.declarations script.steps i < names_before script.declarations script.steps j
  names_mono i j line lt found gives =
      let counted = counted_mono is_giving script.steps i j line lt found gives in
      omega (arith, counted, counted_same is_giving (take i script.steps), counted_same is_giving (take j script.steps))

  pub names_le : (i j : ℕ) → i ≤ j → names_before script.declarations script.steps i ≤ names_before script.declarations script.steps j
  names_le i j le =
      let counted = taken_count is_giving script.steps i j le in
      omega (arith, counted, counted_same is_giving (take i script.steps), counted_same is_giving (take j script.steps))

  pub names_more : (i : ℕ) (line : SourceLine) → slice_get script.steps i ≡ Some line
      → names_before script.declarations script.steps (i + 1) ≡ names_before script.declarations script.steps i + one_if (is_giving line)
  names_more i line found =
      omega (
        arith,
        count_taken is_giving script.steps i line found,
        counted_same is_giving (take i script.steps),
        counted_same is_giving (take (i + 1) script.steps),
      )

  pub given_at : (i : ℕ) (line : SourceLine) → slice_get script.steps i ≡ Some line
      → given_by script i ≡ cond (is_giving line) (Some (names_before script.declarations script.steps i)) None
  given_at i line found = ap (λ (l : Option SourceLine).
      cond (option_map_or is_giving l false) (Some (names_before script.declarations script.steps i)) None) found

  -- the line of a step that gives this name
  pub given_line : (i at : ℕ) → given_by script i ≡ Some at → (line : SourceLine) × (slice_get script.steps i ≡ Some line)
      × (is_giving line ≡ true) × (names_before script.declarations script.steps i ≡ at)
  given_line i at given =
      let is =
      cond_some (option_map_or is_giving (slice_get script.steps i) false) (names_before script.declarations script.steps i) at given in
      let line = passing is_giving (slice_get script.steps i) is.0 in
      (line.0, line.1, line.2, is.1)

  -- two steps give two names
  pub given_once : (i j at : ℕ) → given_by script i ≡ Some at → given_by script j ≡ Some at → i ≡ j
  given_once i j at one two =
      let first = given_line i at one in
      let second = given_line j at two in
      elim (cases_order i j) [
        | inl same ↦ same
        | inr (inl lt) ↦ absurd (omega (arith, names_mono i j first.0 lt first.1 first.2, first.3, second.3))
        | inr (inr gt) ↦ absurd (omega (arith, names_mono j i second.0 gt second.1 second.2, first.3, second.3))
      ]

  module _ (history : History) where
    -- the step that is ready is its thread's next
    pub next_is : (seat i : ℕ) (asked : Call (List ℕ)) → IsReady script history i seat asked
        → next_position script history (Seat seat) ≡ Some i
    next_is seat i asked ready =
        ap (slice_get (positions_from script seat 0 script.steps)) (sym ready.next)
        ∙ position_of_step (is_called script seat) 0 script.steps i ready.line ready.found ready.seated ∙ ap Some (zero-add i)

    -- a step of a thread, after those that it performed, is its next
    pub next_at : (seat i : ℕ) (line : SourceLine) → slice_get script.steps i ≡ Some line → is_called script seat line ≡ true
        → earlier script seat i ≡ performed history seat → next_position script history (Seat seat) ≡ Some i
    next_at seat i line found seated same =
        ap (slice_get (positions_from script seat 0 script.steps)) (sym same)
        ∙ position_of_step (is_called script seat) 0 script.steps i line found seated ∙ ap Some (zero-add i)

    -- no step is the first seat's
    pub none_first : HasSeats script → next_position script history (Seat 0) ≡ None
    none_first seats = none_unless _ (λ i e.
        let there = position_is (is_called script 0) 0 script.steps (performed history 0) i e in
        omega (arith, (seats there.place there.line 0 there.found (called_seated script 0 there.line there.seated)).0))

    -- nor another's that is no thread's
    pub none_other : HasSeats script → (who : Who) → is_of_thread who ≡ false → next_position script history who ≡ None
    none_other seats (Lane l) other = refl
    none_other seats (Feed f) other = refl
    none_other seats (Seat s) other = elim (cases_eq s 0) [
      | inl first ↦ ap (λ n. next_position script history (Seat n)) first ∙ none_first seats
      | inr differs ↦ absurd (true≢false (ap not (sym (ne_eqb s 0 differs)) ∙ other))
    ]

    pub gives_as : (who : Who) (at : ℕ) (g : Option ℕ) → giver script history who ≡ g
        → gives_next script history who at ≡ option_map_or (λ n. eqb n at) g false
    gives_as who at g e = ap (λ o. option_map_or (λ n. eqb n at) o false) e

    -- a call that gives this name performs the step that gives it
    pub gives_that : (who : Who) (at : ℕ) → gives_next script history who at ≡ true → giver script history who ≡ Some at
    gives_that who at gives =
        let given = passing (λ n. eqb n at) (giver script history who) gives in given.1 ∙ ap Some (eqb-true given.0 at given.2)

-- a step that is the least that is ready is its thread's next, and so what follows the schedule is the script's
pub follows_own : (script : Lines) (history : History) → Follows script history → IsOfScript script history
follows_own script [] follows = tt
follows_own script (entry ∷ before) follows =
    (by_bool (ltb (length before) (declared_count script)) follows.0, follows_own script before follows.1)
  where
    by_bool : (t : Bool) → MatchBool t (IsDeclaration script before entry) (IsStep script before entry)
        → MatchBool t (IsDeclaration script before entry) (IsOfCaller script before entry entry.who)
    by_bool true declares = declares
    by_bool false step = subst (IsOfCaller script before entry) (sym step.by) (record {
      step = step.step;
      next = ap (next_position script before) step.by ∙ next_is script before step.seat step.step entry.call step.ready;
      calls = step.ready.calls;
    })
