-- The positions of the lines that pass a test, and of a thread's steps.
use Rattle.std.proofs.Common.{◌≡◌, ℕ, zero, suc, ◌+◌, ◌-◌, ◌<◌, ◌≤◌, ◌⊎◌, inl, inr, None, Option, slice_set, get_or, map}
use Rattle.std.proofs.Common.{Bool, true, false, cond, eqb, List, [], ◌∷◌, ◌++◌, length, take, slice_get, Some, refl, sym}
use Rattle.std.proofs.Common.{ap, ◌∙◌, arith, add-zero, one-add, zero-add}
use Rattle.std.specs.Prelude.{Vec, All, MatchOption, IfSome}
use Rattle.std.specs.Borrow.{Bor}
use Rattle.std.specs.Global.{Global}
use Rattle.std.specs.Option.{option_map}
use Rattle.std.proofs.lemmas.List.{append-nil, length-map, length-set, map-set, length-take-le}
use Rattle.std.proofs.lemmas.Bool.{eq-eqb, ne_eqb, cases_eq}
use Rattle.std.proofs.lemmas.Option.{same_Some, none-some, slice_get-map, slice_get_read, slice_get_within, slice_get_past}
use Rattle.cml_grammar.specs.{Makes, Declaration, Step, thread_count, names_of, source_of, ReadsDeclaration, ReadsStep, SourceLine, Lines}
use Rattle.cml_report.proofs.LineLemmas.{all_at, declaration_read}
use Rattle.cml_report.specs.{one_if, how_many, positions_where, AreQueues, items_of}
use Rattle.cml_board.proofs.ListLemmas.{slice_get-set_other}
use Rattle.cml_report.proofs.ListLemmas.{taken_more, mapped_at, set_at}

module _ (test : SourceLine → Bool) where
  -- one more step at the end
  pub positions_pushed : (k : ℕ) (lines : List SourceLine) (line : SourceLine)
      → positions_where test k (lines ++ line ∷ []) ≡ positions_where test k lines ++ cond (test line) ((k + length lines) ∷ []) []
  positions_pushed k [] line = rw (add-zero k) refl
  positions_pushed k (first ∷ lines) line =
      let same : suc k + length lines ≡ k + suc (length lines) = omega arith in
      let there = positions_pushed (suc k) lines line ∙ ap (λ n. positions_where test (suc k) lines ++ cond (test line) (n ∷ []) []) same in
      elim (test first) as (λ t. cond t (k ∷ positions_where test (suc k) (lines ++ line ∷ []))
      (positions_where test (suc k) (lines ++ line ∷ [])) ≡ cond t (k ∷ positions_where test (suc k) lines)
      (positions_where test (suc k) lines) ++ cond (test line) ((k + suc (length lines)) ∷ []) []) [
        | true ↦ ap (λ l. k ∷ l) there
        | false ↦ there
      ]

  -- as many as pass
  pub positions_count : (k : ℕ) (lines : List SourceLine) → length (positions_where test k lines) ≡ how_many (test) lines
  positions_count k [] = refl
  positions_count k (line ∷ lines) =
      let ih = positions_count (suc k) lines in
      elim (test line) as (λ t. length (cond t (k ∷ positions_where test (suc k) lines) (positions_where test (suc k) lines))
      ≡ one_if t + how_many test lines) [ true ↦ omega (arith, ih) | false ↦ omega (arith, ih) ]

  -- the item at a place of the list: a line that passes, after as many that do
  pub record StandsThere (k : ℕ) (lines : List SourceLine) (n i : ℕ) : Type 0 where
    pub place : ℕ
    pub line : SourceLine
    pub at : i ≡ k + place
    pub found : slice_get lines place ≡ Some line
    pub seated : test line ≡ true
    pub behind : how_many (test) (take place lines) ≡ n

  later : (k : ℕ) (first : SourceLine) (lines : List SourceLine) (m i : ℕ) (t : Bool) → test first ≡ t → StandsThere (suc k) lines m i
      → StandsThere k (first ∷ lines) (one_if t + m) i
  later k first lines m i t e s = record {
    place = suc s.place;
    line = s.line;
    at = omega (arith, s.at);
    found = s.found;
    seated = s.seated;
    behind = rw e (ap (λ n. one_if t + n) s.behind);
  }

  -- a position of the list is that of a line that passes, and as many that do are before it
  pub position_is : (k : ℕ) (lines : List SourceLine) (n i : ℕ)
      → slice_get (positions_where test k lines) n ≡ Some i → StandsThere k lines n i
  position_is k [] n i found = absurd (none-some i found)
  position_is k (first ∷ lines) n i found = by (test first) n refl found (λ m. position_is (suc k) lines m i)
    where
      by : (t : Bool) (n : ℕ) → test first ≡ t
          → slice_get (cond t (k ∷ positions_where test (suc k) lines) (positions_where test (suc k) lines)) n ≡ Some i
          → ((m : ℕ) → slice_get (positions_where test (suc k) lines) m ≡ Some i → StandsThere (suc k) lines m i)
          → StandsThere k (first ∷ lines) n i
      by true zero e same ih =
          record { place = 0; line = first; at = omega (arith, same_Some k i same); found = refl; seated = e; behind = refl }
      by true (suc n) e found ih = rw (← one-add n) (later k first lines n i true e (ih n found))
      by false n e found ih = rw (← zero-add n) (later k first lines n i false e (ih n found))

  -- and each line that passes is there
  pub position_of_step : (k : ℕ) (lines : List SourceLine) (j : ℕ) (line : SourceLine) → slice_get lines j ≡ Some line → test line ≡ true
      → slice_get (positions_where test k lines) (how_many (test) (take j lines)) ≡ Some (k + j)
  position_of_step k [] j line found seated = absurd (none-some line found)
  position_of_step k (first ∷ lines) zero line found seated =
      let first_passes : test first ≡ true = ap (test) (same_Some first line found) ∙ seated in
      rw (first_passes, add-zero k) refl
  position_of_step k (first ∷ lines) (suc j) line found seated =
      let there : slice_get (positions_where test (suc k) lines) (how_many test (take j lines)) ≡ Some (k + suc j) =
      position_of_step (suc k) lines j line found seated ∙ ap Some (omega arith) in
      elim (test first) as (λ t. slice_get (cond t (k ∷ positions_where test (suc k) lines) (positions_where test (suc k) lines))
      (one_if t + how_many test (take j lines)) ≡ Some (k + suc j)) [
        | true ↦ rw (one-add (how_many test (take j lines))) there
        | false ↦ rw (zero-add (how_many test (take j lines))) there
      ]

-- one line more
pub place_more : (test : SourceLine → Bool) (lines : List SourceLine) (i : ℕ) (line : SourceLine) → slice_get lines i ≡ Some line
    → positions_where test 0 (take (i + 1) lines) ≡ positions_where test 0 (take i lines) ++ cond (test line) (i ∷ []) []
place_more test lines i line found =
    let long : length (take i lines) ≡ i = length-take-le i lines (omega (arith, slice_get_within lines i line found)) in
    ap (positions_where test 0) (taken_more lines i line found) ∙ positions_pushed test 0 (take i lines) line
    ∙ ap (λ n. positions_where test 0 (take i lines) ++ cond (test line) (n ∷ []) []) (zero-add (length (take i lines)) ∙ long)

pub place_added : (test : SourceLine → Bool) (lines : List SourceLine) (i : ℕ) (line : SourceLine) (list : List ℕ)
    → slice_get lines i ≡ Some line → test line ≡ true → list ≡ positions_where test 0 (take i lines)
    → list ++ i ∷ [] ≡ positions_where test 0 (take (i + 1) lines)
place_added test lines i line list found passes so_far =
    ap (λ l. l ++ i ∷ []) so_far
    ∙ sym (place_more test lines i line found ∙ ap (λ t. positions_where test 0 (take i lines) ++ cond t (i ∷ []) []) passes)

pub place_kept : (test : SourceLine → Bool) (lines : List SourceLine) (i : ℕ) (line : SourceLine) (list : List ℕ) → slice_get lines i
    ≡ Some line → test line ≡ false → list ≡ positions_where test 0 (take i lines) → list ≡ positions_where test 0 (take (i + 1) lines)
place_kept test lines i line list found fails so_far =
    so_far ∙ sym (place_more test lines i line found ∙ ap (λ t. positions_where test 0 (take i lines) ++ cond t (i ∷ []) []) fails
    ∙ append-nil (positions_where test 0 (take i lines)))

-- a declaration that a loop is at: its position is added, or not, as it makes such a thing, or not
pub declaration_listed : (script : Lines) (p : SourceLine → Bool) (such : Makes → Bool)
    → ((d : Declaration) → ReadsDeclaration (names_of script) d → p (source_of d.line) ≡ such d.makes)
    → (items : List Declaration) (i : ℕ) (d : Declaration) (t : Bool) (list later : List ℕ)
    → map (λ x. source_of x.line) items ≡ script.declarations
    → All (ReadsDeclaration (names_of script)) items → i < length items → d ≡ get_or items i d
    → list ≡ positions_where p 0 (take i script.declarations) → t ≡ such d.makes
    → ((t ≡ true) × (later ≡ list ++ i ∷ [])) ⊎ ((t ≡ false) × (later ≡ list))
    → later ≡ positions_where p 0 (take (i + 1) script.declarations)
declaration_listed script p such same items i d t list later lines reads within is so_far test one =
    let read = declaration_read script items i d lines reads within is in
    let passes = same d read.1 ∙ sym test in
    elim one [
      | inl more ↦ more.1 ∙ place_added p script.declarations i (source_of d.line) list read.0 (passes ∙ more.0) so_far
      | inr none ↦ none.1 ∙ place_kept p script.declarations i (source_of d.line) list read.0 (passes ∙ none.0) so_far
    ]

empty_found : (xs : List (Vec ℕ Global)) (thread : ℕ) (queue : List ℕ) (o : Option (Vec ℕ Global)) → All (λ q. q.items ≡ []) xs
    → slice_get xs thread ≡ o → option_map (λ (q : Vec ℕ Global). q.items) o ≡ Some queue → queue ≡ []
empty_found xs thread queue None none e f = absurd (none-some queue f)
empty_found xs thread queue (Some q) none e f = sym (same_Some _ _ f) ∙ all_at (λ (v : Vec ℕ Global). v.items ≡ []) xs thread q none e

module _ (script : Lines) (test : ℕ → SourceLine → Bool) where
  pub queues_empty : (vecs : List (Vec ℕ Global)) → length vecs ≡ 64 → All (λ q. q.items ≡ []) vecs → AreQueues test [] (items_of vecs)
  queues_empty vecs seats none = record {
    seats = length-map vecs (λ (q : Vec ℕ Global). q.items) ∙ seats;
    each = λ thread queue found.
        let there = slice_get-map (λ (q : Vec ℕ Global). q.items) vecs thread in
        empty_found vecs thread queue (slice_get vecs thread) none refl (sym there ∙ found);
  }

  -- one more step, in no queue
  pub queues_kept : (queues : List (List ℕ)) (items : List Step) (i : ℕ) (s : Step) → map (λ x. source_of x.line) items ≡ script.steps
      → slice_get items i ≡ Some s → ((seat : ℕ) → test seat (source_of s.line) ≡ false) → AreQueues test (take i script.steps) queues
      → AreQueues test (take (i + 1) script.steps) queues
  queues_kept queues items i s lines found fails so_far =
      let line = mapped_at (λ (x : Step). source_of x.line) items script.steps i s lines found in
      record {
        seats = so_far.seats;
        each = λ thread queue at. place_kept (test (thread + 1)) script.steps i (source_of s.line) queue line
            (fails (thread + 1)) (so_far.each thread queue at);
      }

  -- one more step, in its thread's queue
  pub queues_pushed : (vecs : List (Vec ℕ Global)) (items : List Step) (i : ℕ) (s : Step) (was now : Vec ℕ Global)
      → map (λ x. source_of x.line) items ≡ script.steps → All (ReadsStep (names_of script)) items → slice_get items i ≡ Some s
      → thread_count (names_of script) ≤ 64 → was ≡ get_or vecs (s.seat - 1) was → now.items ≡ was.items ++ i ∷ []
      → ((seat : ℕ) → test seat (source_of s.line) ≡ eqb s.seat seat) → AreQueues test (take i script.steps) (items_of vecs)
      → AreQueues test (take (i + 1) script.steps) (items_of (slice_set vecs (s.seat - 1) now))
  queues_pushed vecs items i s was now lines reads found few read pushed passes queues =
      let items_at = λ (q : Vec ℕ Global). q.items in
      let reading = all_at (ReadsStep (names_of script)) items i s reads found in
      let seat : s.seat - 1 + 1 ≡ s.seat = omega (arith, reading.seated.0) in
      let line = mapped_at (λ (x : Step). source_of x.line) items script.steps i s lines found in
      let within : s.seat - 1 < length vecs =
      omega (arith, reading.seated.0, reading.seated.1, few, queues.seats, length-map vecs items_at) in
      let set : items_of (slice_set vecs (s.seat - 1) now) ≡ slice_set (items_of vecs) (s.seat - 1) now.items =
      map-set items_at vecs (s.seat - 1) now in
      let was_at : slice_get (items_of vecs) (s.seat - 1) ≡ Some was.items = slice_get-map items_at vecs (s.seat - 1)
      ∙ ap (option_map items_at) (slice_get_read vecs (length vecs) (s.seat - 1) was refl within read) in
      rw set (record {
        seats = length-set (items_of vecs) (s.seat - 1) now.items ∙ queues.seats;
        each = λ thread queue at. elim (cases_eq thread (s.seat - 1)) [
          | inl same ↦
              let here : slice_get (slice_set (items_of vecs) (s.seat - 1) now.items) thread ≡ Some now.items =
              ap (slice_get (slice_set (items_of vecs) (s.seat - 1) now.items)) same
              ∙ set_at (items_of vecs) (s.seat - 1) now.items (omega (arith, within, length-map vecs items_at)) in
              let own : test (thread + 1) (source_of s.line) ≡ true = passes (thread + 1)
              ∙ eq-eqb s.seat (thread + 1) (omega (arith, seat)) in
              let so_far = queues.each (s.seat - 1) was.items was_at
              ∙ ap (λ t. positions_where (test (t + 1)) 0 (take i script.steps)) (sym same) in
              sym (same_Some _ _ (sym here ∙ at)) ∙ pushed
              ∙ place_added (test (thread + 1)) script.steps i (source_of s.line) was.items line own so_far
          | inr other ↦
              let no : test (thread + 1) (source_of s.line) ≡ false = passes (thread + 1)
              ∙ ne_eqb s.seat (thread + 1) (λ e. other (omega (arith, e))) in
              place_kept (test (thread + 1)) script.steps i (source_of s.line) queue line no
              (queues.each thread queue (sym (slice_get-set_other (items_of vecs) (s.seat - 1) thread now.items other) ∙ at))
        ];
      })

-- the queue of a thread
pub queue_is : (test : ℕ → SourceLine → Bool) (steps : List SourceLine) (vecs : List (Vec ℕ Global)) (queue : Vec ℕ Global) (thread : ℕ)
    → AreQueues test steps (items_of vecs) → thread < 64 → queue ≡ get_or vecs thread queue
    → queue.items ≡ positions_where (test (thread + 1)) 0 steps
queue_is test steps vecs queue thread queues lt read =
    let long : thread < length vecs = omega (arith, queues.seats, length-map vecs (λ (q : Vec ℕ Global). q.items)) in
    queues.each thread queue.items (slice_get-map (λ q. q.items) vecs thread
    ∙ ap (option_map (λ q. q.items)) (slice_get_read vecs (length vecs) thread queue refl long read))

-- what `get` finds
pub get_is : {X : Type 0} (xs : List X) (i : ℕ) (r : Option (Bor X)) (Q : Bor X → Type 0) → IfSome r (λ x. x.now ≡ get_or xs i x.now)
    → MatchOption r (length xs ≤ i) (λ x. (i < length xs) × Q x) → option_map (λ x. x.now) r ≡ slice_get xs i
get_is xs i None Q reads past = sym (slice_get_past xs i past)
get_is xs i (Some x) Q reads within = sym (slice_get_read xs (length xs) i x.now refl within.0 reads)

-- so the nth item of a thread's queue is the position of its nth step
pub nth_is : (test : ℕ → SourceLine → Bool) (steps : List SourceLine) (vecs : List (Vec ℕ Global)) (queue : Vec ℕ Global) (items : List ℕ)
    (thread nth : ℕ) (r : Option (Bor ℕ)) (Q : Bor ℕ → Type 0) → AreQueues test steps (items_of vecs) → thread < 64
    → queue ≡ get_or vecs thread queue → items ≡ queue.items → IfSome r (λ x. x.now ≡ get_or items nth x.now)
    → MatchOption r (length items ≤ nth) (λ x. (nth < length items) × Q x)
    → option_map (λ x. x.now) r ≡ slice_get (positions_where (test (thread + 1)) 0 steps) nth
nth_is test steps vecs queue items thread nth r Q queues lt read same reads past =
    get_is items nth r Q reads past ∙ ap (λ l. slice_get l nth) (same ∙ queue_is test steps vecs queue thread queues lt read)
