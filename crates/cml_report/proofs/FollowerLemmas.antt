-- What a follower keeps of a journal, and how it goes on after one more entry.
use Rattle.std.proofs.Common.{◌≡◌, ℕ, ◌+◌, ◌-◌, ◌<◌, ◌≤◌, true, false, cond, List, ◌∷◌, length, take, map, slice_get, Option, Some}
use Rattle.std.proofs.Common.{None, MatchBool, IfSome, refl, sym, ap, subst, ◌∙◌, arith, inl, inr}
use Rattle.std.specs.Prelude.{All}
use Rattle.std.specs.Option.{option_map, option_map_or, option_and_then}
use Rattle.std.proofs.lemmas.Option.{none-some, slice_get_within}
use Rattle.std.proofs.lemmas.List.{length-map}
use Rattle.std.proofs.lemmas.Bool.{le-ltb, lt-ltb, cases_Bool, cases_order}
use Rattle.cml_board.specs.{Who, Entry, Name, before, Call}
use Rattle.cml_board.specs.declared.entry.Who.TheVariants.{Seat, Lane, Feed}
use Rattle.cml_grammar.specs.{Action, Declaration, Step, SourceLine, Lines, names_of, action_of, NamesAreGiven, source_of, ReadsDeclaration}
use Rattle.cml_grammar.specs.{ReadsStep, used_by}
use Rattle.cml_report.specs.{IsOwn, IsOfCaller, IsOfFeed, how_many, Binding, History, IsDeclaration, objects_of, declared_count}
use Rattle.cml_report.specs.{declared_object, number_of, maker, is_object, is_feed, is_called, positions_where, making_call, call_in}
use Rattle.cml_report.specs.{performed, next_position, given_by, step_call, call_on, call_of, object_of, bound_by, HasSeats, AreBindings}
use Rattle.cml_report.specs.{with_binding, AreCounts, Progress, history_of, with_next, IsFollowed, IsNextOf, IsNoThread, CountsOneMore}
use Rattle.cml_report.specs.{next_given, next_call}
use Rattle.cml_report.specs.declared.objects.Objects.{Objects}
use Rattle.cml_board.specs.declared.call.Call.TheVariants as call
use Rattle.cml_report.proofs.ListLemmas.{mapped_at, counted_mono, none_unless, passing}
use Rattle.cml_report.proofs.KindLemmas.{counted_below}
use Rattle.cml_report.proofs.QueueLemmas.{position_is, positions_count}
use Rattle.cml_report.proofs.KeptLemmas.{given_within, bindings_more}
use Rattle.cml_report.proofs.LineLemmas.{all_at, called_seated, feed_object, none_within}
use Rattle.cml_report.proofs.ObjectLemmas.{maker_is, counted_filter}
use Rattle.cml_report.proofs.ReportLemmas.{placed_line, placed_within}
use Rattle.cml_report.proofs.JournalLemmas.{before_more}

pub followed_at : {p q : Progress} {kept : Objects} {counts : List ℕ} {bindings : List Binding} → p ≡ q → IsFollowed p kept counts bindings
    → IsFollowed q kept counts bindings
followed_at {kept = kept} {counts = counts} {bindings = bindings} e f = subst (λ (r : Progress). IsFollowed r kept counts bindings) e f

-- What the declarations make.

module _ (script : Lines) (places : List ℕ) (placed : places ≡ positions_where (is_object script) 0 script.declarations) where
  pub places_length : length places ≡ declared_count script
  places_length = ap length placed ∙ positions_count (is_object script) 0 script.declarations

  pub place_within : (k at : ℕ) → slice_get places k ≡ Some at → at < length script.declarations
  place_within k at found = placed_within (is_object script) script.declarations k (Some at) (sym found ∙ ap (λ l. slice_get l k) placed)

  -- the call that makes the k-th declared object
  pub makes_at : (history : History) (k at : ℕ) (d : Declaration) → slice_get places k ≡ Some at
      → slice_get script.declarations at ≡ Some (source_of d.line) → ReadsDeclaration (names_of script) d
      → option_and_then (call_in script history) (slice_get (objects_of script) k) ≡ making_call (declared_object script history) d.makes
  makes_at history k at d found line reads =
      let there : slice_get (objects_of script) k ≡ Some (source_of d.line) =
      placed_line (is_object script) script.declarations k
      ∙ ap (λ l. option_and_then (slice_get script.declarations) (slice_get l k)) (sym placed)
      ∙ ap (option_and_then (slice_get script.declarations)) found ∙ line in
      ap (option_and_then (call_in script history)) there ∙ ap (option_and_then (making_call (declared_object script history))) reads.makes

-- Which step is next.

pub thread_seat : (script : Lines) (history : History) (who : Who) (i : ℕ) → HasSeats script → next_position script history who ≡ Some i
    → (thread : ℕ) × (thread < 64) × (who ≡ Seat (thread + 1)) × (i < length script.steps)
thread_seat script history (Lane l) i seats e = absurd (none-some i e)
thread_seat script history (Feed f) i seats e = absurd (none-some i e)
thread_seat script history (Seat s) i seats e =
    let there = position_is (is_called script s) 0 script.steps (performed history s) i e in
    let bounds = seats there.place there.line s there.found (called_seated script s there.line there.seated) in
    let within = slice_get_within script.steps there.place there.line there.found in
    let same : s ≡ s - 1 + 1 = omega (arith, bounds.0) in
    (s - 1, omega (arith, bounds.0, bounds.1), ap Seat same, omega (arith, within, there.at))

pub none_next : (script : Lines) (history : History) (who : Who) → HasSeats script → IsNoThread who
    → next_position script history who ≡ None
none_next script history who seats none = none_unless _ (λ i e. let t = thread_seat script history who i seats e in none t.0 t.1 t.2)

-- a name that the next step gives is one of the script's
pub next_given_within : (script : Lines) (o g : Option ℕ) → NamesAreGiven (names_of script) script.declarations script.steps
    → g ≡ option_and_then (given_by script) o → IfSome g (λ at. at < length (names_of script))
next_given_within script o None given e = tt
next_given_within script None (Some at) given e = absurd (none-some at (sym e))
next_given_within script (Some i) (Some at) given e = given_within script i at given (sym e)

-- one entry more
pub follows_more : (p q : Progress) (kept : Objects) (counts later : List ℕ) (bindings after : List Binding) (entry : Entry (List ℕ))
    (g : Option ℕ) → p ≡ q → IsFollowed p kept counts bindings
    → slice_get p.journal p.followed ≡ Some entry → g ≡ next_given q.script (history_of q) entry.who → CountsOneMore counts entry.who later
    → after ≡ with_binding bindings g (bound_by entry.call entry.reply) → IsFollowed (with_next p) kept later after
follows_more p q kept counts later bindings after entry g e f found gives counted bound =
    let more = sym (before_more p.journal p.followed entry found) in
    record {
      within = omega (arith, slice_get_within p.journal p.followed entry found);
      known = f.known;
      objects = f.objects;
      counted = subst (λ (h : History). AreCounts h later) more (counted (history_of p) entry refl f.counted);
      bound =
          subst (λ (h : History). AreBindings p.script h after) more
          (subst (AreBindings p.script (entry ∷ history_of p)) (sym bound) (bindings_more p.script (history_of p) entry bindings g
          f.known.asks f.known.seats (ap (λ (r : Progress). next_given r.script (history_of r) entry.who) e ∙ sym gives) f.bound));
    }

-- The call of the caller's next step.

abbrev pub named : Option ℕ → Option Name
named o = option_map (λ (n : ℕ). let name : Name = record { 0 = n } in name) o

pub used_within : (script : Lines) (items : List Step) (i : ℕ) (s : Step) → All (ReadsStep (names_of script)) items
    → slice_get items i ≡ Some s → used_by s.action < length (names_of script)
used_within script items i s reads found =
    let yours = (all_at (ReadsStep (names_of script)) items i s reads found).yours in
    slice_get_within (names_of script) (used_by s.action) yours.0 yours.1

on_name : (a : Action) (o : Option ℕ) → option_map (λ o. call_on a (record { 0 = o })) o ≡ option_map (call_on a) (named o)
on_name a None = refl
on_name a (Some n) = refl

read_calls : (script : Lines) (history : History) (used : ℕ) (s : Step) (r : Option Name) → ReadsStep (names_of script) s
    → used ≡ used_by s.action → r ≡ named (object_of script history used)
    → option_and_then (call_of (object_of script history)) (action_of (names_of script) (source_of s.line).words)
    ≡ option_map (call_on s.action) r
read_calls script history used s r reads uses is =
    ap (option_and_then (call_of (object_of script history))) reads.action
    ∙ on_name s.action (object_of script history (used_by s.action))
    ∙ ap (option_map (call_on s.action)) (sym (is ∙ ap (λ n. named (object_of script history n)) uses))

pub step_calls : (script : Lines) (history : History) (items : List Step) (i used : ℕ) (s : Step) (r : Option Name)
    → map (λ x. source_of x.line) items ≡ script.steps → All (ReadsStep (names_of script)) items → slice_get items i ≡ Some s
    → used ≡ used_by s.action → r ≡ named (object_of script history used) → step_call script history i ≡ option_map (call_on s.action) r
step_calls script history items i used s r lines reads found uses is =
    ap (option_and_then (λ line. option_and_then (call_of (object_of script history)) (action_of (names_of script) line.words)))
    (mapped_at (λ x. source_of x.line) items script.steps i s lines found)
    ∙ read_calls script history used s r (all_at (ReadsStep (names_of script)) items i s reads found) uses is

pub step_within : (p q : Progress) (kept : Objects) (counts : List ℕ) (bindings : List Binding) → p ≡ q → IsFollowed p kept counts bindings
    → (items : List Step) (who : Who) (i : ℕ) → map (λ x. source_of x.line) items ≡ p.script.steps
    → next_position q.script (history_of q) who ≡ Some i → i < length items
step_within p q kept counts bindings e f items who i lines next =
    let there =
    thread_seat p.script (history_of p) who i f.known.seats (ap (λ (r : Progress). next_position r.script (history_of r) who) e ∙ next) in
    omega (arith, there.3, ap length lines, length-map items (λ (x : Step). source_of x.line))

-- What is so of the caller's next step.

pub next_of_at : (p q : Progress) (who : Who) (items : List Step) (i : ℕ) (s : Step) → p ≡ q
    → next_position q.script (history_of q) who ≡ Some i
    → map (λ x. source_of x.line) items ≡ p.script.steps → All (ReadsStep (names_of p.script)) items → slice_get items i ≡ Some s
    → IsNextOf q.script (history_of q) who s
next_of_at p q who items i s e next lines reads found = record {
  at = i;
  next = next;
  line = mapped_at (λ x. source_of x.line) items q.script.steps i s (lines ∙ ap (λ (x : Progress). x.script.steps) e) found;
  reads =
      all_at (ReadsStep (names_of q.script)) items i s (subst (λ (x : Progress). All (ReadsStep (names_of x.script)) items) e reads) found;
}

module _ (script : Lines) (history : History) (who : Who) (s : Step) (is : IsNextOf script history who s) where
  pub uses_next : used_by s.action < length (names_of script)
  uses_next = slice_get_within (names_of script) (used_by s.action) is.reads.yours.0 is.reads.yours.1

  pub calls_next : (used : ℕ) (r : Option Name) → used ≡ used_by s.action → r ≡ named (object_of script history used)
      → next_call script history who ≡ option_map (call_on s.action) r
  calls_next used r uses made =
      ap (option_and_then (step_call script history)) is.next
      ∙ ap (option_and_then (λ line. option_and_then (call_of (object_of script history)) (action_of (names_of script) line.words))) is.line
      ∙ read_calls script history used s r is.reads uses made

-- what is the script's after the entries that were followed
pub own_at : (p : Progress) (script : Lines) (journal : List (Entry (List ℕ))) (k : ℕ) (entry : Entry (List ℕ)) → p.script ≡ script
    → p.journal ≡ journal → p.followed ≡ k → IsOwn script (before journal k) entry → IsOwn p.script (history_of p) entry
own_at p script journal k entry s j f own = rw (s, j, f) own

-- Which entries are the script's.

module _ (script : Lines) (history : History) where
  -- after the declared objects and before
  pub late_own : (entry : Entry (List ℕ)) → declared_count script ≤ length history
      → IsOfCaller script history entry entry.who → IsOwn script history entry
  late_own entry ge = subst (λ t. MatchBool t (IsDeclaration script history entry) (IsOfCaller script history entry entry.who))
      (sym (le-ltb (length history) (declared_count script) ge))

  pub own_late : (entry : Entry (List ℕ)) → declared_count script ≤ length history → IsOwn script history entry
      → IsOfCaller script history entry entry.who
  own_late entry ge = subst (λ t. MatchBool t (IsDeclaration script history entry) (IsOfCaller script history entry entry.who))
      (le-ltb (length history) (declared_count script) ge)

  pub early_own : (entry : Entry (List ℕ)) → length history < declared_count script
      → IsDeclaration script history entry → IsOwn script history entry
  early_own entry lt = subst (λ t. MatchBool t (IsDeclaration script history entry) (IsOfCaller script history entry entry.who))
      (sym (lt-ltb (length history) (declared_count script) lt))

  pub own_early : (entry : Entry (List ℕ)) → length history < declared_count script → IsOwn script history entry
      → IsDeclaration script history entry
  own_early entry lt = subst (λ t. MatchBool t (IsDeclaration script history entry) (IsOfCaller script history entry entry.who))
      (lt-ltb (length history) (declared_count script) lt)

-- the port of a feed is the object that the feed makes
module _ (script : Lines) where
  feed_there : (feed at : ℕ) → slice_get (positions_where (is_feed script) 0 script.declarations) feed ≡ Some at
      → (at < length script.declarations) × (maker script (number_of script at) ≡ Feed feed)
  feed_there feed at found =
      let there = position_is (is_feed script) 0 script.declarations feed at found in
      let same : there.place ≡ at = omega (arith, there.at) in
      let line : slice_get script.declarations at ≡ Some there.line = ap (slice_get script.declarations) (sym same) ∙ there.found in
      let count : how_many (is_feed script) (take at script.declarations) ≡ feed =
      ap (λ n. how_many (is_feed script) (take n script.declarations)) (sym same) ∙ there.behind in (
        slice_get_within script.declarations at there.line line,
        maker_is script at there.line line (feed_object script there.line there.seated)
            ∙ ap (λ t. cond t (Feed (how_many (is_feed script) (take at script.declarations))) (Seat 0)) there.seated ∙ ap Feed count,
      )

  -- the declaration there is made by that feed
  made_by : (k feed : ℕ) → maker script k ≡ Feed feed → (line : SourceLine) × (slice_get (objects_of script) k ≡ Some line)
      × (is_feed script line ≡ true) × (how_many (is_feed script) (take k (objects_of script)) ≡ feed)
  made_by k feed made = elim (cases_Bool (option_map_or (is_feed script) (slice_get (objects_of script) k) false)) [
    | inl fed ↦
        let line = passing (is_feed script) (slice_get (objects_of script) k) fed in
        let same : Feed (how_many (is_feed script) (take k (objects_of script))) ≡ Feed feed =
        sym (ap (λ t. cond t (Feed (how_many (is_feed script) (take k (objects_of script)))) (Seat 0)) fed) ∙ made in
        (line.0, line.1, line.2, cc)
    | inr unfed ↦
        let other : Seat 0 ≡ Feed feed =
        sym (ap (λ t. cond t (Feed (how_many (is_feed script) (take k (objects_of script)))) (Seat 0)) unfed) ∙ made in
        cc
  ]

  one_maker : (j k feed : ℕ) → maker script j ≡ Feed feed → maker script k ≡ Feed feed → j ≡ k
  one_maker j k feed one other =
      let a = made_by j feed one in
      let b = made_by k feed other in
      elim (cases_order j k) [
        | inl same ↦ same
        | inr (inl lt) ↦ absurd (omega (arith, counted_mono (is_feed script) (objects_of script) j k a.0 lt a.1 a.2, a.3, b.3))
        | inr (inr gt) ↦ absurd (omega (arith, counted_mono (is_feed script) (objects_of script) k j b.0 gt b.1 b.2, a.3, b.3))
      ]

  -- there are as many feeds as lines that declare one
  feed_counted : (k feed : ℕ) → maker script k ≡ Feed feed → feed < how_many (is_feed script) script.declarations
  feed_counted k feed made =
      let a = made_by k feed made in
      omega (
        arith,
        counted_below (is_feed script) (objects_of script) k a.0 a.1 a.2,
        a.3,
        counted_filter (is_object script) (is_feed script) (feed_object script) script.declarations,
      )

  pub of_feed : (feed at : ℕ) (asked : Call (List ℕ)) → slice_get (positions_where (is_feed script) 0 script.declarations) feed ≡ Some at
      → asked ≡ call.Recv (record { 0 = number_of script at }) → IsOfFeed script feed asked
  of_feed feed at asked found is = record { object = number_of script at; made = (feed_there feed at found).1; receives = is }

  pub feed_of : (feed at : ℕ) (asked : Call (List ℕ)) → slice_get (positions_where (is_feed script) 0 script.declarations) feed ≡ Some at
      → IsOfFeed script feed asked → asked ≡ call.Recv (record { 0 = number_of script at })
  feed_of feed at asked found own = own.receives
      ∙ ap (λ n. call.Recv (record { 0 = n })) (one_maker own.object (number_of script at) feed own.made (feed_there feed at found).1)

  pub feed_within : (feed at : ℕ) → slice_get (positions_where (is_feed script) 0 script.declarations) feed ≡ Some at
      → at < length script.declarations
  feed_within feed at found = (feed_there feed at found).0

  pub no_feed_there : (feed : ℕ) (asked : Call (List ℕ))
      → slice_get (positions_where (is_feed script) 0 script.declarations) feed ≡ None → IsOfFeed script feed asked → ⊥
  no_feed_there feed asked none own =
      let past = none_within (positions_where (is_feed script) 0 script.declarations) feed none in
      omega (arith, past, feed_counted own.object feed own.made, positions_count (is_feed script) 0 script.declarations)
