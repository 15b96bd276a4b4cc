-- What an execution keeps, and how it goes on with one more entry.
use Rattle.std.proofs.Common.{◌≡◌, ℕ, ◌+◌, ◌-◌, ◌<◌, ◌≤◌, ◌^◌, true, false, eqb, List, ◌∷◌, length, get_or, slice_get, slice_set, Option}
use Rattle.std.proofs.Common.{Some, None, MatchBool, refl, sym, ap, subst, ◌∙◌, arith, inl, inr}
use Rattle.std.specs.Prelude.{map, All}
use Rattle.cml_board.specs.{Reply, Call, Entry, answer, Fits}
use Rattle.cml_grammar.specs.{Step, thread_count, Lines, names_of, source_of, ReadsStep}
use Rattle.cml_report.proofs.LineLemmas.{all_at, step_seated, called_seated}
use Rattle.cml_replay.proofs.PlainLemmas.{plain_maker}
use Rattle.std.specs.Option.{option_and_then}
use Rattle.std.proofs.lemmas.Option.{same_Some, slice_get_within, slice_get-get_or}
use Rattle.std.proofs.lemmas.List.{length-set, length-map}
use Rattle.std.proofs.lemmas.Bool.{eqb-true, eq-eqb, ne_eqb, cases_eq, le-ltb, lt-ltb}
use Rattle.cml_board.specs.declared.entry.Who.TheVariants.{Seat}
use Rattle.cml_report.specs.{one_if, Binding, History, IsReady, IsStep, IsDeclaration, Follows, is_seated, is_seat, is_by, performed}
use Rattle.cml_report.specs.{next_position, step_call, declared_count, given_by, bound_by, with_binding, AreCounts}
use Rattle.cml_replay.specs.{Executed, Stands, IsNextObject, with_entry, IsStepAt, IsLeast}
use Rattle.cml_board.proofs.ListLemmas.{slice_get-set_other}
use Rattle.cml_report.proofs.ListLemmas.{how_many-le, mapped_at, set_at}
use Rattle.cml_report.proofs.GivingLemmas.{giver, next_is, none_first}
use Rattle.cml_report.proofs.KeptLemmas.{count_at, bindings_more}

pub stands_at : {p q : Executed} {counts : List ℕ} {bindings : List Binding} → p ≡ q → Stands p counts bindings → Stands q counts bindings
stands_at {counts = counts} {bindings = bindings} e s = subst (λ (r : Executed). Stands r counts bindings) e s

module _ {executed : Executed} {counts : List ℕ} {bindings : List Binding} (stands : Stands executed counts bindings) where
  pub count_is : (thread n : ℕ) → thread < 64 → n ≡ get_or counts thread n → n ≡ performed executed.history (thread + 1)
  count_is thread n = count_at executed.history counts thread n stands.counted

  pub performed_small : (seat : ℕ) → performed executed.history seat ≤ length executed.history
  performed_small seat = how_many-le (is_by seat) executed.history

-- counts

performed_by : (seat : ℕ) (entry : Entry (List ℕ)) (history : History) (by : ℕ) → entry.who ≡ Seat by
    → performed (entry ∷ history) seat ≡ one_if (eqb by seat) + performed history seat
performed_by seat entry history by e = ap (λ w. one_if (is_seat seat w) + performed history seat) e

pub counts_declared : (history : History) (entry : Entry (List ℕ)) (counts : List ℕ) → entry.who ≡ Seat 0 → AreCounts history counts
    → AreCounts (entry ∷ history) counts
counts_declared history entry counts e c = record {
  seats = c.seats;
  each = λ thread lt.
      let other : eqb 0 (thread + 1) ≡ false = ne_eqb 0 (thread + 1) (λ z. omega arith) in
      c.each thread lt ∙ ap Some
      (sym (performed_by (thread + 1) entry history 0 e ∙ ap (λ t. one_if t + performed history (thread + 1)) other ∙ omega arith));
}

pub counts_performed : (history : History) (entry : Entry (List ℕ)) (counts : List ℕ) (at n : ℕ) → entry.who ≡ Seat (at + 1) → at < 64
    → n ≡ performed history (at + 1) → AreCounts history counts → AreCounts (entry ∷ history) (slice_set counts at (n + 1))
counts_performed history entry counts at n e lt same c = record {
  seats = length-set counts at (n + 1) ∙ c.seats;
  each = λ thread within. elim (cases_eq thread at) [
    | inl here ↦
        let yes : eqb (at + 1) (at + 1) ≡ true = eq-eqb (at + 1) (at + 1) refl in
        let more : performed (entry ∷ history) (at + 1) ≡ n + 1 = performed_by (at + 1) entry history (at + 1) e
        ∙ ap (λ t. one_if t + performed history (at + 1)) yes ∙ omega (arith, same) in
        subst (λ t. slice_get (slice_set counts at (n + 1)) t ≡ Some (performed (entry ∷ history) (t + 1))) (sym here)
        (set_at counts at (n + 1) (omega (arith, c.seats)) ∙ ap Some (sym more))
    | inr other ↦
        let no : eqb (at + 1) (thread + 1) ≡ false = ne_eqb (at + 1) (thread + 1) (λ z. other (omega arith)) in
        let kept : performed (entry ∷ history) (thread + 1) ≡ performed history (thread + 1) =
        performed_by (thread + 1) entry history (at + 1) e ∙ ap (λ t. one_if t + performed history (thread + 1)) no ∙ omega arith in
        slice_get-set_other counts at thread (n + 1) other ∙ c.each thread within ∙ ap Some (sym kept)
  ];
}

-- one more entry

pub follows_declaration : (script : Lines) (before : History) (entry : Entry (List ℕ)) → length before < declared_count script
    → IsDeclaration script before entry → Follows script before → Follows script (entry ∷ before)
follows_declaration script before entry lt declares follows = (
  subst (λ t. MatchBool t (IsDeclaration script before entry) (IsStep script before entry))
      (sym (lt-ltb (length before) (declared_count script) lt)) declares,
  follows,
)

pub follows_step : (script : Lines) (before : History) (entry : Entry (List ℕ)) → declared_count script ≤ length before
    → IsStep script before entry → Follows script before → Follows script (entry ∷ before)
follows_step script before entry ge step follows = (
  subst (λ t. MatchBool t (IsDeclaration script before entry) (IsStep script before entry))
      (sym (le-ltb (length before) (declared_count script) ge)) step,
  follows,
)

pub stands_more : (executed new : Executed) (counts later : List ℕ) (bindings : List Binding) (g : Option ℕ) (entry : Entry (List ℕ))
    → new ≡ with_entry executed entry → Stands executed counts bindings → Fits executed.history entry.call
    → length executed.history < executed.limit → answer executed.history entry.call ≡ Some entry.reply
    → Follows executed.script (entry ∷ executed.history) → AreCounts (entry ∷ executed.history) later
    → giver executed.script executed.history entry.who ≡ g → Stands new later (with_binding bindings g (bound_by entry.call entry.reply))
stands_more executed new counts later bindings g entry e s fits room answers follows counted gives =
    subst (λ r. Stands r later (with_binding bindings g (bound_by entry.call entry.reply))) (sym e) (record {
      lawful = (fits, answers, s.lawful);
      room = room;
      bounded = s.bounded;
      follows = follows;
      plain = s.plain;
      known = s.known;
      counted = counted;
      bound = bindings_more executed.script executed.history entry bindings g s.known.asks s.known.seats gives s.bound;
    })

pub new_play : (script : Lines) (history later : History) (limit same : ℕ) (entry : Entry (List ℕ)) → later ≡ entry ∷ history → same ≡ limit
    → ◌≡◌ {A = Executed} (record { script = script; history = later; limit = same })
    (with_entry (record { script = script; history = history; limit = limit }) entry)
new_play script history later limit same entry h l = rw (h, l) refl

-- a declared object was made
pub stands_declared : (p old : Executed) (counts : List ℕ) (bindings : List Binding) (later : History) (same : ℕ) (asked : Call (List ℕ))
    (r : Reply (List ℕ)) → p ≡ old → Stands p counts bindings → IsNextObject old asked
    → later ≡ (record { who = Seat 0; call = asked; reply = r }) ∷ p.history → same ≡ p.limit → Fits p.history asked → length p.history
    < p.limit → answer p.history asked ≡ Some r → Stands (record { script = p.script; history = later; limit = same }) counts bindings
stands_declared p old counts bindings later same asked r view s next grown kept fits room answers =
    let entry : Entry (List ℕ) = record { who = Seat 0; call = asked; reply = r } in
    let here = subst (λ (q : Executed). IsNextObject q asked) (sym view) next in
    stands_more p (record { script = p.script; history = later; limit = same }) counts counts bindings None entry
    (new_play p.script p.history later p.limit same entry grown kept) s fits room answers
    (follows_declaration p.script p.history entry here.left (record {
      by = sym (plain_maker p.script s.plain (length p.history));
      makes = here.makes;
    }) s.follows)
    (counts_declared p.history entry counts refl s.counted)
    (ap (option_and_then (given_by p.script)) (none_first p.script p.history s.known.seats))

pub step_of : (script : Lines) (before : History) (entry : Entry (List ℕ)) (i : ℕ)
    → IsStepAt script before entry i → IsStep script before entry
step_of script before entry i s = record {
  step = i;
  seat = s.least.seat;
  by = s.who;
  ready = subst (λ c. IsReady script before i s.least.seat c) (sym s.call) s.least.ready;
  least = λ other by asked ready. s.least.least other by asked ready;
}

-- the thread and the seat of the step that is performed
pub seat_is : (script : Lines) (history : History) (items : List Step) (i : ℕ) (s : Step) → map (λ x. source_of x.line) items ≡ script.steps
    → All (ReadsStep (names_of script)) items → slice_get items i ≡ Some s → (l : IsLeast script history i) → s.seat ≡ l.seat
seat_is script history items i s lines reads found l =
    let read = all_at (ReadsStep (names_of script)) items i s reads found in
    let same : source_of s.line ≡ l.ready.line =
    same_Some _ _ (sym (mapped_at (λ x. source_of x.line) items script.steps i s lines found) ∙ l.ready.found) in
    eqb-true s.seat l.seat (sym (step_seated script s l.seat read) ∙ ap (is_seated script l.seat) same
    ∙ called_seated script l.seat l.ready.line l.ready.seated)

pub step_at : (script : Lines) (history : History) (i : ℕ) (seat : ℕ) (asked : Call (List ℕ)) (reply : Reply (List ℕ))
    (l : IsLeast script history i) → seat ≡ l.seat → step_call script history i ≡ Some asked
    → IsStepAt script history (record { who = Seat seat; call = asked; reply = reply }) i
step_at script history i seat asked reply l same calls = record {
  least = l;
  who = ap Seat same;
  call = same_Some _ _ (sym calls ∙ l.ready.calls);
}

pub stands_performed : (p new : Executed) (counts : List ℕ) (bindings : List Binding) (entry : Entry (List ℕ)) (i seat n : ℕ) (g : Option ℕ)
    → Stands p counts bindings → new ≡ with_entry p entry → Fits p.history entry.call → length p.history < p.limit
    → answer p.history entry.call ≡ Some entry.reply → declared_count p.script ≤ length p.history → IsStepAt p.script p.history entry i
    → entry.who ≡ Seat seat → 1 ≤ seat → seat ≤ 64 → n ≡ get_or counts (seat - 1) n → g ≡ given_by p.script i
    → Stands new (slice_set counts (seat - 1) (n + 1)) (with_binding bindings g (bound_by entry.call entry.reply))
stands_performed p new counts bindings entry i seat n g s e fits room answers declared step who low high read given =
    let here : seat - 1 + 1 ≡ seat = omega (arith, low) in
    let lt : seat - 1 < 64 = omega (arith, low, high) in
    let next : next_position p.script p.history entry.who ≡ Some i = ap (next_position p.script p.history) step.who
    ∙ next_is p.script p.history step.least.seat i step.least.asked step.least.ready in
    stands_more p new counts (slice_set counts (seat - 1) (n + 1)) bindings g entry e s fits room answers
    (follows_step p.script p.history entry declared (step_of p.script p.history entry i step) s.follows)
    (counts_performed p.history entry counts (seat - 1) n (who ∙ ap Seat (sym here)) lt (count_is s (seat - 1) n lt read) s.counted)
    (ap (option_and_then (given_by p.script)) next ∙ sym given)

pub count_fits : (p : Executed) (counts : List ℕ) (bindings : List Binding) (seat n : ℕ) → Stands p counts bindings → 1 ≤ seat → seat ≤ 64
    → n ≡ get_or counts (seat - 1) n → length p.history < p.limit → n + 1 < 2 ^ 64
count_fits p counts bindings seat n s low high read room =
    let lt : seat - 1 < 64 = omega (arith, low, high) in
    omega (arith, count_is s (seat - 1) n lt read, performed_small s (seat - 1 + 1), room, s.bounded)

-- the step that is performed, as it was read
pub record IsPerformed (p : Executed) (i : ℕ) (s : Step) (asked : Call (List ℕ)) : Type 0 where
  pub low : 1 ≤ s.seat
  pub high : s.seat ≤ 64
  pub declared : declared_count p.script ≤ length p.history
  pub step : (reply : Reply (List ℕ)) → IsStepAt p.script p.history (record { who = Seat s.seat; call = asked; reply = reply }) i

pub is_performed : (p old : Executed) (items : List Step) (i : ℕ) (d : Step) (asked : Call (List ℕ)) → p ≡ old
    → map (λ x. source_of x.line) items ≡ p.script.steps → All (ReadsStep (names_of p.script)) items → thread_count (names_of p.script) ≤ 64
    → IsLeast old.script old.history i → declared_count old.script ≤ length old.history → step_call old.script old.history i ≡ Some asked
    → IsPerformed p i (get_or items i d) asked
is_performed p old items i d asked view lines reads few ready declared calls =
    let l = subst (λ (r : Executed). IsLeast r.script r.history i) (sym view) ready in
    let within : i < length items = omega (
      arith,
      slice_get_within p.script.steps i l.ready.line l.ready.found,
      ap length lines,
      length-map items (λ (x : Step). source_of x.line),
    ) in
    let s = get_or items i d in
    let found = slice_get-get_or items i d within in
    let read = all_at (ReadsStep (names_of p.script)) items i s reads found in
    record {
      low = read.seated.0;
      high = omega (arith, read.seated.1, few);
      declared = subst (λ (r : Executed). declared_count r.script ≤ length r.history) (sym view) declared;
      step = λ reply. step_at p.script p.history i s.seat asked reply l (seat_is p.script p.history items i s lines reads found l)
          (subst (λ (r : Executed). step_call r.script r.history i ≡ Some asked) (sym view) calls);
    }

pub performs : (p old new : Executed) (i : ℕ) (s : Step) (asked : Call (List ℕ)) (reply : Reply (List ℕ)) → p ≡ old
    → new ≡ with_entry p (record { who = Seat s.seat; call = asked; reply = reply }) → IsPerformed p i s asked
    → (entry : Entry (List ℕ)) × (new ≡ with_entry old entry) × IsStepAt old.script old.history entry i
performs p old new i s asked reply view e performed = (
  record { who = Seat s.seat; call = asked; reply = reply },
  e ∙ ap (λ (r : Executed). with_entry r (record { who = Seat s.seat; call = asked; reply = reply })) view,
  subst (λ (r : Executed). IsStepAt r.script r.history (record { who = Seat s.seat; call = asked; reply = reply }) i)
      view (performed.step reply),
)
