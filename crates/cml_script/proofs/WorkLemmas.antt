-- What a thread makes, whatever made the declared objects.
use Rattle.std.proofs.Common.{◌≡◌, ℕ, zero, suc, ◌+◌, ◌<◌, ◌≤◌, Bool, true, false, cond, List, [], ◌∷◌, ◌++◌, length, map, slice_get}
use Rattle.std.proofs.Common.{Option, Some, None, Ok, Err, Result, IfSome, IsSome, ◌⊎◌, inl, inr, refl, sym, ap, ap₂, subst, ◌∙◌, arith}
use Rattle.std.specs.Prelude.{All, ◌&&◌, ◌||◌, not, OnOk}
use Rattle.std.specs.Option.{option_map, option_map_or, option_and_then}
use Rattle.std.specs.declared.alloc.AllocError.{AllocError}
use Rattle.std.proofs.lemmas.List.{length-map}
use Rattle.std.proofs.lemmas.Option.{IfSome_then, slice_get_within}
use Rattle.std.proofs.lemmas.Bool.{and_right, not_from_true, false≢true, eq-eqb}
use Rattle.cml_board.specs.{Call, Reply, Entry, Refusal}
use Rattle.cml_board.specs.declared.call.Call.TheVariants as call
use Rattle.cml_board.specs.declared.entry.Who.TheVariants.{Seat}
use Rattle.cml_board.specs.declared.entry.Reply.TheVariants as reply
use Rattle.cml_threads.specs.{suits}
use Rattle.cml_grammar.specs.{Step, Lines, names_of, source_of, ReadsStep, UsesEarlier, used_by}
use Rattle.cml_report.specs.{Stop, Route, one_if, History, declared_count, maker, performed, is_seat, is_called, is_by_ring, route_of_line}
use Rattle.cml_report.specs.{earlier, next_position, given_by, step_call, bound_by, binding_of, port_bound, is_of_thread, IsKnown}
use Rattle.cml_report.specs.{HasSeats, AsksForPorts, route_at, AreBindings, with_binding}
use Rattle.cml_script.specs.{goes_apart, earlier_apart, act_of_line, Made, with_call, with_apart, with_closed, waits, MayCall, BeginsAt}
use Rattle.cml_script.specs.{AreBySeat, AreByMakers, IsOpening, AreNextSteps, IsTurn, IsUnrefused, IsStop, Works, with_refused, stop_of}
use Rattle.cml_script.specs.{ending_with, closed_if, IsRefusedSo, AreSuiting, IsUnderWay, HasTaken}
use Rattle.cml_script.specs.declared.worker.Course.{Course}
use Rattle.cml_script.specs.Apart.{Apart, is_by_lane}
use Rattle.cml_report.specs.declared.binding.Binding.TheVariants as binding
use Rattle.cml_report.specs.declared.route.Route.TheVariants as route
use Rattle.cml_report.proofs.ListLemmas.{how_many-le, count_taken, taken_all, told_more}
use Rattle.cml_report.proofs.GivingLemmas.{giver, next_at, none_other}
use Rattle.cml_report.proofs.BindingLemmas.{AreSteps, asks_port, bound_more, maker_is_none, none_seated}
use Rattle.cml_report.proofs.KeptLemmas.{bindings_more}
use Rattle.cml_report.proofs.UseLemmas.{used_stands_for}
use Rattle.cml_report.proofs.FollowerLemmas.{named, step_calls}

-- An opening.

opening_from : Lines → ℕ → History
opening_from script zero = []
opening_from script (suc n) = record { who = maker script n; call = call.NewMailbox; reply = reply.Done } ∷ opening_from script n

opening_long : (script : Lines) (n : ℕ) → length (opening_from script n) ≡ n
unfolding opening_from
opening_long script zero = refl
opening_long script (suc n) = ap suc (opening_long script n)

opening_made : (script : Lines) (n : ℕ) → AreByMakers script (opening_from script n)
unfolding opening_from
opening_made script zero = tt
opening_made script (suc n) = (ap (maker script) (sym (opening_long script n)), opening_made script n)

pub an_opening : Lines → History
an_opening script = opening_from script (declared_count script)

pub is_opening : (script : Lines) → IsOpening script (an_opening script)
unfolding an_opening
is_opening script = record { all = opening_long script (declared_count script); by = opening_made script (declared_count script) }

-- none of its entries is a thread's
none_first : (script : Lines) (first : History) (entry : Entry (List ℕ))
    → entry.who ≡ maker script (length first) → is_of_thread entry.who ≡ false
none_first script first entry by = ap is_of_thread by ∙ maker_is_none script (length first)

opening_performed : (script : Lines) (first : History) (seat : ℕ) → 1 ≤ seat → AreByMakers script first → performed first seat ≡ 0
opening_performed script [] seat low by = refl
opening_performed script (entry ∷ first) seat low by =
    let other = none_seated seat low entry.who (none_first script first entry by.0) in
    omega (arith, ap one_if other, opening_performed script first seat low by.1)

opening_binding : (script : Lines) (first : History) (at : ℕ) → AsksForPorts script → HasSeats script → AreByMakers script first
    → binding_of script first at ≡ binding.Unbound
opening_binding script [] at asks seats by = refl
opening_binding script (entry ∷ first) at asks seats by =
    let none : giver script first entry.who ≡ None =
    ap (option_and_then (given_by script)) (none_other script first seats entry.who (none_first script first entry by.0)) in
    bound_more script asks seats first entry at None none ∙ opening_binding script first at asks seats by.1

pub opening_steps : (script : Lines) (first : History) → AreByMakers script first → AreSteps script first
opening_steps script [] by = tt
opening_steps script (entry ∷ first) by = (inl (none_first script first entry by.0), opening_steps script first by.1)

-- A thread's entries.

-- a call that asks for a port is given one
suits_gives : (c : Call (List ℕ)) (r : Reply (List ℕ)) → suits c r ≡ true → asks_port c ≡ true → IsSome (port_bound (bound_by c r))
suits_gives (call.NewPort name) (reply.Made made) suit asks = refl
suits_gives (call.CopyPort name) (reply.Made made) suit asks = refl
suits_gives (call.CopyPort name) reply.Closed suit asks = refl
suits_gives c r suit asks = cc

pub begins : (script : Lines) (seat : ℕ) (course : Course) (made : Option Made) → IsKnown script → BeginsAt seat made → course.made
    ≡ declared_count script → AreBindings script [] course.bindings.items → course.is_sending ≡ false → HasTaken script seat 0 course made
begins script seat course made known none count bound sends = record {
  place = 0;
  behind = refl;
  way = record {
    entries = [];
    apart = [];
    told = subst (λ t. IfSome made
        (λ tells. tells ≡ record { seat = seat; entries = []; opened = []; apart = []; is_sending = t; refused = None })) (sym sends) none;
    by = tt;
    count = count ∙ omega arith;
    called = refl;
    gone = refl;
    suiting = tt;
    steps = λ first opening. tt;
    does = tt;
    bound = λ first opening. record {
      all = bound.all;
      each = λ at lt. bound.each at lt ∙ ap Some (sym (opening_binding script first at known.asks known.seats opening.by));
    };
  };
}

module _ (script : Lines) (seat : ℕ) (low : 1 ≤ seat) (first : History) (opening : IsOpening script first) where
  all_performed : (entries : History) → AreBySeat seat entries → performed (entries ++ first) seat ≡ length entries
  all_performed [] by = opening_performed script first seat low opening.by
  all_performed (entry ∷ entries) by =
      let mine : is_seat seat entry.who ≡ true = ap (is_seat seat) by.0 ∙ eq-eqb seat seat refl in
      omega (arith, ap one_if mine, all_performed entries by.1)

  -- how many entries there are, when this many were made
  pub all_entries : (entries : History) → length (entries ++ first) ≡ declared_count script + length entries
  all_entries [] = opening.all ∙ omega arith
  all_entries (entry ∷ entries) = let ih = all_entries entries in omega (arith, ih)

  all_steps : (entries : History) → AreNextSteps script first entries → AreSuiting entries → AreSteps script (entries ++ first)
  all_steps [] steps suiting = opening_steps script first opening.by
  all_steps (entry ∷ entries) steps suiting =
      (inr (steps.0, suits_gives entry.call entry.reply suiting.0), all_steps entries steps.1 suiting.1)

  module _ {place : ℕ} {course : Course} {made : Option Made} (under : IsUnderWay script seat place course made) where
    abbrev pub so_far : History
    so_far = under.entries ++ first

    pub entries_are : length so_far ≡ course.made
    entries_are = all_entries under.entries ∙ sym under.count

    -- a turn there that is called is the thread's next
    pub next_called : (turn : IsTurn script seat place) → is_called script seat turn.line ≡ true
        → next_position script so_far (Seat seat) ≡ Some place
    next_called turn called =
        let done = all_performed under.entries under.by in
        next_at script so_far seat place turn.line turn.found called (omega (arith, done, under.called))

    -- and its call is known
    pub call_known : (items : List Step) (i : ℕ) (s : Step) → IsKnown script → map (λ x. source_of x.line) items ≡ script.steps
        → All (ReadsStep (names_of script)) items → UsesEarlier script items → slice_get items i ≡ Some s
        → next_position script so_far (Seat seat) ≡ Some i → IsSome (step_call script so_far i)
    call_known items i s known lines reads earlier item next =
        let ge = all_entries under.entries in
        let object = used_stands_for script so_far known items i seat s
        (all_steps under.entries (under.steps first opening) under.suiting) lines reads earlier item next (omega (arith, ge)) in
        subst IsSome (sym (step_calls script so_far items i (used_by s.action) s
        (named (Some object.0)) lines reads item refl (ap named (sym object.1)))) refl

    pub works : (stop : Result Stop AllocError) → (sending : Bool) (refused : Option Refusal)
        → IsStop script seat place sending refused stop → Works script seat
        (record { seat = seat; entries = under.entries; opened = []; apart = under.apart; is_sending = sending; refused = refused }) stop
        first
    works stop sending refused stops = record {
      by = under.by;
      steps = under.steps first opening;
      apart = under.does;
      opens = refl;
      place = place;
      called = under.called;
      gone = under.gone;
      stops = stops;
    }

pub some_mapped : {X Y : Type 0} (f : X → Y) (o : Option X) → IsSome (option_map f o) → IsSome o
some_mapped f None some = absurd (false≢true some)
some_mapped f (Some x) some = refl

pub on_ok : {P Q X E : Type 0} (r : Result X E) → (P → Q) → OnOk r P → OnOk r Q
on_ok (Ok x) f p = f p
on_ok (Err e) f p = tt

-- A turn.

module _ (script : Lines) (seat i : ℕ) (turn : IsTurn script seat i) where
  pub turn_within : i < length script.steps
  turn_within = slice_get_within script.steps i turn.line turn.found

  pub turn_listed : (items : List Step) → map (λ x. source_of x.line) items ≡ script.steps → i < length items
  turn_listed items lines = omega (arith, turn_within, ap length lines, length-map items (λ (x : Step). source_of x.line))

  -- how it goes
  pub turn_goes : (w : Route) → route_at script i ≡ w → route_of_line script turn.line ≡ w
  turn_goes w is = sym (ap (λ l. option_map_or (route_of_line script) l route.Seat) turn.found) ∙ is

  pub turn_apart : (t : Bool) → is_by_ring (route_of_line script turn.line) ≡ t → goes_apart script seat turn.line ≡ t
  turn_apart t is = ap₂ (λ s a. s && a) turn.seated is

  pub turn_called : (t : Bool) → is_by_ring (route_of_line script turn.line) ≡ t → is_called script seat turn.line ≡ not t
  turn_called t is = ap₂ (λ s a. s && not a) turn.seated is

  -- how many steps of its kinds there are up to and with it
  pub called_more : (t : Bool) → is_called script seat turn.line ≡ t → earlier script seat (i + 1) ≡ earlier script seat i + one_if t
  called_more t is = count_taken (is_called script seat) script.steps i turn.line turn.found ∙ ap (λ u. earlier script seat i + one_if u) is

  pub apart_more : (t : Bool) → goes_apart script seat turn.line ≡ t
      → earlier_apart script seat (i + 1) ≡ earlier_apart script seat i + one_if t
  apart_more t is = count_taken (goes_apart script seat) script.steps i turn.line turn.found
      ∙ ap (λ u. earlier_apart script seat i + one_if u) is

-- no more was made than a script may have
pub under_way_few : (script : Lines) (seat place : ℕ) {course : Course} {made : Option Made} → IsUnderWay script seat place course made
    → course.made ≤ declared_count script + length script.steps
under_way_few script seat place under =
    omega (
      arith,
      under.count,
      under.called,
      taken_all (is_called script seat) script.steps place,
      how_many-le (is_called script seat) script.steps,
    )

-- How it goes on.

-- the lanes may have been closed
told_closed : (t : Bool) (told : Made) (made now : Option Made) → IfSome made (λ tells. tells ≡ told) → now ≡ closed_if t made
    → IfSome now (λ tells. tells ≡ record told { is_sending = cond t false told.is_sending })
told_closed true told made now is same = told_more {X = Made} told with_closed made now is same
told_closed false told made now is same = subst (λ (o : Option Made). IfSome o (λ tells. tells ≡ told)) (sym same) is

-- nothing more was made
pub kept : (script : Lines) (seat place : ℕ) {course : Course} {made : Option Made} (t : Bool) (now : Option Made)
    → IsUnderWay script seat place course made → now ≡ closed_if t made
    → IsUnderWay script seat place (record course { is_sending = cond t false course.is_sending }) now
kept script seat place {course} {made} t now under same = record {
  entries = under.entries;
  apart = under.apart;
  told = told_closed t
      (record { seat = seat; entries = under.entries; opened = []; apart = under.apart; is_sending = course.is_sending; refused = None })
      made now under.told same;
  by = under.by;
  count = under.count;
  called = under.called;
  gone = under.gone;
  suiting = under.suiting;
  steps = under.steps;
  does = under.does;
  bound = under.bound;
}

-- lanes are closed before a step that may wait
pub closed_before : (script : Lines) (seat place : ℕ) {course : Course} {made : Option Made} (w : Bool) (later : Course) (now : Option Made)
    → IsUnderWay script seat place course made → now ≡ closed_if (course.is_sending && w) made
    → later ≡ record course { is_sending = course.is_sending && not w } → IsUnderWay script seat place later now
closed_before script seat place {course} w later now under same is =
    subst (λ (k : Course). IsUnderWay script seat place k now) (ap (λ t. record course { is_sending = t }) (still course.is_sending w)
    ∙ sym is) (kept script seat place (course.is_sending && w) now under same)
  where
    still : (s w : Bool) → cond (s && w) false s ≡ (s && not w)
    still true true = refl
    still true false = refl
    still false true = refl
    still false false = refl

-- so that none is open at a call that may
pub may_call : (script : Lines) (seat place : ℕ) {course : Course} {made : Option Made} (sending : Bool) (asked : Call (List ℕ))
    → IsUnderWay script seat place course made → course.is_sending ≡ (sending && not (waits asked)) → MayCall asked made
may_call script seat place {course} {made} sending asked under closed = IfSome_then made under.told (λ tells told wait.
    ap (λ (m : Made). m.is_sending) told ∙ closed ∙ and_right sending (not (waits asked)) (not_from_true (waits asked) wait))

-- a turn that is the seat's was performed
pub more_made : (script : Lines) (seat : ℕ) (low : 1 ≤ seat) (i : ℕ) {course : Course} {made : Option Made}
    (under : IsUnderWay script seat i course made) (known : IsKnown script) (turn : IsTurn script seat i) (asked : Call (List ℕ))
    (r : Reply (List ℕ)) (g : Option ℕ) (next : Course) (later : Option Made)
    → is_by_ring (route_of_line script turn.line) ≡ false → suits asked r ≡ true
    → ((history : History) → length history ≡ course.made → AreBindings script history course.bindings.items
    → step_call script history i ≡ Some asked)
    → g ≡ given_by script i → later ≡ option_map (with_call asked r) made → next.made ≡ course.made + 1
    → next.bindings.items ≡ with_binding course.bindings.items g (bound_by asked r) → next.is_sending ≡ course.is_sending
    → IsUnderWay script seat (i + 1) next later
more_made script seat low i {course} {made} under known turn asked r g next later seated suit calls gives more count bound sends = record {
  entries = entry ∷ under.entries;
  apart = under.apart;
  told = subst (λ t. IfSome later (λ tells. tells
      ≡ record { seat = seat; entries = entry ∷ under.entries; opened = []; apart = under.apart; is_sending = t; refused = None }))
      (sym sends)
      (told_more {X = Made}
      (record { seat = seat; entries = under.entries; opened = []; apart = under.apart; is_sending = course.is_sending; refused = None })
      (with_call asked r) made later under.told more);
  by = (refl, under.by);
  count = omega (arith, count, under.count);
  called = omega (arith, under.called, called_more script seat i turn true called);
  gone = omega (arith, under.gone, apart_more script seat i turn false (turn_apart script seat i turn false seated));
  suiting = (suit, under.suiting);
  steps = λ first opening. (
    record {
      step = i;
      next = next_called script seat low first opening under turn called;
      calls = calls (under.entries ++ first) (entries_are script seat low first opening under) (under.bound first opening);
    },
    under.steps first opening,
  );
  does = under.does;
  bound = λ first opening.
      subst (AreBindings script (entry ∷ (under.entries ++ first))) (sym bound)
      (bindings_more script (under.entries ++ first) entry course.bindings.items g known.asks known.seats
      (ap (option_and_then (given_by script)) (next_called script seat low first opening under turn called) ∙ sym gives)
      (under.bound first opening));
}
  where
    called : is_called script seat turn.line ≡ true
    called = turn_called script seat i turn false seated

    entry : Entry (List ℕ)
    entry = record { who = Seat seat; call = asked; reply = r }

-- a turn that goes by a lane or a feed
pub more_gone : (script : Lines) (seat i : ℕ) {course : Course} {made : Option Made} (under : IsUnderWay script seat i course made)
    (turn : IsTurn script seat i) (done : Apart) (next : Course) (later : Option Made)
    → is_by_ring (route_of_line script turn.line) ≡ true → act_of_line script turn.line ≡ Some done
    → later ≡ option_map (with_apart done) made
    → next.made ≡ course.made → next.bindings ≡ course.bindings → next.is_sending ≡ (is_by_lane done || course.is_sending)
    → IsUnderWay script seat (i + 1) next later
more_gone script seat i {course} {made} under turn done next later by_ring does more count bound sends = record {
  entries = under.entries;
  apart = done ∷ under.apart;
  told = subst (λ t. IfSome later (λ tells. tells
      ≡ record { seat = seat; entries = under.entries; opened = []; apart = done ∷ under.apart; is_sending = t; refused = None }))
      (sym sends)
      (told_more {X = Made}
      (record { seat = seat; entries = under.entries; opened = []; apart = under.apart; is_sending = course.is_sending; refused = None })
      (with_apart done) made later under.told more);
  by = under.by;
  count = count ∙ under.count;
  called = omega (arith, under.called, called_more script seat i turn false (turn_called script seat i turn true by_ring));
  gone = omega (arith, under.gone, apart_more script seat i turn true apart);
  suiting = under.suiting;
  steps = under.steps;
  does = (
    record {
      step = i;
      line = turn.line;
      found = turn.found;
      apart = apart;
      next = sym under.gone;
      does = does;
    },
    under.does,
  );
  bound = λ first opening. subst (λ b. AreBindings script (under.entries ++ first) b.items) (sym bound) (under.bound first opening);
}
  where
    apart : goes_apart script seat turn.line ≡ true
    apart = turn_apart script seat i turn true by_ring

-- How it ends.

-- what the caller says then
pub ends_with : (script : Lines) (seat : ℕ) → 1 ≤ seat
    → (place : ℕ) {course : Course} {made : Option Made} (under : IsUnderWay script seat place course made) (stop : Result Stop AllocError)
    (sending : Bool) (refused : Option Refusal) (now : Option Made)
    → IfSome now (λ tells. tells
    ≡ record { seat = seat; entries = under.entries; opened = []; apart = under.apart; is_sending = sending; refused = refused })
    → IsStop script seat place sending refused stop → (first : History) → IsOpening script first
    → IfSome now (λ m. Works script seat m stop first)
ends_with script seat low place under stop sending refused now told stops first opening = IfSome_then now told (λ tells is.
    subst (λ (m : Made). Works script seat m stop first) (sym is) (works script seat low first opening under stop sending refused stops))

-- a step was refused, before which lanes may have been closed
pub refused_at : (script : Lines) (seat : ℕ) → 1 ≤ seat → (place : ℕ) {course : Course} {made : Option Made}
    (under : IsUnderWay script seat place course made) (r : Refusal) (result : Result Stop AllocError) (now : Option Made)
    → result ≡ stop_of r → IsRefusedSo r made now → IsTurn script seat place
    → (first : History) → IsOpening script first → IfSome now (λ m. Works script seat m result first)
refused_at script seat low place {course} {made} under r result now is (closes, same) turn =
    let told : Made =
    record { seat = seat; entries = under.entries; opened = []; apart = under.apart; is_sending = course.is_sending; refused = None } in
    ends_with script seat low place under result (cond closes false course.is_sending) (Some r) now
    (told_more {X = Made} (record told { is_sending = cond closes false course.is_sending }) (with_refused r) (closed_if closes made) now
    (told_closed closes told made (closed_if closes made) under.told refl) same)
    (inl (turn, is))

-- a gate says no at a turn, or all steps are performed, and closing the lanes may be refused
pub closes_with : (script : Lines) (seat : ℕ) → 1 ≤ seat → (place : ℕ) {course : Course} {made : Option Made}
    (under : IsUnderWay script seat place course made) (stop : Stop) (result : Result Stop AllocError) (now : Option Made)
    → IsUnrefused script seat place (Ok stop)
    → ((result ≡ Ok stop) × (now ≡ closed_if course.is_sending made))
    ⊎ ((course.is_sending ≡ true) × ((r : Refusal) × (now ≡ option_map (with_refused r) made) × (result ≡ ending_with stop r)))
    → (first : History) → IsOpening script first → IfSome now (λ m. Works script seat m result first)
closes_with script seat low place {course} {made} under stop result now ends closed = elim closed [
  | inl as_told ↦
      ends_with script seat low place under result (cond course.is_sending false course.is_sending) None now
      (told_closed course.is_sending told made now under.told as_told.1)
      (subst (IsUnrefused script seat place) (sym as_told.0) ends, none_open course.is_sending)
  | inr refused ↦
      ends_with script seat low place under result course.is_sending (Some refused.1.0) now
      (told_more {X = Made} told (with_refused refused.1.0) made now under.told refused.1.1)
      (inr (refused.0, (stop, ends, refused.1.2)))
]
  where
    told : Made
    told = record { seat = seat; entries = under.entries; opened = []; apart = under.apart; is_sending = course.is_sending; refused = None }

    none_open : (t : Bool) → cond t false t ≡ false
    none_open true = refl
    none_open false = refl
