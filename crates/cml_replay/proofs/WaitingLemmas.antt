-- If a script's history ends stalled, or no thread could go on, some thread has steps left.
use Rattle.std.proofs.Common.{◌≡◌, ℕ, zero, suc, ◌+◌, ◌-◌, ◌<◌, ◌≤◌, ◌⊎◌, Bool, true, false, eqb, List, [], ◌∷◌, length, map}
use Rattle.std.proofs.Common.{slice_get, Some, None, refl, sym, ap, subst, ◌∙◌, arith, inl, inr}
use Rattle.std.specs.Prelude.{All}
use Rattle.std.proofs.lemmas.List.{length-map}
use Rattle.std.proofs.lemmas.List.Elements.{All-head, All-tail}
use Rattle.std.proofs.lemmas.Bool.{cases_lt, cases_eq, eq-eqb, ne_eqb, false≢true}
use Rattle.std.proofs.lemmas.Option.{slice_get_within}
use Rattle.cml_board.specs.{Who}
use Rattle.cml_board.specs.declared.entry.Who.TheVariants.{Seat, Lane, Feed}
use Rattle.cml_grammar.specs.{Step, thread_count, Lines, names_of, source_of, ReadsStep}
use Rattle.cml_grammar.proofs.ReadableLemmas.{CanBeRead, can_be_read}
use Rattle.cml_report.specs.{one_if, how_many, History, Follows, is_apart, is_by_ring, is_called, is_seated, is_seat, performed}
use Rattle.cml_report.specs.{declared_count, left, next_position, positions_from, positions_where, is_passed, passed_count, Tallied}
use Rattle.cml_report.specs.{is_of_thread, is_step_entry, unperformed}
use Rattle.cml_replay.specs.{steps_of_seat, SomeThreadIsStuck}
use Rattle.cml_report.proofs.ListLemmas.{cases_Option}
use Rattle.cml_report.proofs.LineLemmas.{all_at, none_within, one_le, stands, step_called, step_route, step_seated}
use Rattle.cml_report.proofs.QueueLemmas.{position_is, positions_count}
use Rattle.cml_report.proofs.StallingLemmas.{passed_is}
use Rattle.cml_report.proofs.BindingLemmas.{none_seated, maker_is_none}
use Rattle.cml_replay.proofs.ScheduleLemmas.{declares}

-- the total of the seats from 1 to n
abbrev total : (ℕ → ℕ) → ℕ → ℕ
total f zero = 0
total f (suc n) = total f n + f (suc n)

total_same : (f g : ℕ → ℕ) (n : ℕ) → ((s : ℕ) → f s ≡ g s) → total f n ≡ total g n
total_same f g zero same = refl
total_same f g (suc n) same = omega (arith, total_same f g n same, same (suc n))

total_sum : (f g : ℕ → ℕ) (n : ℕ) → total (λ s. f s + g s) n ≡ total f n + total g n
total_sum f g zero = refl
total_sum f g (suc n) = omega (arith, total_sum f g n)

-- one seat is one of them, at most
total_none : (seat n : ℕ) → n < seat → total (λ s. one_if (eqb seat s)) n ≡ 0
total_none seat zero lt = refl
total_none seat (suc n) lt =
    omega (arith, total_none seat n (omega (arith, lt)), ap one_if (ne_eqb seat (suc n) (λ e. omega (arith, lt, e))))

total_most : (seat n : ℕ) → total (λ s. one_if (eqb seat s)) n ≤ 1
total_most seat zero = omega arith
total_most seat (suc n) = elim (cases_eq seat (suc n)) [
  | inl same ↦ omega (arith, total_none seat n (omega (arith, same)), ap one_if (eq-eqb seat (suc n) same))
  | inr differs ↦ omega (arith, total_most seat n, ap one_if (ne_eqb seat (suc n) differs))
]

total_least : (seat n : ℕ) → 1 ≤ seat → seat ≤ n → 1 ≤ total (λ s. one_if (eqb seat s)) n
total_least seat zero low high = absurd (omega (arith, low, high))
total_least seat (suc n) low high = elim (cases_eq seat (suc n)) [
  | inl same ↦ omega (arith, ap one_if (eq-eqb seat (suc n) same))
  | inr differs ↦ omega (arith, total_least seat n low (omega (arith, high, differs)))
]

module _ (script : Lines) where
  -- the last seat; opaque, so that no sum over the seats is written out
  threads : ℕ
  threads = thread_count (names_of script)

  -- each step is a seat's
  all_seated : (items : List Step) → All (ReadsStep (names_of script)) items
      → length items ≤ total (λ s. how_many (is_seated script s) (map (λ x. source_of x.line) items)) threads
  unfolding threads
  all_seated [] reads = omega arith
  all_seated (x ∷ xs) reads =
      let read = All-head (ReadsStep (names_of script)) x xs reads in
      let later = all_seated xs (All-tail (ReadsStep (names_of script)) x xs reads) in
      let own = λ (s : ℕ). one_if (is_seated script s (source_of x.line)) in
      let others = λ (s : ℕ). how_many (is_seated script s) (map (λ (y : Step). source_of y.line) xs) in
      omega (
        arith,
        later,
        total_sum own others threads,
        total_same own (λ s. one_if (eqb x.seat s)) threads (λ s. ap one_if (step_seated script x s read)),
        total_least x.seat threads read.seated.0 read.seated.1,
      )

  none_performed : (n : ℕ) → total (performed []) n ≡ 0
  none_performed zero = refl
  none_performed (suc n) = omega (arith, none_performed n)

  -- no entry is of two seats
  none_of : (who : Who) → is_of_thread who ≡ false → (n : ℕ) → total (λ s. one_if (is_seat s who)) n ≡ 0
  none_of who none zero = refl
  none_of who none (suc n) = omega (arith, none_of who none n, ap one_if (none_seated (suc n) (omega arith) who none))

  one_of : (who : Who) (n : ℕ) (t : Bool) → is_of_thread who ≡ t → total (λ s. one_if (is_seat s who)) n ≤ one_if t
  one_of who n false e = omega (arith, none_of who e n)
  one_of (Seat seat) n true e = total_most seat n
  one_of (Lane lane) n true e = absurd (false≢true e)
  one_of (Feed feed) n true e = absurd (false≢true e)

  -- each seat's entries are steps
  all_performed : (history : History) → Follows script history → total (performed history) threads ≤ length history - declared_count script
  all_performed [] follows = omega (arith, none_performed threads)
  all_performed (entry ∷ before) follows =
      let more = total_sum (λ s. one_if (is_seat s entry.who)) (performed before) threads in
      elim (cases_lt (length before) (declared_count script)) [
        | inl lt ↦ omega (
          arith,
          all_performed before follows.1,
          more,
          none_of entry.who (ap is_of_thread (declares script before entry follows lt).by ∙ maker_is_none script (length before)) threads,
        )
        | inr ge ↦ omega (
          arith,
          ge,
          all_performed before follows.1,
          more,
          one_of entry.who threads (is_of_thread entry.who) refl,
          one_le (is_of_thread entry.who),
        )
      ]

  -- a seat with steps left, or each performed as many as it has
  behind_or_all : (history : History) (n : ℕ) → ((seat : ℕ) × (performed history seat < steps_of_seat script seat))
      ⊎ (total (steps_of_seat script) n ≤ total (performed history) n)
  behind_or_all history zero = inr (omega arith)
  behind_or_all history (suc n) = elim (cases_lt (performed history (suc n)) (steps_of_seat script (suc n))) [
    | inl lt ↦ inl (suc n, lt)
    | inr ge ↦ elim (behind_or_all history n) [ inl behind ↦ inl behind | inr all ↦ inr (omega (arith, ge, all)) ]
  ]

  pub some_behind : CanBeRead script → (history : History) → Follows script history → 0 < left script history
      → (seat : ℕ) × (performed history seat < steps_of_seat script seat)
  some_behind read history follows more = elim (behind_or_all history threads) [
    | inl behind ↦ behind
    | inr all ↦
        absurd (omega (
          arith,
          all,
          more,
          all_performed history follows,
          all_seated read.steps read.reading.steps,
          total_same (λ s. how_many (is_seated script s) (map (λ x. source_of x.line) read.steps)) (steps_of_seat script) threads
              (λ s. ap (how_many (is_seated script s)) read.asked),
          ap length read.asked,
          length-map read.steps (λ (x : Step). source_of x.line),
        ))
  ]

  -- each step is one that a seat performs, or goes by a ring
  one_asks : (x : Step) → ReadsStep (names_of script) x
      → 1 ≤ total (λ s. one_if (is_called script s (source_of x.line))) threads + one_if (is_apart script (source_of x.line))
  unfolding threads
  one_asks x read = by_test (is_apart script (source_of x.line)) refl
    where
      by_test : (t : Bool) → is_apart script (source_of x.line) ≡ t → 1 ≤ total (λ s. one_if (is_called script s (source_of x.line)))
          (thread_count (names_of script)) + one_if (is_apart script (source_of x.line))
      by_test true e = omega (arith, ap one_if e)
      by_test false e =
          let seated = sym (ap is_by_ring (step_route script x read)) ∙ e in
          omega (
            arith,
            total_same (λ s. one_if (is_called script s (source_of x.line))) (λ s. one_if (eqb x.seat s)) (thread_count (names_of script))
                (λ s. ap one_if (step_called script x s read seated)),
            total_least x.seat (thread_count (names_of script)) read.seated.0 read.seated.1,
          )

  all_asked : (items : List Step) → All (ReadsStep (names_of script)) items
      → length items ≤ total (λ s. how_many (is_called script s) (map (λ x. source_of x.line) items)) threads
      + how_many (is_apart script) (map (λ x. source_of x.line) items)
  all_asked [] reads = omega arith
  all_asked (x ∷ xs) reads =
      let later = all_asked xs (All-tail (ReadsStep (names_of script)) x xs reads) in
      let own = λ (s : ℕ). one_if (is_called script s (source_of x.line)) in
      let others = λ (s : ℕ). how_many (is_called script s) (map (λ (y : Step). source_of y.line) xs) in
      omega (arith, later, total_sum own others threads, one_asks x (All-head (ReadsStep (names_of script)) x xs reads))

  seats_performed : (n : ℕ) (history : History) → total (performed history) n ≤ how_many is_step_entry history
  seats_performed n [] = omega (arith, none_performed n)
  seats_performed n (entry ∷ before) =
      let own = λ (s : ℕ). one_if (is_seat s entry.who) in
      omega (arith, seats_performed n before, total_sum own (performed before) n, one_of entry.who n (is_of_thread entry.who) refl)

  -- a seat that has no next step performed all that it has
  all_called : (history : History) (seat : ℕ) → next_position script history (Seat seat) ≡ None
      → how_many (is_called script seat) script.steps ≤ performed history seat
  all_called history seat none =
      omega (
        arith,
        none_within (positions_from script seat 0 script.steps) (performed history seat) none,
        positions_count (is_called script seat) 0 script.steps,
      )

  all_by_seats : (history : History) (n : ℕ) → ((s : ℕ) → s ≤ n → next_position script history (Seat s) ≡ None)
      → total (λ s. how_many (is_called script s) script.steps) n ≤ total (performed history) n
  all_by_seats history zero none = omega arith
  all_by_seats history (suc n) none =
      omega (arith, all_by_seats history n (λ s le. none s (omega (arith, le))), all_called history (suc n) (none (suc n) (omega arith)))

  -- and then all that it has by rings is passed
  all_pass : (p : ℕ → Bool) (xs : List ℕ) → ((k x : ℕ) → slice_get xs k ≡ Some x → p x ≡ true) → how_many p xs ≡ length xs
  all_pass p [] each = refl
  all_pass p (x ∷ xs) each = omega (arith, ap one_if (each 0 x refl), all_pass p xs (λ k y found. each (suc k) y found))

  passed_there : CanBeRead script → (history : History) → ((s : ℕ) → s ≤ threads → next_position script history (Seat s) ≡ None) → (i : ℕ)
      → i < length script.steps → is_passed script history i ≡ true
  unfolding threads
  passed_there read history none i within =
      let there =
      stands read.steps i (omega (arith, within, ap length read.asked, length-map read.steps (λ (x : Step). source_of x.line))) in
      let seat = (all_at (ReadsStep (names_of script)) read.steps i there.0 read.reading.steps there.1).seated in
      passed_is script history read.steps i there.0 None read.asked read.reading.steps there.1 (sym (none there.0.seat seat.1))

  all_passed : CanBeRead script → (history : History) → ((s : ℕ) → s ≤ threads → next_position script history (Seat s) ≡ None)
      → passed_count (is_apart script) script history ≡ how_many (is_apart script) script.steps
  all_passed read history none =
      all_pass (is_passed script history) (positions_where (is_apart script) 0 script.steps) (λ k i found.
      let there = position_is (is_apart script) 0 script.steps k i found in
      passed_there read history none i (omega (arith, there.at, slice_get_within script.steps there.place there.line there.found)))
      ∙ positions_count (is_apart script) 0 script.steps

  -- some thread has a next step, or none has
  next_or_none : (history : History) (n : ℕ) → ((seat : ℕ) × (step : ℕ) × (next_position script history (Seat seat) ≡ Some step))
      ⊎ ((s : ℕ) → s < n → next_position script history (Seat s) ≡ None)
  next_or_none history zero = inr (λ s lt. absurd (omega (arith, lt)))
  next_or_none history (suc n) = elim (cases_Option (next_position script history (Seat n))) [
    | inl next ↦ inl (n, next.0, next.1)
    | inr none ↦ elim (next_or_none history n) [
      | inl some ↦ inl some
      | inr all ↦ inr (λ s lt. elim (cases_eq s n) [
        | inl same ↦ subst (λ k. next_position script history (Seat k) ≡ None) (sym same) none
        | inr other ↦ all s (omega (arith, lt, other))
      ])
    ]
  ]

  some_next : CanBeRead script → (history : History) (tally : Tallied) → tally.apart ≡ passed_count (is_apart script) script history
      → 0 < unperformed script history tally
      → (seat : ℕ) × (step : ℕ) × (next_position script history (Seat seat) ≡ Some step)
  some_next read history tally apart more = elim (next_or_none history (suc threads)) [
    | inl next ↦ next
    | inr all ↦
        let none = λ (s : ℕ) (le : s ≤ threads). all s (omega (arith, le)) in
        absurd (omega (
          arith,
          more,
          apart,
          all_passed read history none,
          seats_performed threads history,
          all_by_seats history threads none,
          all_asked read.steps read.reading.steps,
          total_same (λ s. how_many (is_called script s) (map (λ x. source_of x.line) read.steps))
              (λ s. how_many (is_called script s) script.steps) threads (λ s. ap (how_many (is_called script s)) read.asked),
          ap (how_many (is_apart script)) read.asked,
          ap length read.asked,
          length-map read.steps (λ (x : Step). source_of x.line),
        ))
  ]

pub some_stuck : SomeThreadIsStuck
some_stuck text script limit history tally is stuck more =
    let next = some_next script (can_be_read text script is) history tally stuck.apart.apart more in
    (next.0, stuck.waits next.0 next.1 next.2)
