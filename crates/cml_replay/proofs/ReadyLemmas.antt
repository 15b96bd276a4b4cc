-- Which steps are ready, thread by thread.
use Rattle.std.proofs.Common.{◌≡◌, ◌≢◌, ℕ, ◌+◌, ◌<◌, ◌≤◌, min, length, take, slice_get, Option, Some, None, MatchOption}
use Rattle.std.proofs.Common.{sym, ap, subst, ◌∙◌, arith, inl, inr, List}
use Rattle.std.proofs.lemmas.Option.{same_Some, none-some, slice_get_within}
use Rattle.std.proofs.lemmas.Bool.{cases_lt}
use Rattle.cml_board.specs.{Call, answer}
use Rattle.cml_grammar.specs.{Lines}
use Rattle.cml_report.specs.{how_many, History, IsReady, NoneReady, is_called, performed, positions_from, step_call, HasSeats}
use Rattle.cml_replay.specs.{earlier_of, IsReadyOf, NoneReadyOf, IsLeast, IsLeastBelow}
use Rattle.cml_report.proofs.LineLemmas.{called_seated}
use Rattle.cml_report.proofs.QueueLemmas.{position_is, position_of_step}

module _ (script : Lines) (history : History) where
  -- the item of a thread's queue after the steps that it performed is its next step, and the only one that may be ready
  pub ready_is : (seat i j : ℕ) (asked : Call (List ℕ)) → slice_get (positions_from script seat 0 script.steps) (performed history seat)
      ≡ Some i → IsReady script history j seat asked → j ≡ i
  ready_is seat i j asked at ready =
      let there = position_of_step (is_called script seat) 0 script.steps j ready.line ready.found ready.seated in
      let same : Some (0 + j) ≡ Some i = sym there ∙ ap (slice_get (positions_from script seat 0 script.steps)) ready.next ∙ at in
      omega (arith, same_Some (0 + j) i same)

  pub none_queued : (seat : ℕ) → slice_get (positions_from script seat 0 script.steps) (performed history seat) ≡ None
      → NoneReadyOf script history seat
  none_queued seat at j asked ready =
      let there = position_of_step (is_called script seat) 0 script.steps j ready.line ready.found ready.seated in
      none-some (0 + j) (sym at ∙ ap (slice_get (positions_from script seat 0 script.steps)) (sym ready.next) ∙ there)

  pub queued_within : (seat i : ℕ) → slice_get (positions_from script seat 0 script.steps) (performed history seat) ≡ Some i
      → i < length script.steps
  queued_within seat i at =
      let s = position_is (is_called script seat) 0 script.steps (performed history seat) i at in
      omega (arith, slice_get_within script.steps s.place s.line s.found, s.at)

  pub waits_there : (seat i : ℕ) (call : Call (List ℕ)) → slice_get (positions_from script seat 0 script.steps) (performed history seat)
      ≡ Some i → step_call script history i ≡ Some call → answer history call ≡ None → NoneReadyOf script history seat
  waits_there seat i call at calls waits j asked ready =
      let same = ready_is seat i j asked at ready in
      let one : asked ≡ call = same_Some asked call (sym ready.calls ∙ ap (step_call script history) same ∙ calls) in
      ready.answered (ap (answer history) one ∙ waits)

  pub ready_there : (seat i : ℕ) (call : Call (List ℕ)) → slice_get (positions_from script seat 0 script.steps) (performed history seat)
      ≡ Some i → step_call script history i ≡ Some call → answer history call ≢ None → IsReadyOf script history seat i
  ready_there seat i call at calls answers =
      let s = position_is (is_called script seat) 0 script.steps (performed history seat) i at in
      let here : s.place ≡ i = omega (arith, s.at) in (
        call,
        record {
          line = s.line;
          found = ap (slice_get script.steps) (sym here) ∙ s.found;
          seated = s.seated;
          next = ap (λ n. how_many (is_called script seat) (take n script.steps)) (sym here) ∙ s.behind;
          calls = calls;
          answered = answers;
        },
      )

  pub least_at_first : HasSeats script → IsLeastBelow script history 0 None
  least_at_first seats = λ seat i asked le ready.
      absurd (omega (arith, le, (seats i ready.line seat ready.found (called_seated script seat ready.line ready.seated)).0))

  -- one thread has one step at most that is ready
  same_step : (seat j other : ℕ) (asked call : Call (List ℕ)) → IsReady script history j seat asked
      → IsReady script history other seat call → other ≡ j
  same_step seat j other asked call one two =
      let there = position_of_step (is_called script seat) 0 script.steps j one.line one.found one.seated in
      let here : 0 + j ≡ j = omega arith in
      ready_is seat j other call (ap (slice_get (positions_from script seat 0 script.steps)) (sym one.next) ∙ there ∙ ap Some here) two

  at_thread : (thread seat i : ℕ) (asked : Call (List ℕ)) → seat ≤ thread + 1 → thread + 1 ≤ seat → IsReady script history i seat asked
      → IsReady script history i (thread + 1) asked
  at_thread thread seat i asked low high ready =
      let same : seat ≡ thread + 1 = omega arith in subst (λ s. IsReady script history i s asked) same ready

  -- one thread more
  pub least_more : (thread : ℕ) (least next : Option ℕ) → IsLeastBelow script history thread least
      → MatchOption next (NoneReadyOf script history (thread + 1)) (λ i. IsReadyOf script history (thread + 1) i)
      → IsLeastBelow script history (thread + 1) (earlier_of least next)
  least_more thread None None below none = λ seat i asked le ready. elim (cases_lt seat (thread + 1)) [
    | inl lt ↦ below seat i asked (omega arith) ready
    | inr ge ↦ none i asked (at_thread thread seat i asked le ge ready)
  ]
  least_more thread None (Some j) below next = (
    thread + 1,
    next.0,
    next.1,
    λ by other call le ready. elim (cases_lt by (thread + 1)) [
      | inl lt ↦ absurd (below by other call (omega arith) ready)
      | inr ge ↦ omega (arith, same_step (thread + 1) j other next.0 call next.1 (at_thread thread by other call le ge ready))
    ],
  )
  least_more thread (Some i) None below none = (
    below.0,
    below.1,
    below.2,
    λ by other call le ready. elim (cases_lt by (thread + 1)) [
      | inl lt ↦ below.3 by other call (omega arith) ready
      | inr ge ↦ absurd (none other call (at_thread thread by other call le ge ready))
    ],
  )
  least_more thread (Some i) (Some j) below next = elim (cases_lt i j) [
    | inl lt ↦
        let first : min i j ≡ i = omega arith in
        rw first (
          below.0,
          below.1,
          below.2,
          λ by other call le ready. elim (cases_lt by (thread + 1)) [
            | inl under ↦ below.3 by other call (omega arith) ready
            | inr ge ↦ omega (arith, lt, same_step (thread + 1) j other next.0 call next.1 (at_thread thread by other call le ge ready))
          ],
        )
    | inr le_first ↦
        let second : min i j ≡ j = omega arith in
        rw second (
          thread + 1,
          next.0,
          next.1,
          λ by other call le ready. elim (cases_lt by (thread + 1)) [
            | inl under ↦ omega (arith, le_first, below.3 by other call (omega arith) ready)
            | inr ge ↦ omega (arith, same_step (thread + 1) j other next.0 call next.1 (at_thread thread by other call le ge ready))
          ],
        )
  ]

  -- of all threads
  pub least_of_all : HasSeats script → (least : Option ℕ) → IsLeastBelow script history 64 least
      → MatchOption least (NoneReady script history) (IsLeast script history)
  least_of_all seats None below = λ i seat asked ready.
      below seat i asked (seats i ready.line seat ready.found (called_seated script seat ready.line ready.seated)).1 ready
  least_of_all seats (Some i) (seat, asked, ready, least) = record {
    seat = seat;
    asked = asked;
    ready = ready;
    least = λ other by call r. least by other call (seats other r.line by r.found (called_seated script by r.line r.seated)).1 r;
  }
