-- From stage to stage: what holds of the board while some objects are at the next stage and the others aren't.
use Rattle.std.proofs.Common.{◌≡◌, ℕ, zero, suc, ◌+◌, ◌-◌, ◌<◌, ◌≤◌, inl, inr, List, length, Option, Some, None, refl, sym, ap, subst}
use Rattle.std.proofs.Common.{arith}
use Rattle.std.proofs.lemmas.Bool.{cases_lt}
use Rattle.cml_board.specs.{Entry, Who, no_entries, Origin, mailbox, channel, port, ivar, mvar, source_by, Lawful, made, origin_of, sent}
use Rattle.cml_board.specs.{entries_in}
use Rattle.cml_board.specs.{facts_of}
use Rattle.cml_board.specs.Facts.{Facts}
use Rattle.cml_board.specs.Shown.{Shown}
use Rattle.cml_compact.specs.{AllBy, begun_anew, begun_before, stock, stocked, settled, compact_size}
use Rattle.cml_compact.specs.Stages.{weight, weights}
use Rattle.cml_compact.specs.Stepping.{Halfway, Reaches}
use Rattle.cml_compact.proofs.AnewLemmas.{same_weights, weights_grow}
use Rattle.cml_compact.proofs.BeginningsLemmas.{length_begun, sent_most}
use Rattle.cml_compact.proofs.ChannelsLemmas.{port_after}

module _ {M : Type 0} where
  -- whatever stage an object is at, what was sent of it is what is sent again
  pub half_sent : (most : ℕ) (old : List (Entry M)) (board : Shown M) (n k : ℕ)
      → Halfway most board (length (made old)) n (stocked old) (settled old) → k < length (made old) → sent board.history k ≡ stock old k
  half_sent most old board n k half within = elim (cases_lt k n) [
    | inl before ↦ ap (λ f. f.sent) (half.done k before)
    | inr later ↦ ap (λ f. f.sent) (half.rest k later within)
  ]

  -- what an object reads was made
  pub source_within : (h : List (Entry M)) (o : ℕ) → Lawful h → o < length (made h) → source_by o (origin_of h o) < length (made h)
  source_within h o lawful within = by_origin (origin_of h o) refl
    where
      by_origin : (x : Option Origin) → origin_of h o ≡ x → source_by o (origin_of h o) < length (made h)
      by_origin (Some (port source start)) e =
          subst (λ x. source_by o x < length (made h)) (sym e) (omega (arith, (port_after h o source start lawful e).0, within))
      by_origin (Some mailbox) e = subst (λ x. source_by o x < length (made h)) (sym e) within
      by_origin (Some channel) e = subst (λ x. source_by o x < length (made h)) (sym e) within
      by_origin (Some ivar) e = subst (λ x. source_by o x < length (made h)) (sym e) within
      by_origin (Some mvar) e = subst (λ x. source_by o x < length (made h)) (sym e) within
      by_origin None e = subst (λ x. source_by o x < length (made h)) (sym e) within

  -- sums of greater weights are greater
  pub weights_more : (f g : ℕ → Facts M) (n : ℕ) → ((k : ℕ) → k < n → weight (f k) ≤ weight (g k)) → weights f n ≤ weights g n
  weights_more f g zero more = omega arith
  weights_more f g (suc n) more =
      omega (arith, weights_more f g n (λ k within. more k (omega arith)), more n (omega arith))

  -- and at least by what one of them is greater
  weights_one : (f g : ℕ → Facts M) (n name : ℕ) → name < n → ((k : ℕ) → k < n → weight (f k) ≤ weight (g k))
      → weights f n + (weight (g name) - weight (f name)) ≤ weights g n
  weights_one f g zero name within more = absurd (omega arith)
  weights_one f g (suc n) name within more = elim (cases_lt name n) [
    | inl before ↦ omega (arith, weights_one f g n name before (λ k below. more k (omega arith)), more n (omega arith))
    | inr later ↦
        let last : name ≡ n = omega arith in
        omega (
          arith,
          weights_more f g n (λ k below. more k (omega arith)),
          more n (omega arith),
          ap (λ k. weight (f k)) last,
          ap (λ k. weight (g k)) last,
        )
  ]

  -- so halfway there are fewer entries than there will be, by what the next object still needs
  pub half_more : (most all n : ℕ) (board : Shown M) (from to : ℕ → Facts M) → Halfway most board all n from to → n < all
      → ((k : ℕ) → weight (from k) ≤ weight (to k))
      → entries_in board.history + (weight (to n) - weight (from n)) ≤ weights to all
  half_more most all n board from to half within more =
      let now = facts_of board.history in
      let each : (k : ℕ) → k < all → weight (now k) ≤ weight (to k) = λ k below. elim (cases_lt k n) [
        | inl before ↦ omega (arith, ap weight (half.done k before))
        | inr later ↦ omega (arith, ap weight (half.rest k later below), more k)
      ] in
      omega (arith, half.entries, weights_one now to all n within each, ap weight (half.rest n (omega arith) within))

  -- each stage weighs no less than the one before
  pub begun_less : (old : List (Entry M)) (n k : ℕ) → weight (begun_before old n k) ≤ weight (settled old k)
  begun_less old n k = omega (arith, length_begun old n k, sent_most old k n)

  pub stocked_more : (old : List (Entry M)) (k : ℕ) → weight (begun_anew old k) ≤ weight (stocked old k)
  stocked_more old k = omega (arith, length_begun old (length (made old)) k, sent_most old k (length (made old)))

  pub settled_more : (old : List (Entry M)) (k : ℕ) → weight (stocked old k) ≤ weight (settled old k)
  settled_more old k = omega arith

  pub begun_weighs : (old : List (Entry M)) (k : ℕ)
      → weight (stocked old k) - weight (begun_anew old k) ≡ length (stock old k) - length (begun_anew old k).sent
  begun_weighs old k = omega arith

  -- so an earlier stage needs no more calls than the last
  pub stocked_less : (old : List (Entry M)) → weights (stocked old) (length (made old)) ≤ compact_size old
  stocked_less old = weights_more (stocked old) (settled old) (length (made old)) (λ k within. settled_more old k)

  -- while objects are still to be made there are fewer entries than there will be
  pub making_more : (most : ℕ) (old : List (Entry M)) (board : Shown M) (n m : ℕ) → Reaches most board n (begun_before old m)
      → n < length (made old) → entries_in board.history + 1 ≤ compact_size old
  making_more most old board n m reaches more =
      omega (
        arith,
        reaches.entries,
        same_weights (facts_of board.history) (begun_before old m) n reaches.each,
        weights_more (begun_before old m) (settled old) n (λ k within. begun_less old m k),
        weights_grow (settled old) (suc n) (length (made old)) more,
      )

  -- also with what is sent on a channel before
  pub sending_more : (most : ℕ) (old : List (Entry M)) (board : Shown M) (n m source to : ℕ) → Reaches most board n (begun_before old m)
      → n ≤ length (made old) → source < n → to ≤ length (stock old source)
      → entries_in board.history + (to - length (facts_of board.history source).sent) ≤ compact_size old
  sending_more most old board n m source to reaches within before end =
      let now = facts_of board.history in
      let each : (k : ℕ) → k < n → weight (now k) ≤ weight (settled old k) =
      λ k below. omega (arith, ap weight (reaches.each k below), begun_less old m k) in
      let here : weight (now source) ≡ length (now source).sent =
      omega (arith, ap weight (reaches.each source before), ap (λ f. length f.sent) (reaches.each source before)) in
      omega (
        arith,
        end,
        here,
        reaches.entries,
        weights_one now (settled old) n source before each,
        weights_grow (settled old) n (length (made old)) within,
      )

  -- of no entries all are anybody's
  pub all_by_none : (who : Who) (h : List (Entry M)) → h ≡ no_entries → AllBy who h
  all_by_none who h none = subst (λ entries. AllBy who entries) (sym none) (λ k d within. absurd (omega arith))
