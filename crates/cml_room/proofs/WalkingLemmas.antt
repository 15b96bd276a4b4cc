-- A walk along a queue: what was seen of its members.
use Rattle.std.proofs.Common.{◌≡◌, ℕ, zero, suc, ◌+◌, ◌<◌, ◌≤◌, inl, inr, true, List, [], ◌∷◌, length, slice_get, Option}
use Rattle.std.proofs.Common.{Some, None, sym, ap, subst, ◌∙◌, arith}
use Rattle.std.proofs.lemmas.Option.{none-some, same_Some, slice_get_within}
use Rattle.std.proofs.lemmas.Bool.{cases_lt}
use Rattle.cml_room.specs.Queues.{has}
use Rattle.cml_room.proofs.ListingLemmas.{at_has}

-- this many members were seen, and this is the next
pub record Walked (queue : List ℕ) (next : Option ℕ) (count : ℕ) (Seen : ℕ → Type 0) : Type 0 where
  pub next_is : next ≡ slice_get queue count
  pub seen : (i k : ℕ) → i < count → slice_get queue i ≡ Some k → Seen k

pub past_none : {X : Type 0} (xs : List X) (n : ℕ) → slice_get xs n ≡ None → length xs ≤ n
past_none [] n none = omega arith
past_none (x ∷ xs) zero none = absurd (none-some x (sym none))
past_none (x ∷ xs) (suc n) none = omega (arith, past_none xs n none)

module _ {queue : List ℕ} {next : Option ℕ} {Seen : ℕ → Type 0} where
  pub walk_begins : next ≡ slice_get queue 0 → Walked queue next 0 Seen
  walk_begins is = record { next_is = is; seen = λ i k less found. absurd (omega (arith, less)) }

module _ {queue : List ℕ} {next : Option ℕ} {count : ℕ} {Seen : ℕ → Type 0} (walked : Walked queue next count Seen) where
  -- all were seen
  pub walk_ends : length queue ≤ count → (k : ℕ) → has queue k ≡ true → Seen k
  walk_ends all k is =
      let at = at_has queue k is in
      walked.seen at.0 k (omega (arith, slice_get_within queue at.0 k at.1, all)) at.1

  pub walk_stops : next ≡ None → (k : ℕ) → has queue k ≡ true → Seen k
  walk_stops none = walk_ends (past_none queue count (sym walked.next_is ∙ none))

  -- the next is there
  pub walk_at : {k : ℕ} → next ≡ Some k → slice_get queue count ≡ Some k
  walk_at is = sym walked.next_is ∙ is

  -- one more was seen
  pub walk_goes : {next' : Option ℕ} {k : ℕ} → next ≡ Some k → Seen k
      → next' ≡ slice_get queue (count + 1) → Walked queue next' (count + 1) Seen
  walk_goes {k = k} is seen then = record {
    next_is = then;
    seen = λ i j less found. elim (cases_lt i count) [
      | inl before ↦ walked.seen i j before found
      | inr past ↦
          let here : i ≡ count = omega (arith, past, less) in
          subst Seen (same_Some k j (sym (walk_at is) ∙ ap (slice_get queue) (sym here) ∙ found)) seen
    ];
  }

  -- what was seen of each still is so
  pub walk_kept : {Seen' : ℕ → Type 0} → ((k : ℕ) → Seen k → Seen' k) → Walked queue next count Seen'
  walk_kept kept = record { next_is = walked.next_is; seen = λ i k less found. kept k (walked.seen i k less found) }
