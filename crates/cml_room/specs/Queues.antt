-- Queues of numbers, and which numbers they hold.
use Rattle.std.specs.Prelude.{ℕ, ◌+◌, Bool, eqb, List, [], map, unwrap_or, slice_get}
use Rattle.std.specs.List.{list_any}

-- by number each queue's members, oldest first; and from which number on, and below which, members are
pub record QueuesShown : Type 0 where
  pub queues : List (List ℕ)
  pub first : ℕ
  pub bound : ℕ

-- whether the number is a member of the queue
abbrev pub has : List ℕ → ℕ → Bool
has queue number = list_any (eqb number) queue

-- the members of the queue with this number; there are none where there is no such queue
abbrev pub queue_of : QueuesShown → ℕ → List ℕ
queue_of shown row = unwrap_or (slice_get shown.queues row) []

-- whether the number is a member of the queue with the number `row`
abbrev pub is_in : QueuesShown → ℕ → ℕ → Bool
is_in shown row number = has (queue_of shown row) number

-- the queue, where each member is so much more
abbrev pub raised : ℕ → List ℕ → List ℕ
raised by queue = map (λ number. by + number) queue

-- queues of numbers from 0 on, as queues of numbers from there on
abbrev pub all_raised : ℕ → QueuesShown → QueuesShown
all_raised by shown = record {
  queues = map (raised by) shown.queues;
  first = by;
  bound = by + shown.bound;
}
