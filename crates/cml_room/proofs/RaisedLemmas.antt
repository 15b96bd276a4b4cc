-- Queues whose numbers are so much more.
use Rattle.std.proofs.Common.{◌≡◌, ◌≢◌, ℕ, ◌+◌, ◌-◌, ◌<◌, ◌≤◌, true, false, List, [], ◌∷◌, ◌++◌, length, unwrap_or}
use Rattle.std.proofs.Common.{slice_get, Option, Some, None, refl, sym, ap, ◌∙◌, inl, inr, arith}
use Rattle.std.specs.Prelude.{◌||◌, ◌==◌}
use Rattle.std.specs.Option.{option_map}
use Rattle.std.proofs.lemmas.Option.{slice_get-map}
use Rattle.std.proofs.lemmas.Bool.{ne_eqb, eq-eqb, true≢false, cases_lt, cases_eq}
use Rattle.std.proofs.lemmas.List.{length-map, map-append}
use Rattle.cml_room.specs.Queues.{QueuesShown, has, queue_of, is_in, raised, all_raised}

mapped_or : {X Y : Type 0} (f : List X → List Y) (o : Option (List X)) → f [] ≡ []
    → unwrap_or (option_map f o) [] ≡ f (unwrap_or o [])
mapped_or f None empty = sym empty
mapped_or f (Some queue) empty = refl

-- each queue is raised
pub queue_raised : (by : ℕ) (shown : QueuesShown) (row : ℕ) → queue_of (all_raised by shown) row ≡ raised by (queue_of shown row)
queue_raised by shown row =
    ap (λ (o : Option (List ℕ)). unwrap_or o []) (slice_get-map (raised by) shown.queues row)
    ∙ mapped_or (raised by) (slice_get shown.queues row) refl

same_test : (by x k : ℕ) → by ≤ k → (k == (by + x)) ≡ ((k - by) == x)
same_test by x k from = elim (cases_eq k (by + x)) [
  | inl same ↦ eq-eqb k (by + x) same ∙ sym (eq-eqb (k - by) x (omega (arith, same)))
  | inr other ↦ ne_eqb k (by + x) other ∙ sym (ne_eqb (k - by) x (λ same. other (omega (arith, same, from))))
]

-- a number is a member just where the number so much less was
pub has_raised : (by : ℕ) (queue : List ℕ) (k : ℕ) → by ≤ k → has (raised by queue) k ≡ has queue (k - by)
has_raised by [] k from = refl
has_raised by (x ∷ queue) k from =
    ap (λ b. b || has (raised by queue) k) (same_test by x k from) ∙ ap (λ b. ((k - by) == x) || b) (has_raised by queue k from)

-- no lesser one is
pub has_below : (by : ℕ) (queue : List ℕ) (k : ℕ) → k < by → has (raised by queue) k ≡ false
has_below by [] k below = refl
has_below by (x ∷ queue) k below =
    ap (λ b. b || has (raised by queue) k) (ne_eqb k (by + x) (λ same. omega (arith, same, below))) ∙ has_below by queue k below

pub in_raised : (by : ℕ) (shown : QueuesShown) (row k : ℕ) → by ≤ k → is_in (all_raised by shown) row k ≡ is_in shown row (k - by)
in_raised by shown row k from = ap (λ (q : List ℕ). has q k) (queue_raised by shown row) ∙ has_raised by (queue_of shown row) k from

pub in_below : (by : ℕ) (shown : QueuesShown) (row k : ℕ) → k < by → is_in (all_raised by shown) row k ≡ false
in_below by shown row k below = ap (λ (q : List ℕ). has q k) (queue_raised by shown row) ∙ has_below by (queue_of shown row) k below

pub members_from : (by : ℕ) (shown : QueuesShown) (row k : ℕ) → is_in (all_raised by shown) row k ≡ true → by ≤ k
members_from by shown row k is = elim (cases_lt k by) [
  | inl below ↦ absurd (true≢false (sym is ∙ in_below by shown row k below))
  | inr from ↦ from
]

-- the parts of a raised queue are parts of the queue, raised
pub record Parted (by : ℕ) (queue xs ys : List ℕ) (k : ℕ) : Type 0 where
  pub before : List ℕ
  pub behind : List ℕ
  pub parts : queue ≡ before ++ (k - by) ∷ behind
  pub xs_are : xs ≡ raised by before
  pub ys_are : ys ≡ raised by behind
  pub from : by ≤ k

pub parted_raised : (by : ℕ) (queue xs ys : List ℕ) (k : ℕ) → raised by queue ≡ xs ++ k ∷ ys → Parted by queue xs ys k
parted_raised by [] [] ys k is = absurd (let clash : [] ≡ k ∷ ys = is in cc)
parted_raised by [] (x ∷ xs) ys k is = absurd (let clash : [] ≡ x ∷ (xs ++ k ∷ ys) = is in cc)
parted_raised by (q ∷ queue) [] ys k is =
    let same : (by + q) ∷ raised by queue ≡ k ∷ ys = is in
    let first : by + q ≡ k = cc in
    let rest : raised by queue ≡ ys = cc in
    let here : q ≡ k - by = omega (arith, first) in
    record {
      before = [];
      behind = queue;
      parts = ap (λ n. n ∷ queue) here;
      xs_are = refl;
      ys_are = sym rest;
      from = omega (arith, first);
    }
parted_raised by (q ∷ queue) (x ∷ xs) ys k is =
    let same : (by + q) ∷ raised by queue ≡ x ∷ (xs ++ k ∷ ys) = is in
    let first : by + q ≡ x = cc in
    let rest : raised by queue ≡ xs ++ k ∷ ys = cc in
    let later = parted_raised by queue xs ys k rest in
    record {
      before = q ∷ later.before;
      behind = later.behind;
      parts = ap (λ (l : List ℕ). q ∷ l) later.parts;
      xs_are = ap (λ (n : ℕ). n ∷ xs) (sym first) ∙ ap (λ (l : List ℕ). (by + q) ∷ l) later.xs_are;
      ys_are = later.ys_are;
      from = later.from;
    }

pub first_raised : (by : ℕ) (queue : List ℕ) → slice_get (raised by queue) 0 ≡ option_map (λ n. by + n) (slice_get queue 0)
first_raised by queue = slice_get-map (λ n. by + n) queue 0

back : (by k : ℕ) → by ≤ k → by + (k - by) ≡ k
back by k from = omega (arith, from)

module _ (by : ℕ) (dense now : QueuesShown) (is : all_raised by dense ≡ now) where
  pub queue_now : (row : ℕ) → queue_of now row ≡ raised by (queue_of dense row)
  queue_now row = ap (λ (s : QueuesShown). queue_of s row) (sym is) ∙ queue_raised by dense row

  pub in_now : (row k : ℕ) → by ≤ k → is_in dense row (k - by) ≡ is_in now row k
  in_now row k from = sym (in_raised by dense row k from) ∙ ap (λ (s : QueuesShown). is_in s row k) is

  pub from_now : (row k : ℕ) → is_in now row k ≡ true → by ≤ k
  from_now row k member = members_from by dense row k (ap (λ (s : QueuesShown). is_in s row k) is ∙ member)

  pub parted_now : (row : ℕ) (xs ys : List ℕ) (k : ℕ) → queue_of now row ≡ xs ++ k ∷ ys → Parted by (queue_of dense row) xs ys k
  parted_now row xs ys k parts = parted_raised by (queue_of dense row) xs ys k (sym (queue_now row) ∙ parts)

  pub short_now : (row bound : ℕ) → length (queue_of dense row) ≤ bound → length (queue_of now row) ≤ bound
  short_now row bound short = omega (arith, ap length (queue_now row), length-map (queue_of dense row) (λ n. by + n), short)

  -- what is after a member is after it in the raised queue
  pub after_now : (k : ℕ) (next : Option ℕ)
      → ((row : ℕ) (xs ys : List ℕ) → queue_of dense row ≡ xs ++ (k - by) ∷ ys → next ≡ slice_get ys 0)
      → (row : ℕ) (xs ys : List ℕ) → queue_of now row ≡ xs ++ k ∷ ys → option_map (λ n. by + n) next ≡ slice_get ys 0
  after_now k next after row xs ys parts =
      let split = parted_now row xs ys k parts in
      ap (option_map (λ n. by + n)) (after row split.before split.behind split.parts)
      ∙ (sym (first_raised by split.behind) ∙ ap (λ (l : List ℕ). slice_get l 0) (sym split.ys_are))

  -- a number was pushed
  pub pushed_now : (dense' : QueuesShown) (row k : ℕ) → by ≤ k
      → queue_of dense' row ≡ queue_of dense row ++ (k - by) ∷ [] → queue_of (all_raised by dense') row ≡ queue_of now row ++ k ∷ []
  pushed_now dense' row k from here =
      queue_raised by dense' row ∙ (ap (raised by) here
      ∙ (map-append (λ n. by + n) (queue_of dense row) ((k - by) ∷ [])
      ∙ (ap (λ (l : List ℕ). l ++ (by + (k - by)) ∷ []) (sym (queue_now row))
      ∙ ap (λ (n : ℕ). queue_of now row ++ n ∷ []) (back by k from))))

  -- a number was removed
  pub removed_now : (dense' : QueuesShown) (row k : ℕ)
      → ((xs ys : List ℕ) → queue_of dense row ≡ xs ++ (k - by) ∷ ys → queue_of dense' row ≡ xs ++ ys)
      → (xs ys : List ℕ) → queue_of now row ≡ xs ++ k ∷ ys → queue_of (all_raised by dense') row ≡ xs ++ ys
  removed_now dense' row k here xs ys parts =
      let split = parted_now row xs ys k parts in
      queue_raised by dense' row ∙ (ap (raised by) (here split.before split.behind split.parts)
      ∙ (map-append (λ n. by + n) split.before split.behind
      ∙ (ap (λ (l : List ℕ). l ++ raised by split.behind) (sym split.xs_are) ∙ ap (λ (l : List ℕ). xs ++ l) (sym split.ys_are))))

  -- another queue is as it was
  pub other_now : (dense' : QueuesShown) (row : ℕ) → queue_of dense' row ≡ queue_of dense row
      → queue_of (all_raised by dense') row ≡ queue_of now row
  other_now dense' row same = queue_raised by dense' row ∙ (ap (raised by) same ∙ sym (queue_now row))

  -- another number is where it was
  pub kept_now : (dense' : QueuesShown) (row k : ℕ)
      → ((other : ℕ) → other ≢ k - by → is_in dense' row other ≡ is_in dense row other)
      → by ≤ k → (other : ℕ) → other ≢ k → is_in (all_raised by dense') row other ≡ is_in now row other
  kept_now dense' row k kept from other apart = elim (cases_lt other by) [
    | inl below ↦ in_below by dense' row other below
        ∙ (sym (in_below by dense row other below) ∙ ap (λ (s : QueuesShown). is_in s row other) is)
    | inr past ↦ in_raised by dense' row other past
        ∙ (kept (other - by) (λ same. apart (omega (arith, same, from, past))) ∙ in_now row other past)
  ]
