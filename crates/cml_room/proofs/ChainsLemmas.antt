-- Chains of links, as a link changes.
use Rattle.std.proofs.Common.{◌≡◌, ◌≢◌, ℕ, zero, suc, ◌<◌, ◌≤◌, ◌||◌, eqb, true, false, List, [], ◌∷◌, ◌++◌, length, slice_get}
use Rattle.std.proofs.Common.{slice_set, Option, Some, None, refl, sym, ap, subst, inl, inr, ◌∙◌, arith, eq-eqb, ne_eqb}
use Rattle.std.proofs.lemmas.Option.{none-some, same_Some, slice_get_within}
use Rattle.std.proofs.lemmas.Bool.{true≢false, or_parts, or_from, or_left, or_right, cases_eq}
use Rattle.std.proofs.lemmas.List.Folds.{list_any-append}
use Rattle.std.proofs.lemmas.Map.Steps.{length-le_from_distinct_below}
use Rattle.std.specs.List.{IsDistinct, AllByRecursion}
use Rattle.cml_room.specs.Queues.{has}
use Rattle.cml_room.specs.Links.{next_in, previous_in, walk, head_or, last_or, link_of, IsChain, IsApart, IsQueue, next_set}
use Rattle.cml_room.specs.declared.queues.links.Link.{Link}
use Rattle.cml_room.specs.declared.queues.links.Ends.{Ends}
use Rattle.cml_room.specs.Links.{previous_set, end_set, queue_from}

module _ {X : Type 0} where
  pub set_same : (xs : List X) (i : ℕ) (y : X) → i < length xs → slice_get (slice_set xs i y) i ≡ Some y
  set_same [] i y within = absurd (omega arith)
  set_same (z ∷ xs) zero y within = refl
  set_same (z ∷ xs) (suc i) y within = set_same xs i y (omega arith)

  pub set_other : (xs : List X) (i j : ℕ) (y : X) → j ≢ i → slice_get (slice_set xs i y) j ≡ slice_get xs j
  set_other [] i j y other = refl
  set_other (x ∷ xs) zero zero y other = absurd (other refl)
  set_other (x ∷ xs) zero (suc j) y other = refl
  set_other (x ∷ xs) (suc i) zero y other = refl
  set_other (x ∷ xs) (suc i) (suc j) y other = set_other xs i j y (λ e. other (ap suc e))

-- a member is none of the numbers that aren't
pub differs : (ks : List ℕ) (j k : ℕ) → has ks j ≡ true → has ks k ≡ false → j ≢ k
differs ks j k is isnt same = true≢false (sym is ∙ ap (has ks) same ∙ isnt)

pub has_head : (k : ℕ) (ks : List ℕ) → has (k ∷ ks) k ≡ true
has_head k ks = or_left (eqb k k) (has ks k) (eq-eqb k k refl)

pub has_tail : (k j : ℕ) (ks : List ℕ) → has ks j ≡ true → has (k ∷ ks) j ≡ true
has_tail k j ks is = or_right (eqb j k) (has ks j) is

pub last_in : (m : ℕ) (ms : List ℕ) (k : ℕ) → last_or (Some m) ms ≡ Some k → has (m ∷ ms) k ≡ true
last_in m [] k is = let same : k ≡ m = sym (same_Some m k is) in or_left (eqb k m) false (eq-eqb k m same)
last_in m (n ∷ ms) k is = has_tail m k (n ∷ ms) (last_in n ms k is)

pub last_has : (xs : List ℕ) (k : ℕ) → last_or None xs ≡ Some k → has xs k ≡ true
last_has [] k is = absurd (none-some k is)
last_has (x ∷ xs) k is = last_in x xs k is

pub head_has : (ys : List ℕ) (k : ℕ) → head_or ys None ≡ Some k → has ys k ≡ true
head_has [] k is = absurd (none-some k is)
head_has (y ∷ ys) k is = let same : k ≡ y = sym (same_Some y k is) in or_left (eqb k y) (has ys k) (eq-eqb k y same)

pub head_append : (xs ys : List ℕ) (rest : Option ℕ) → head_or (xs ++ ys) rest ≡ head_or xs (head_or ys rest)
head_append [] ys rest = refl
head_append (x ∷ xs) ys rest = refl

pub last_append : (before : Option ℕ) (xs ys : List ℕ) → last_or before (xs ++ ys) ≡ last_or (last_or before xs) ys
last_append before [] ys = refl
last_append before (x ∷ xs) ys = last_append (Some x) xs ys

-- the end of a queue stays where there is a number
pub end_kept : (end set : Option ℕ) (x : ℕ) (xs : List ℕ) → end_set end (last_or (Some x) xs) set ≡ end
end_kept end set x [] = refl
end_kept end set x (y ∷ xs) = end_kept end set y xs

module _ (links links' : List Link) where
  pub chain_kept : (before : Option ℕ) (ks : List ℕ) (rest : Option ℕ)
      → ((k : ℕ) → has ks k ≡ true → slice_get links' k ≡ slice_get links k)
      → IsChain links before ks rest → IsChain links' before ks rest
  chain_kept before [] rest kept chain = tt
  chain_kept before (k ∷ ks) rest kept chain = (
    kept k (has_head k ks) ∙ chain.0,
    chain_kept (Some k) ks rest (λ j is. kept j (has_tail k j ks is)) chain.1,
  )

module _ (links : List Link) where
  pub next_set_other : (at next : Option ℕ) (k : ℕ) → at ≢ Some k → slice_get (next_set links at next) k ≡ slice_get links k
  next_set_other None next k other = refl
  next_set_other (Some j) next k other =
      set_other links j k (link_of (previous_in (slice_get links j)) next) (λ same. other (ap Some (sym same)))

  pub previous_set_other : (at previous : Option ℕ) (k : ℕ) → at ≢ Some k → slice_get (previous_set links at previous) k ≡ slice_get links k
  previous_set_other None previous k other = refl
  previous_set_other (Some j) previous k other =
      set_other links j k (link_of previous (next_in (slice_get links j))) (λ same. other (ap Some (sym same)))

  pub chain_within : (before : Option ℕ) (ks : List ℕ) (rest : Option ℕ) → IsChain links before ks rest → (k : ℕ)
      → has ks k ≡ true → k < length links
  chain_within before [] rest chain k is = absurd (true≢false (sym is))
  chain_within before (j ∷ ks) rest chain k is =
      elim (cases_eq k j) [
        | inl same ↦ let P : ℕ → Type 0 = λ n. n < length links in
            subst P (sym same) (slice_get_within links j (link_of before (head_or ks rest)) chain.0)
        | inr other ↦ chain_within (Some j) ks rest chain.1 k (sym (ap (λ b. b || has ks k) (ne_eqb k j other)) ∙ is)
      ]

  -- what the last of a chain leads to is set
  pub chain_next : (before : Option ℕ) (xs : List ℕ) (rest next : Option ℕ) → IsChain links before xs rest → IsApart xs
      → IsChain (next_set links (last_or before xs) next) before xs next
  chain_next before [] rest next chain apart = tt
  chain_next before (k ∷ []) rest next chain apart = (
    set_same links k (link_of (previous_in (slice_get links k)) next) (slice_get_within links k (link_of before rest) chain.0)
        ∙ ap (λ (o : Option Link). Some (link_of (previous_in o) next)) chain.0,
    tt,
  )
  chain_next before (k ∷ m ∷ ms) rest next chain apart = (
    next_set_other (last_or (Some m) ms) next k (λ is. true≢false (sym (last_in m ms k is) ∙ apart.0)) ∙ chain.0,
    chain_next (Some k) (m ∷ ms) rest next chain.1 apart.1,
  )

  -- what the first of a chain comes after is set
  pub chain_previous : (before : Option ℕ) (ys : List ℕ) (rest previous : Option ℕ) → IsChain links before ys rest → IsApart ys
      → IsChain (previous_set links (head_or ys None) previous) previous ys rest
  chain_previous before [] rest previous chain apart = tt
  chain_previous before (k ∷ ks) rest previous chain apart = (
    set_same links k (link_of previous (next_in (slice_get links k))) (slice_get_within links k (link_of before (head_or ks rest)) chain.0)
        ∙ ap (λ (o : Option Link). Some (link_of previous (next_in o))) chain.0,
    chain_kept links (previous_set links (Some k) previous) (Some k) ks rest
        (λ j is. previous_set_other (Some k) previous j (λ same. differs ks j k is apart.0 (sym (same_Some k j same)))) chain.1,
  )

  pub chain_split : (before : Option ℕ) (xs ys : List ℕ) (rest : Option ℕ) → IsChain links before (xs ++ ys) rest
      → IsChain links before xs (head_or ys rest) × IsChain links (last_or before xs) ys rest
  chain_split before [] ys rest chain = (tt, chain)
  chain_split before (x ∷ xs) ys rest chain =
      let split : IsChain links (Some x) xs (head_or ys rest) × IsChain links (last_or (Some x) xs) ys rest =
      chain_split (Some x) xs ys rest chain.1 in
      ((chain.0 ∙ ap (λ (o : Option ℕ). Some (link_of before o)) (head_append xs ys rest), split.0), split.1)

  pub chain_joined : (before : Option ℕ) (xs ys : List ℕ) (rest : Option ℕ) → IsChain links before xs (head_or ys rest)
      → IsChain links (last_or before xs) ys rest → IsChain links before (xs ++ ys) rest
  chain_joined before [] ys rest one other = other
  chain_joined before (x ∷ xs) ys rest one other = (
    one.0 ∙ ap (λ (o : Option ℕ). Some (link_of before o)) (sym (head_append xs ys rest)),
    chain_joined (Some x) xs ys rest one.1 other,
  )

pub has_append : (xs ys : List ℕ) (k : ℕ) → has (xs ++ ys) k ≡ (has xs k || has ys k)
has_append xs ys k = list_any-append (eqb k) xs ys

pub apart_split : (xs ys : List ℕ) → IsApart (xs ++ ys) → IsApart xs × IsApart ys × ((k : ℕ) → has xs k ≡ true → has ys k ≡ false)
apart_split [] ys apart = (tt, apart, λ k is. absurd (true≢false (sym is)))
apart_split (x ∷ xs) ys apart =
    let rest : IsApart xs × IsApart ys × ((k : ℕ) → has xs k ≡ true → has ys k ≡ false) = apart_split xs ys apart.1 in
    let parts : (has xs x ≡ false) × (has ys x ≡ false) = or_parts (has xs x) (has ys x) (sym (has_append xs ys x) ∙ apart.0) in (
      (parts.0, rest.0),
      rest.1,
      λ k is. elim (cases_eq k x) [
        | inl same ↦ ap (has ys) same ∙ parts.1
        | inr other ↦ rest.2 k (sym (ap (λ b. b || has xs k) (ne_eqb k x other)) ∙ is)
      ],
    )

pub apart_joined : (xs ys : List ℕ) → IsApart xs → IsApart ys → ((k : ℕ) → has xs k ≡ true → has ys k ≡ false) → IsApart (xs ++ ys)
apart_joined [] ys one other apart = other
apart_joined (x ∷ xs) ys one other apart = (
  has_append xs ys x ∙ or_from (has xs x) (has ys x) one.0 (apart x (has_head x xs)),
  apart_joined xs ys one.1 other (λ k is. apart k (has_tail x k xs is)),
)

none_is : (x : ℕ) (ks : List ℕ) → has ks x ≡ false → AllByRecursion (λ y. eqb x y ≡ false) ks
none_is x [] isnt = tt
none_is x (k ∷ ks) isnt = let parts = or_parts (eqb x k) (has ks x) isnt in (parts.0, none_is x ks parts.1)

distinct : (ks : List ℕ) → IsApart ks → IsDistinct eqb ks
unfolding IsDistinct
distinct [] apart = tt
distinct (k ∷ ks) apart = (none_is k ks apart.0, distinct ks apart.1)

-- a walk along a chain passes its members
pub walked : (links : List Link) (before : Option ℕ) (ks : List ℕ) (steps : ℕ) → length ks ≤ steps → IsChain links before ks None
    → walk steps links (head_or ks None) ≡ ks
walked links before [] zero short chain = refl
walked links before [] (suc steps) short chain = refl
walked links before (k ∷ ks) zero short chain = absurd (omega arith)
walked links before (k ∷ ks) (suc steps) short chain =
    ap (λ (o : Option Link). k ∷ walk steps links (next_in o)) chain.0
    ∙ ap (λ l. k ∷ l) (walked links (Some k) ks steps (omega arith) chain.1)

pub queue_is : (links : List Link) (ends : Ends) (ks : List ℕ) → IsQueue links ends ks → queue_from links ends ≡ ks
queue_is links ends ks queue =
    let short : length ks ≤ length links =
    length-le_from_distinct_below ks (length links) (distinct ks queue.apart) (chain_within links None ks None queue.chain) in
    ap (walk (length links) links) queue.first ∙ walked links None ks (length links) short queue.chain

pub queue_kept : (links links' : List Link) (ends : Ends) (ks : List ℕ)
    → ((k : ℕ) → has ks k ≡ true → slice_get links' k ≡ slice_get links k) → IsQueue links ends ks → IsQueue links' ends ks
queue_kept links links' ends ks kept queue = record {
  first = queue.first;
  last = queue.last;
  chain = chain_kept links links' None ks None kept queue.chain;
  apart = queue.apart;
}

-- a queue has no more members than there are numbers
pub queue_short : (links : List Link) (ends : Ends) (ks : List ℕ) → IsQueue links ends ks → length ks ≤ length links
queue_short links ends ks queue =
    length-le_from_distinct_below ks (length links) (distinct ks queue.apart) (chain_within links None ks None queue.chain)
