-- A queue, as a number is appended to it or leaves it.
use Rattle.std.proofs.Common.{◌≡◌, ◌≢◌, ℕ, zero, suc, ◌<◌, ◌||◌, eqb, Bool, true, false, List, [], ◌∷◌, ◌++◌, length, slice_get}
use Rattle.std.proofs.Common.{slice_set, Option, Some, None, IfSome, refl, sym, ap, subst, ◌∙◌, ◌⊎◌, inl, inr, ne_eqb}
use Rattle.std.proofs.lemmas.Option.{same_Some}
use Rattle.std.proofs.lemmas.Bool.{true≢false, or_parts, or_from, cases_eq, cases_Bool}
use Rattle.std.proofs.lemmas.List.{length-set}
use Rattle.cml_room.specs.Queues.{has}
use Rattle.cml_room.specs.Links.{next_in, previous_in, head_or, last_or, link_of, IsChain, IsApart, IsQueue, next_set}
use Rattle.cml_room.specs.declared.queues.links.Link.{Link}
use Rattle.cml_room.specs.declared.queues.links.Ends.{Ends}
use Rattle.cml_room.specs.Links.{previous_set, end_set, appended, ends_appended, joined, ends_joined}
use Rattle.cml_room.proofs.ChainsLemmas.{set_same, set_other, differs, has_head, last_has, head_has, last_append, end_kept}
use Rattle.cml_room.proofs.ChainsLemmas.{chain_kept, next_set_other, previous_set_other, chain_next, chain_previous, chain_split}
use Rattle.cml_room.proofs.ChainsLemmas.{chain_joined, has_append, apart_split, apart_joined}

pub not_true : (b : Bool) → (b ≡ true → ⊥) → b ≡ false
not_true b never = elim (cases_Bool b) [ inl is ↦ absurd (never is) | inr isnt ↦ isnt ]

pub if_some : (o : Option ℕ) (P : ℕ → Type 0) → ((k : ℕ) → o ≡ Some k → P k) → IfSome o P
if_some None P holds = tt
if_some (Some k) P holds = holds k refl

pub length-next_set : (links : List Link) (at next : Option ℕ) → length (next_set links at next) ≡ length links
length-next_set links None next = refl
length-next_set links (Some k) next = length-set links k (link_of (previous_in (slice_get links k)) next)

pub length-previous_set : (links : List Link) (at previous : Option ℕ) → length (previous_set links at previous) ≡ length links
length-previous_set links None previous = refl
length-previous_set links (Some k) previous = length-set links k (link_of previous (next_in (slice_get links k)))

pub length-appended : (links : List Link) (ends : Ends) (number : ℕ) → length (appended links ends number) ≡ length links
length-appended links ends number =
    length-next_set (slice_set links number (link_of ends.last None)) ends.last (Some number)
    ∙ length-set links number (link_of ends.last None)

pub length-joined : (links : List Link) (link : Option Link) → length (joined links link) ≡ length links
length-joined links link =
    length-previous_set (next_set links (previous_in link) (next_in link)) (next_in link) (previous_in link)
    ∙ length-next_set links (previous_in link) (next_in link)

pub appended_other : (links : List Link) (ends : Ends) (number k : ℕ) → k ≢ number → ends.last ≢ Some k
    → slice_get (appended links ends number) k ≡ slice_get links k
appended_other links ends number k other last =
    next_set_other (slice_set links number (link_of ends.last None)) ends.last (Some number) k last
    ∙ set_other links number k (link_of ends.last None) other

pub joined_other : (links : List Link) (link : Option Link) (k : ℕ) → previous_in link ≢ Some k → next_in link ≢ Some k
    → slice_get (joined links link) k ≡ slice_get links k
joined_other links link k previous next =
    previous_set_other (next_set links (previous_in link) (next_in link)) (next_in link) (previous_in link) k next
    ∙ next_set_other links (previous_in link) (next_in link) k previous

-- no link leads past the last number below the bound
abbrev pub LeadWithin : ℕ → List Link → Type 0
LeadWithin bound links = (number : ℕ) (link : Link) → slice_get links number ≡ Some link → IfSome link.next (λ next. next < bound)

set_cases : (links : List Link) (i j : ℕ) (new link : Link) → slice_get (slice_set links i new) j ≡ Some link
    → (new ≡ link) ⊎ (slice_get links j ≡ Some link)
set_cases [] i j new link found = inr found
set_cases (x ∷ links) zero zero new link found = inl (same_Some new link found)
set_cases (x ∷ links) zero (suc j) new link found = inr found
set_cases (x ∷ links) (suc i) zero new link found = inr found
set_cases (x ∷ links) (suc i) (suc j) new link found = set_cases links i j new link found

set_within : (bound : ℕ) (links : List Link) (i : ℕ) (new : Link) → LeadWithin bound links → IfSome new.next (λ next. next < bound)
    → LeadWithin bound (slice_set links i new)
set_within bound links i new within leads j link found =
    elim (set_cases links i j new link found) [
      | inl same ↦ let P : Link → Type 0 = λ l. IfSome l.next (λ next. next < bound) in subst P same leads
      | inr old ↦ within j link old
    ]

next_within : (bound : ℕ) (links : List Link) (k : ℕ) → LeadWithin bound links → IfSome (next_in (slice_get links k)) (λ next. next < bound)
next_within bound links k within =
    let leads : (o : Option Link) → slice_get links k ≡ o → IfSome (next_in o) (λ next. next < bound) = λ o.
    elim o as
    (λ o. slice_get links k ≡ o → IfSome (next_in o) (λ next. next < bound)) [ None ↦ λ is. tt | Some link ↦ λ is. within k link is ] in
    leads (slice_get links k) refl

next_set_within : (bound : ℕ) (links : List Link) (at next : Option ℕ) → LeadWithin bound links → IfSome next (λ next. next < bound)
    → LeadWithin bound (next_set links at next)
next_set_within bound links None next within leads = within
next_set_within bound links (Some k) next within leads =
    set_within bound links k (link_of (previous_in (slice_get links k)) next) within leads

previous_set_within : (bound : ℕ) (links : List Link) (at previous : Option ℕ) → LeadWithin bound links
    → LeadWithin bound (previous_set links at previous)
previous_set_within bound links None previous within = within
previous_set_within bound links (Some k) previous within =
    set_within bound links k (link_of previous (next_in (slice_get links k))) within (next_within bound links k within)

pub appended_within : (bound : ℕ) (links : List Link) (ends : Ends) (number : ℕ) → LeadWithin bound links → number < bound
    → LeadWithin bound (appended links ends number)
appended_within bound links ends number within leads =
    next_set_within bound (slice_set links number (link_of ends.last None)) ends.last (Some number)
    (set_within bound links number (link_of ends.last None) within tt) leads

pub joined_within : (bound : ℕ) (links : List Link) (number : ℕ) → LeadWithin bound links
    → LeadWithin bound (joined links (slice_get links number))
joined_within bound links number within =
    previous_set_within bound (next_set links (previous_in (slice_get links number)) (next_in (slice_get links number)))
    (next_in (slice_get links number)) (previous_in (slice_get links number))
    (next_set_within bound links (previous_in (slice_get links number)) (next_in (slice_get links number)) within
    (next_within bound links number within))

first_appended : (ks : List ℕ) (number : ℕ) (first : Option ℕ) → first ≡ head_or ks None
    → end_set first (last_or None ks) (Some number) ≡ head_or (ks ++ number ∷ []) None
first_appended [] number first is = refl
first_appended (k ∷ ks) number first is = end_kept first (Some number) k ks ∙ is

pub only : (k number : ℕ) → k ≢ number → has (number ∷ []) k ≡ false
only k number other = or_from (eqb k number) false (ne_eqb k number other) refl

pub queue_appended : (links : List Link) (ends : Ends) (ks : List ℕ) (number : ℕ) → number < length links → has ks number ≡ false
    → IsQueue links ends ks → IsQueue (appended links ends number) (ends_appended ends number) (ks ++ number ∷ [])
queue_appended links ends ks number within isnt queue =
    let last : Option ℕ = last_or None ks in
    let set : List Link = slice_set links number (link_of last None) in
    let new : List Link = next_set set last (Some number) in
    let kept : IsChain set None ks None =
    chain_kept links set None ks None (λ k is. set_other links number k (link_of last None) (differs ks k number is isnt)) queue.chain in
    let before : IsChain new None ks (Some number) = chain_next set None ks None (Some number) kept queue.apart in
    let apart : last ≢ Some number = λ same. true≢false (sym (last_has ks number same) ∙ isnt) in
    let link : slice_get new number ≡ Some (link_of last None) =
    next_set_other set last (Some number) number apart ∙ set_same links number (link_of last None) within in
    let chain : IsChain new None (ks ++ number ∷ []) None = chain_joined new None ks (number ∷ []) None before (link, tt) in
    record {
      first = ap (λ (l : Option ℕ). end_set ends.first l (Some number)) queue.last ∙ first_appended ks number ends.first queue.first;
      last = sym (last_append None ks (number ∷ []));
      chain = let P : Option ℕ → Type 0 =
          λ l. IsChain (next_set (slice_set links number (link_of l None)) l (Some number)) None (ks ++ number ∷ []) None in
          subst P (sym queue.last) chain;
      apart = apart_joined ks (number ∷ []) queue.apart (refl, tt) (λ k is. only k number (differs ks k number is isnt));
    }

first_joined : (xs ys : List ℕ) (number : ℕ) (first : Option ℕ) → first ≡ head_or (xs ++ number ∷ ys) None
    → end_set first (last_or None xs) (head_or ys None) ≡ head_or (xs ++ ys) None
first_joined [] ys number first is = refl
first_joined (x ∷ xs) ys number first is = end_kept first (head_or ys None) x xs ∙ is

last_joined : (xs ys : List ℕ) (number : ℕ) (last : Option ℕ) → last ≡ last_or None (xs ++ number ∷ ys)
    → end_set last (head_or ys None) (last_or None xs) ≡ last_or None (xs ++ ys)
last_joined xs [] number last is = sym (last_append None xs [])
last_joined xs (y ∷ ys) number last is = is ∙ last_append None xs (number ∷ y ∷ ys) ∙ sym (last_append None xs (y ∷ ys))

-- the link of a member leads to those beside it
pub link_is : (links : List Link) (ends : Ends) (xs ys : List ℕ) (number : ℕ) → IsQueue links ends (xs ++ number ∷ ys)
    → slice_get links number ≡ Some (link_of (last_or None xs) (head_or ys None))
link_is links ends xs ys number queue = (chain_split links None xs (number ∷ ys) None queue.chain).1.0

pub queue_joined : (links : List Link) (ends : Ends) (xs ys : List ℕ) (number : ℕ) → IsQueue links ends (xs ++ number ∷ ys)
    → IsQueue (joined links (slice_get links number)) (ends_joined ends (slice_get links number)) (xs ++ ys)
queue_joined links ends xs ys number queue =
    let last : Option ℕ = last_or None xs in
    let head : Option ℕ = head_or ys None in
    let split = chain_split links None xs (number ∷ ys) None queue.chain in
    let apart = apart_split xs (number ∷ ys) queue.apart in
    let set : List Link = next_set links last head in
    let new : List Link = previous_set set head last in
    let isnt : (k : ℕ) → has xs k ≡ true → has ys k ≡ false = λ k is. (or_parts (eqb k number) (has ys k) (apart.2 k is)).1 in
    let before : IsChain set None xs head = chain_next links None xs (Some number) head split.0 apart.0 in
    let before' : IsChain new None xs head =
    chain_kept set new None xs head
    (λ k is. previous_set_other set head last k (λ same. true≢false (sym (head_has ys k same) ∙ isnt k is))) before in
    let behind : IsChain set (Some number) ys None =
    chain_kept links set (Some number) ys None
    (λ k is. next_set_other links last head k (λ same. true≢false (sym is ∙ isnt k (last_has xs k same)))) split.1.1 in
    let behind' : IsChain new last ys None = chain_previous set (Some number) ys None last behind apart.1.1 in
    let linked : IsQueue new (ends_joined ends (Some (link_of last head))) (xs ++ ys) = record {
      first = first_joined xs ys number ends.first queue.first;
      last = last_joined xs ys number ends.last queue.last;
      chain = chain_joined new None xs ys None before' behind';
      apart = apart_joined xs ys apart.0 apart.1.1 isnt;
    } in
    let P : Option Link → Type 0 = λ link. IsQueue (joined links link) (ends_joined ends link) (xs ++ ys) in
    subst P (sym (link_is links ends xs ys number queue)) linked

-- what leaves a list is no member of what is left
pub gone : (xs ys : List ℕ) (number : ℕ) → IsApart (xs ++ number ∷ ys) → has (xs ++ ys) number ≡ false
gone xs ys number apart =
    let parts = apart_split xs (number ∷ ys) apart in
    has_append xs ys number ∙ or_from (has xs number) (has ys number)
    (not_true (has xs number) (λ is. true≢false (sym (has_head number ys) ∙ parts.2 number is))) parts.1.0

-- the others stay members
pub still : (xs ys : List ℕ) (number other : ℕ) → other ≢ number → has (xs ++ ys) other ≡ has (xs ++ number ∷ ys) other
still xs ys number other apart =
    has_append xs ys other ∙ ap (λ b. has xs other || (b || has ys other)) (sym (ne_eqb other number apart))
    ∙ sym (has_append xs (number ∷ ys) other)

pub parted : (ks : List ℕ) (number : ℕ) → has ks number ≡ true → (xs : List ℕ) × (ys : List ℕ) × (ks ≡ xs ++ number ∷ ys)
parted [] number is = absurd (true≢false (sym is))
parted (k ∷ ks) number is =
    elim (cases_eq number k) [
      | inl same ↦ ([], ks, ap (λ n. n ∷ ks) (sym same))
      | inr other ↦
          let rest : (xs : List ℕ) × (ys : List ℕ) × (ks ≡ xs ++ number ∷ ys) =
          parted ks number (sym (ap (λ b. b || has ks number) (ne_eqb number k other)) ∙ is) in
          (k ∷ rest.0, rest.1, ap (λ l. k ∷ l) rest.2)
    ]
