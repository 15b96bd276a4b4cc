-- What the queues show, as they are made, and as one of them or the number of links changes.
use Rattle.std.proofs.Common.{◌≡◌, ◌≢◌, ℕ, zero, suc, ◌<◌, ◌≤◌, true, false, List, [], ◌∷◌, ◌++◌, length, take, drop, get_or}
use Rattle.std.proofs.Common.{map, replicate, unwrap_or, slice_get, slice_set, Option, Some, None, IfSome, refl, sym, ap}
use Rattle.std.proofs.Common.{subst, ◌∙◌, ◌⊎◌, inl, inr, arith, length-append}
use Rattle.std.proofs.lemmas.Option.{none-some, same_Some, slice_get_within, slice_get_past, slice_get_read, slice_get-get_or}
use Rattle.std.proofs.lemmas.Option.{get_or_from_slice_get, IfSome_then}
use Rattle.std.proofs.lemmas.Bool.{true≢false, cases_lt, cases_eq}
use Rattle.std.proofs.lemmas.List.{length-map, length-replicate, get_or-replicate}
use Rattle.std.proofs.Math.Seq.{take-append_seam}
use Rattle.cml_room.specs.Queues.{QueuesShown, has, queue_of, is_in}
use Rattle.cml_room.specs.Links.{previous_in, head_or, last_or, link_of, ends_of, IsApart}
use Rattle.cml_room.specs.declared.queues.links.Link.{Link}
use Rattle.cml_room.specs.declared.queues.links.Ends.{Ends}
use Rattle.cml_room.specs.Links.{IsQueue, row_of, AreQueues, AreLinked, queue_from, shown_by, appended, ends_appended, joined, ends_joined}
use Rattle.cml_room.proofs.ChainsLemmas.{has_head, has_append, queue_kept, queue_short, chain_within}
use Rattle.cml_room.proofs.ChangesLemmas.{length-appended, length-joined, gone, not_true}
use Rattle.cml_room.proofs.RowsLemmas.{shown_is, row_same, row_other, last_within, queues_appended, member_link}
use Rattle.cml_room.proofs.RowsLemmas.{previous_within, queues_joined}
use Rattle.std.proofs.lemmas.Bool.{or_right}

-- a queue with a member is one of the queues
pub is_row : (lists : List (List ℕ)) (row number : ℕ) → has (row_of lists row) number ≡ true → row < length lists
is_row lists row number is =
    elim (cases_lt row (length lists)) [
      | inl within ↦ within
      | inr past ↦ absurd (true≢false (sym is ∙ ap (λ (o : Option (List ℕ)). has (unwrap_or o []) number) (slice_get_past lists row past)))
    ]

-- what is written over the whole of a list is then the list
pub written : {X : Type 0} (new old : List X) (len : ℕ) → len ≡ length old → length new ≡ length old
    → take len (new ++ drop (length new) old) ≡ new
written new old len ok long =
    let same : len ≡ length new = ok ∙ sym long in
    ap (λ n. take n (new ++ drop (length new) old)) same ∙ take-append_seam new (drop (length new) old)

pub member_of : (lists : List (List ℕ)) (row number : ℕ) (xs ys : List ℕ) → row_of lists row ≡ xs ++ number ∷ ys
    → has (row_of lists row) number ≡ true
member_of lists row number xs ys parts =
    ap (λ l. has l number) parts ∙ has_append xs (number ∷ ys) number
    ∙ or_right (has xs number) (has (number ∷ ys) number) (has_head number ys)

-- what the queues show after one of them changed
pub here_is : (links : List Link) (ends : List Ends) (lists : List (List ℕ)) (row : ℕ) (ks : List ℕ)
    → AreQueues links ends (slice_set lists row ks) → row < length lists
    → row_of (map (queue_from links) ends) row ≡ ks
here_is links ends lists row ks are within =
    ap (λ l. row_of l row) (shown_is links ends (slice_set lists row ks) are) ∙ row_same lists row ks within

pub others_are : (links : List Link) (ends : List Ends) (lists : List (List ℕ)) (row : ℕ) (ks : List ℕ)
    → AreQueues links ends (slice_set lists row ks)
    → (other : ℕ) → other ≢ row → row_of (map (queue_from links) ends) other ≡ row_of lists other
others_are links ends lists row ks are other apart = ap (λ l. row_of l other) (shown_is links ends (slice_set lists row ks) are)
    ∙ row_other lists row other ks apart

module _ (links : List Link) (ends : List Ends) (old : QueuesShown) (is : shown_by links ends ≡ old) (are : AreLinked links ends) where
  pub queues_are : AreQueues links ends old.queues
  queues_are = let P : QueuesShown → Type 0 = λ s. AreQueues links ends s.queues in subst P is are

  pub found : (row : ℕ) (between : Ends) → row < length old.queues → between ≡ get_or ends row between → slice_get ends row ≡ Some between
  found row between within is_between =
      let in_ends : row < length ends = let P : ℕ → Type 0 = λ n. row < n in subst P queues_are.rows within in
      slice_get_read ends (length ends) row between refl in_ends is_between

  pub read : (row : ℕ) → row < length old.queues → (between : Ends) × (slice_get ends row ≡ Some between)
  read row within =
      let in_ends : row < length ends = let P : ℕ → Type 0 = λ n. row < n in subst P queues_are.rows within in
      (get_or ends row (ends_of None None), slice_get-get_or ends row (ends_of None None) in_ends)

  pub short_row : (row : ℕ) → length (queue_of old row) ≤ length links
  short_row row =
      elim (cases_lt row (length old.queues)) [
        | inl within ↦
            let at = read row within in
            queue_short links at.0 (queue_of old row) (queues_are.each row at.0 at.1)
        | inr past ↦ omega (arith, ap (λ (o : Option (List ℕ)). length (unwrap_or o [])) (slice_get_past old.queues row past))
      ]

  pub bound_is : old.bound ≡ length links
  bound_is = ap (λ (s : QueuesShown). s.bound) (sym is)

  -- the link of a member leads to those beside it
  pub link_of_member : (row number : ℕ) (xs ys : List ℕ) → queue_of old row ≡ xs ++ number ∷ ys
      → slice_get links number ≡ Some (link_of (last_or None xs) (head_or ys None))
  link_of_member row number xs ys parts =
      let at = read row (is_row old.queues row number (member_of old.queues row number xs ys parts)) in
      member_link links ends old.queues row at.0 number at.1 queues_are xs ys parts

  apart_in : (row number : ℕ) (xs ys : List ℕ) → queue_of old row ≡ xs ++ number ∷ ys → IsApart (xs ++ number ∷ ys)
  apart_in row number xs ys parts =
      let at = read row (is_row old.queues row number (member_of old.queues row number xs ys parts)) in
      subst IsApart parts (queues_are.each row at.0 at.1).apart

  -- what left its queue is in none
  pub left_nowhere : (links' : List Link) (ends' : List Ends) (row number : ℕ) (xs ys : List ℕ) → queue_of old row ≡ xs ++ number ∷ ys
      → AreQueues links' ends' (slice_set old.queues row (xs ++ ys)) → (any : ℕ)
      → has (row_of (map (queue_from links') ends') any) number ≡ false
  left_nowhere links' ends' row number xs ys parts left any =
      let member : has (row_of old.queues row) number ≡ true = member_of old.queues row number xs ys parts in
      let within : row < length old.queues = is_row old.queues row number member in
      elim (cases_eq any row) [
        | inl same ↦ ap (λ r. has (row_of (map (queue_from links') ends') r) number) same
            ∙ ap (λ (l : List ℕ). has l number) (here_is links' ends' old.queues row (xs ++ ys) left within)
            ∙ gone xs ys number (apart_in row number xs ys parts)
        | inr other ↦ ap (λ (l : List ℕ). has l number) (others_are links' ends' old.queues row (xs ++ ys) left any other)
            ∙ not_true (has (row_of old.queues any) number) (λ is. other (queues_are.once any row number is member))
      ]

  pub member_within : (row number : ℕ) → is_in old row number ≡ true → number < length links
  member_within row number member =
      let at = read row (is_row old.queues row number member) in
      chain_within links None (queue_of old row) None (queues_are.each row at.0 at.1).chain number member

  module _ (row number : ℕ) (between : Ends) (lent : List Link) (lends : lent ≡ links)
      (is_between : between ≡ get_or ends row between) where
    pub append_last : row < length old.queues → IfSome between.last (λ last. last < length lent)
    append_last within =
        let P : List Link → Type 0 = λ l. IfSome between.last (λ last. last < length l) in
        subst P (sym lends) (last_within links ends old.queues row between number (found row between within is_between) queues_are)

    pub unlink_previous : (xs ys : List ℕ) → queue_of old row ≡ xs ++ number ∷ ys
        → IfSome (previous_in (slice_get lent number)) (λ previous. previous < length lent)
    unlink_previous xs ys parts =
        let within : row < length old.queues = is_row old.queues row number (member_of old.queues row number xs ys parts) in
        let P : List Link → Type 0 = λ l. IfSome (previous_in (slice_get l number)) (λ previous. previous < length l) in
        subst P (sym lends) (previous_within links ends old.queues row between number
        (found row between within is_between) queues_are xs ys parts)

    module _ (len : ℕ) (between' : Ends) (set : List Link) (ok : len ≡ length links) where
      pub pushes : set ≡ appended lent between number → between' ≡ ends_appended between number
          → row < length old.queues → number < old.bound → ((row : ℕ) → is_in old row number ≡ false)
          → AreQueues (take len (set ++ drop (length set) links)) (slice_set ends row between')
          (slice_set old.queues row (queue_of old row ++ number ∷ []))
      pushes set_is ends_is within number_within nowhere =
          let set_is' : set ≡ appended links between number = set_is ∙ ap (λ l. appended l between number) lends in
          let long : length set ≡ length links = ap length set_is' ∙ length-appended links between number in
          let all : take len (set ++ drop (length set) links) ≡ appended links between number = written set links len ok long ∙ set_is' in
          let below : number < length links = let P : ℕ → Type 0 = λ n. number < n in subst P bound_is number_within in
          let new : List (List ℕ) = slice_set old.queues row (queue_of old row ++ number ∷ []) in
          let done : AreQueues (appended links between number) (slice_set ends row (ends_appended between number)) new =
          queues_appended links ends old.queues row between number (found row between within is_between) queues_are below nowhere in
          let P : List Link → Type 0 = λ l. AreQueues l (slice_set ends row between') new in
          let Q : Ends → Type 0 = λ b. AreQueues (appended links between number) (slice_set ends row b) new in
          subst P (sym all) (subst Q (sym ends_is) done)

      pub removes : (xs ys : List ℕ) → queue_of old row ≡ xs ++ number ∷ ys
          → set ≡ joined lent (slice_get lent number) → between' ≡ ends_joined between (slice_get lent number)
          → AreQueues (take len (set ++ drop (length set) links)) (slice_set ends row between') (slice_set old.queues row (xs ++ ys))
      removes xs ys parts set_is ends_is =
          let within : row < length old.queues = is_row old.queues row number (member_of old.queues row number xs ys parts) in
          let set_is' : set ≡ joined links (slice_get links number) = set_is ∙ ap (λ l. joined l (slice_get l number)) lends in
          let ends_is' : between' ≡ ends_joined between (slice_get links number) = ends_is
          ∙ ap (λ (l : List Link). ends_joined between (slice_get l number)) lends in
          let long : length set ≡ length links = ap length set_is' ∙ length-joined links (slice_get links number) in
          let all : take len (set ++ drop (length set) links) ≡ joined links (slice_get links number) =
          written set links len ok long ∙ set_is' in
          let new : List (List ℕ) = slice_set old.queues row (xs ++ ys) in
          let done : AreQueues (joined links (slice_get links number))
          (slice_set ends row (ends_joined between (slice_get links number))) new =
          queues_joined links ends old.queues row between number (found row between within is_between) queues_are xs ys parts in
          let P : List Link → Type 0 = λ l. AreQueues l (slice_set ends row between') new in
          let Q : Ends → Type 0 = λ b. AreQueues (joined links (slice_get links number)) (slice_set ends row b) new in
          subst P (sym all) (subst Q (sym ends_is') done)

-- with no links each queue is empty
pub all_empty : (ends : List Ends) (row : ℕ) → row_of (map (queue_from []) ends) row ≡ []
all_empty [] row = refl
all_empty (e ∷ ends) zero = refl
all_empty (e ∷ ends) (suc row) = all_empty ends row

none_linked : (count : ℕ) → AreLinked [] (replicate count (ends_of None None))
none_linked count =
    let empty : Ends = ends_of None None in
    let lists : List (List ℕ) = map (queue_from []) (replicate count empty) in
    let isnt : (row number : ℕ) → has (row_of lists row) number ≡ true → ⊥ =
    λ row number is. true≢false (sym is ∙ ap (λ l. has l number) (all_empty (replicate count empty) row)) in
    record {
      rows = length-map (replicate count empty) (queue_from []);
      each = λ row e found.
          let within : row < count = let P : ℕ → Type 0 = λ n. row < n in
          subst P (length-replicate count empty) (slice_get_within (replicate count empty) row e found) in
          let e_is : empty ≡ e = sym (get_or-replicate count row empty empty within)
          ∙ get_or_from_slice_get (replicate count empty) row e empty found in
          let nothing : IsQueue [] empty [] = record { first = refl; last = refl; chain = tt; apart = tt } in
          let P : Ends → Type 0 = λ b. IsQueue [] b [] in
          subst (IsQueue [] e) (sym (all_empty (replicate count empty) row)) (subst P e_is nothing);
      once = λ one other number is. absurd (isnt one number is);
      within = λ number link found. absurd (none-some link found);
    }

pub new_linked : (links : List Link) (ends : List Ends) (count : ℕ) → links ≡ []
    → ends ≡ replicate count (ends_of None None) → AreLinked links ends
new_linked links ends count none empty =
    let P : List Link → Type 0 = λ l. AreLinked l ends in
    subst P (sym none) (subst (AreLinked []) (sym empty) (none_linked count))

get_before : (links : List Link) (more : Link) (k : ℕ) → k < length links → slice_get (links ++ more ∷ []) k ≡ slice_get links k
get_before [] more k within = absurd (omega arith)
get_before (l ∷ links) more zero within = refl
get_before (l ∷ links) more (suc k) within = get_before links more k (omega arith)

get_cases : (links : List Link) (more link : Link) (k : ℕ) → slice_get (links ++ more ∷ []) k ≡ Some link
    → (slice_get links k ≡ Some link) ⊎ (more ≡ link)
get_cases [] more link zero found = inr (same_Some more link found)
get_cases [] more link (suc k) found = absurd (none-some link found)
get_cases (l ∷ links) more link zero found = inl found
get_cases (l ∷ links) more link (suc k) found = get_cases links more link k found

-- one link more changes no queue
queues_added : (links : List Link) (ends : List Ends) (lists : List (List ℕ)) → AreQueues links ends lists
    → AreQueues (links ++ link_of None None ∷ []) ends lists
queues_added links ends lists are =
    let more : Link = link_of None None in
    record {
      rows = are.rows;
      each = λ row e found.
          let queue = are.each row e found in
          queue_kept links (links ++ more ∷ []) e (row_of lists row)
          (λ k is. get_before links more k (chain_within links None (row_of lists row) None queue.chain k is)) queue;
      once = are.once;
      within = λ number link found. elim (get_cases links more link number found) [
        | inl old ↦
            let longer : (next : ℕ) → next < length links → next < length (links ++ more ∷ []) =
            λ next h. omega (arith, length-append links (more ∷ [])) in
            IfSome_then link.next (are.within number link old) longer
        | inr new ↦ let P : Link → Type 0 = λ l. IfSome l.next (λ next. next < length (links ++ more ∷ [])) in subst P new tt
      ];
    }

module _ (links set : List Link) (ends : List Ends) (old : QueuesShown) (is : shown_by links ends ≡ old) (are : AreLinked links ends)
    (set_is : set ≡ links ++ link_of None None ∷ []) where
  pub adds : AreQueues set ends old.queues
  adds =
      let P : List Link → Type 0 = λ l. AreQueues l ends old.queues in
      subst P (sym set_is) (queues_added links ends old.queues (queues_are links ends old is are))

pub head_is : (ys : List ℕ) → head_or ys None ≡ slice_get ys 0
head_is [] = refl
head_is (y ∷ ys) = refl
