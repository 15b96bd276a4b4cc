-- All queues, as one of them changes.
use Rattle.std.proofs.Common.{◌≡◌, ◌≢◌, ℕ, zero, suc, ◌<◌, true, false, List, [], ◌∷◌, ◌++◌, length, map, unwrap_or, slice_get}
use Rattle.std.proofs.Common.{slice_set, Option, Some, None, IfSome, refl, sym, ap, subst, ◌∙◌, ◌⊎◌, inl, inr, arith}
use Rattle.std.proofs.lemmas.Option.{same_Some, slice_get_within}
use Rattle.std.proofs.lemmas.Bool.{true≢false, or_from, or_left, or_right, cases_eq}
use Rattle.std.proofs.lemmas.List.{length-set}
use Rattle.cml_room.specs.Queues.{has}
use Rattle.cml_room.specs.Links.{next_in, previous_in, head_or, last_or, link_of, IsQueue, row_of, AreQueues, AreLinked}
use Rattle.cml_room.specs.declared.queues.links.Link.{Link}
use Rattle.cml_room.specs.declared.queues.links.Ends.{Ends}
use Rattle.cml_room.specs.Links.{queue_from, appended, ends_appended, joined, ends_joined}
use Rattle.cml_room.proofs.ChainsLemmas.{set_same, set_other, differs, has_head, has_tail, last_has, head_has, has_append}
use Rattle.cml_room.proofs.ChainsLemmas.{queue_is, queue_kept, chain_within}
use Rattle.cml_room.proofs.ChangesLemmas.{LeadWithin, not_true, if_some, only, length-appended, length-joined, appended_other}
use Rattle.cml_room.proofs.ChangesLemmas.{joined_other, appended_within, joined_within, queue_appended, queue_joined, link_is, still}

rows_are : (f : Ends → List ℕ) (ends : List Ends) (lists : List (List ℕ)) → length lists ≡ length ends
    → ((row : ℕ) (between : Ends) → slice_get ends row ≡ Some between → f between ≡ row_of lists row) → map f ends ≡ lists
rows_are f [] [] rows each = refl
rows_are f [] (l ∷ lists) rows each = absurd (omega arith)
rows_are f (e ∷ ends) [] rows each = absurd (omega arith)
rows_are f (e ∷ ends) (l ∷ lists) rows each =
    ap (λ k. k ∷ map f ends) (each zero e refl) ∙ ap (λ k. l ∷ k) (rows_are f ends lists (omega arith) (λ row. each (suc row)))

-- what walks along the links pass are these lists
pub shown_is : (links : List Link) (ends : List Ends) (lists : List (List ℕ)) → AreQueues links ends lists
    → map (queue_from links) ends ≡ lists
shown_is links ends lists are =
    rows_are (queue_from links) ends lists are.rows
    (λ row between found. queue_is links between (row_of lists row) (are.each row between found))

pub linked : (links : List Link) (ends : List Ends) (lists : List (List ℕ)) → AreQueues links ends lists → AreLinked links ends
linked links ends lists are = subst (AreQueues links ends) (sym (shown_is links ends lists are)) are

pub row_same : (lists : List (List ℕ)) (row : ℕ) (ks : List ℕ) → row < length lists → row_of (slice_set lists row ks) row ≡ ks
row_same lists row ks within = ap (λ (o : Option (List ℕ)). unwrap_or o []) (set_same lists row ks within)

pub row_other : (lists : List (List ℕ)) (row other : ℕ) (ks : List ℕ) → other ≢ row
    → row_of (slice_set lists row ks) other ≡ row_of lists other
row_other lists row other ks apart = ap (λ (o : Option (List ℕ)). unwrap_or o []) (set_other lists row other ks apart)

module _ (links links' : List Link) (ends : List Ends) (lists : List (List ℕ)) (row : ℕ) (between : Ends) (ks : List ℕ) where
  member : row < length lists → (one k : ℕ) → has (row_of (slice_set lists row ks) one) k ≡ true
      → ((one ≡ row) × (has ks k ≡ true)) ⊎ ((one ≢ row) × (has (row_of lists one) k ≡ true))
  member within one k is =
      elim (cases_eq one row) [
        | inl same ↦ inl (same, sym (ap (λ l. has l k) (ap (row_of (slice_set lists row ks)) same ∙ row_same lists row ks within)) ∙ is)
        | inr other ↦ inr (other, sym (ap (λ l. has l k) (row_other lists row one ks other)) ∙ is)
      ]

  pub queues_set : row < length ends → AreQueues links ends lists → IsQueue links' between ks → length links' ≡ length links
      → ((other k : ℕ) → other ≢ row → has (row_of lists other) k ≡ true → slice_get links' k ≡ slice_get links k)
      → ((other k : ℕ) → other ≢ row → has (row_of lists other) k ≡ true → has ks k ≡ false)
      → LeadWithin (length links) links'
      → AreQueues links' (slice_set ends row between) (slice_set lists row ks)
  queues_set within are queue long kept apart leads =
      let in_lists : row < length lists = let P : ℕ → Type 0 = λ n. row < n in subst P (sym are.rows) within in
      record {
        rows = length-set lists row ks ∙ are.rows ∙ sym (length-set ends row between);
        each = λ other e found. elim (cases_eq other row) [
          | inl same ↦
              let e_is : between ≡ e = same_Some between e
              (sym (set_same ends row between within) ∙ ap (slice_get (slice_set ends row between)) (sym same) ∙ found) in
              let row_is : ks ≡ row_of (slice_set lists row ks) other =
              sym (ap (row_of (slice_set lists row ks)) same ∙ row_same lists row ks in_lists) in
              let P : Ends → Type 0 = λ b. IsQueue links' b ks in
              subst (IsQueue links' e) row_is (subst P e_is queue)
          | inr other_row ↦
              subst (IsQueue links' e) (sym (row_other lists row other ks other_row))
              (queue_kept links links' e (row_of lists other) (λ k is. kept other k other_row is)
              (are.each other e (sym (set_other ends row other between other_row) ∙ found)))
        ];
        once = λ one other k is_one is_other. elim (member in_lists one k is_one) [
          | inl here ↦ elim (member in_lists other k is_other) [
            | inl here' ↦ here.0 ∙ sym here'.0
            | inr there ↦ absurd (true≢false (sym here.1 ∙ apart other k there.0 there.1))
          ]
          | inr there ↦ elim (member in_lists other k is_other) [
            | inl here ↦ absurd (true≢false (sym here.1 ∙ apart one k there.0 there.1))
            | inr there' ↦ are.once one other k there.1 there'.1
          ]
        ];
        within = λ k link found. let P : ℕ → Type 0 = λ n. IfSome link.next (λ next. next < n) in subst P (sym long) (leads k link found);
      }

module _ (links : List Link) (ends : List Ends) (lists : List (List ℕ)) (row : ℕ) (between : Ends) (number : ℕ)
    (found : slice_get ends row ≡ Some between) (are : AreQueues links ends lists) where
  pub last_within : IfSome between.last (λ last. last < length links)
  last_within =
      let queue = are.each row between found in
      if_some between.last (λ last. last < length links)
      (λ k is. chain_within links None (row_of lists row) None queue.chain k (last_has (row_of lists row) k (sym queue.last ∙ is)))

  pub queues_appended : number < length links → ((row : ℕ) → has (row_of lists row) number ≡ false)
      → AreQueues (appended links between number) (slice_set ends row (ends_appended between number))
      (slice_set lists row (row_of lists row ++ number ∷ []))
  queues_appended within nowhere =
      let queue = are.each row between found in
      let isnt : (other k : ℕ) → other ≢ row → has (row_of lists other) k ≡ true → has (row_of lists row) k ≡ false = λ other k apart is.
      not_true (has (row_of lists row) k) (λ here. apart (are.once other row k is here)) in
      let differ : (other k : ℕ) → has (row_of lists other) k ≡ true → k ≢ number =
      λ other k is. differs (row_of lists other) k number is (nowhere other) in
      queues_set links (appended links between number) ends lists row (ends_appended between number) (row_of lists row ++ number ∷ [])
      (slice_get_within ends row between found) are
      (queue_appended links between (row_of lists row) number within (nowhere row) queue)
      (length-appended links between number)
      (λ other k apart is. appended_other links between number k (differ other k is)
      (λ same. true≢false (sym (last_has (row_of lists row) k (sym queue.last ∙ same)) ∙ isnt other k apart is)))
      (λ other k apart is. has_append (row_of lists row) (number ∷ []) k
      ∙ or_from (has (row_of lists row) k) (has (number ∷ []) k) (isnt other k apart is) (only k number (differ other k is)))
      (appended_within (length links) links between number are.within within)

  module _ (xs ys : List ℕ) (parts : row_of lists row ≡ xs ++ number ∷ ys) where
    pub queue_parts : IsQueue links between (xs ++ number ∷ ys)
    queue_parts = subst (IsQueue links between) parts (are.each row between found)

    pub member_link : slice_get links number ≡ Some (link_of (last_or None xs) (head_or ys None))
    member_link = link_is links between xs ys number queue_parts

    has_before : (k : ℕ) → has xs k ≡ true → has (row_of lists row) k ≡ true
    has_before k is = ap (λ l. has l k) parts ∙ has_append xs (number ∷ ys) k ∙ or_left (has xs k) (has (number ∷ ys) k) is

    has_behind : (k : ℕ) → has ys k ≡ true → has (row_of lists row) k ≡ true
    has_behind k is = ap (λ l. has l k) parts ∙ has_append xs (number ∷ ys) k
        ∙ or_right (has xs k) (has (number ∷ ys) k) (has_tail number k ys is)

    pub previous_within : IfSome (previous_in (slice_get links number)) (λ previous. previous < length links)
    previous_within =
        let queue = are.each row between found in
        if_some (previous_in (slice_get links number)) (λ previous. previous < length links)
        (λ k is. chain_within links None (row_of lists row) None queue.chain k
        (has_before k (last_has xs k (sym (ap previous_in member_link) ∙ is))))

    pub queues_joined : AreQueues (joined links (slice_get links number))
        (slice_set ends row (ends_joined between (slice_get links number))) (slice_set lists row (xs ++ ys))
    queues_joined =
        let queue = are.each row between found in
        let isnt : (other k : ℕ) → other ≢ row → has (row_of lists other) k ≡ true → has (row_of lists row) k ≡ false = λ other k apart is.
        not_true (has (row_of lists row) k) (λ here. apart (are.once other row k is here)) in
        let differ : (other k : ℕ) → other ≢ row → has (row_of lists other) k ≡ true → k ≢ number = λ other k apart is same.
        apart (are.once other row k is (ap (has (row_of lists row)) same ∙ ap (λ l. has l number) parts
        ∙ has_append xs (number ∷ ys) number ∙ or_right (has xs number) (has (number ∷ ys) number) (has_head number ys))) in
        queues_set links (joined links (slice_get links number)) ends lists row (ends_joined between (slice_get links number)) (xs ++ ys)
        (slice_get_within ends row between found) are
        (queue_joined links between xs ys number queue_parts)
        (length-joined links (slice_get links number))
        (λ other k apart is. joined_other links (slice_get links number) k
        (λ same. true≢false (sym (has_before k (last_has xs k (sym (ap previous_in member_link) ∙ same))) ∙ isnt other k apart is))
        (λ same. true≢false (sym (has_behind k (head_has ys k (sym (ap next_in member_link) ∙ same))) ∙ isnt other k apart is)))
        (λ other k apart is. still xs ys number k (differ other k apart is) ∙ sym (ap (λ l. has l k) parts) ∙ isnt other k apart is)
        (joined_within (length links) links number are.within)
