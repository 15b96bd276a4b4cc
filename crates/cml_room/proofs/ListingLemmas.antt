-- Who is in which queue, over what is done with a seat.
use Rattle.std.proofs.Common.{◌≡◌, ◌≢◌, ℕ, zero, suc, ◌+◌, ◌-◌, ◌<◌, ◌≤◌, ◌^◌, inl, inr, Bool, true, false, List, [], ◌∷◌, ◌++◌, length}
use Rattle.std.proofs.Common.{get_or}
use Rattle.std.proofs.Common.{slice_get, slice_set, sum_by, Option, Some, None, refl, sym, ap, subst, ◌∙◌, arith, length-append}
use Rattle.std.specs.Prelude.{◌||◌, ◌==◌}
use Rattle.std.specs.Option.{option_map}
use Rattle.std.proofs.lemmas.Option.{none-some, same_Some, slice_get_within, slice_get-get_or, slice_get_past, slice_get-map}
use Rattle.std.proofs.lemmas.Option.{get_or_from_slice_get}
use Rattle.std.proofs.lemmas.Bool.{ne_eqb, eq-eqb, true≢false, false≢true, cases_lt}
use Rattle.std.proofs.lemmas.List.{length-set, length-map, map-set, map-append, set-get_or}
use Rattle.std.proofs.lemmas.List.Sums.{sum_by-set, sum_by_push}
use Rattle.std.proofs.lemmas.List.Folds.{list_any-append}
use Rattle.cml_board.proofs.ListLemmas.{slice_get-set_same, slice_get-set_other, slice_get_pushed}
use Rattle.cml_board.proofs.LogsLemmas.{slice_get_pushed_other}
use Rattle.cml_lanes.proofs.SlotsLemmas.{this_or_other}
use Rattle.cml_room.specs.{Notice, Place, Waiter, state_by, states_in, row_of, row_in, notice_by, noted_as, noted_in, quieted}
use Rattle.cml_room.specs.{roused_notice, AreListed}
use Rattle.cml_room.specs.{free_by, parked_by, freed, IsKept, HaveLeft, is_here}
use Rattle.cml_room.specs.declared.notice.Notice.TheVariants as notice
use Rattle.cml_room.specs.declared.place.Place.TheVariants as place
use Rattle.cml_room.specs.declared.state.State.TheVariants as state
use Rattle.cml_room.specs.Queues.{QueuesShown, has, queue_of, is_in}
use Rattle.cml_room.proofs.IdlingLemmas.{free_within, parked_within, parked_at}

or_false : (b : Bool) → (b || false) ≡ b
or_false true = refl
or_false false = refl

or_true : (b : Bool) → (b || true) ≡ true
or_true true = refl
or_true false = refl

-- the item there is the one that was written
pub set_here : {X : Type 0} (xs : List X) (i : ℕ) (y z : X) → slice_get (slice_set xs i y) i ≡ Some z → y ≡ z
set_here xs i y z found =
    let within : i < length xs = omega (arith, length-set xs i y, slice_get_within (slice_set xs i y) i z found) in
    same_Some y z (sym (slice_get-set_same xs i (get_or xs i y) y (slice_get-get_or xs i y within)) ∙ found)

-- who is in a queue, once one more was added to it
pub has_pushed : (queue : List ℕ) (number k : ℕ) → has (queue ++ k ∷ []) number ≡ (has queue number || (number == k))
has_pushed queue number k =
    list_any-append (λ member. number == member) queue (k ∷ []) ∙ ap (λ b. has queue number || b) (or_false (number == k))

pub in_pushed : (queues queues' : QueuesShown) (row number k : ℕ) → queue_of queues' row ≡ queue_of queues row ++ k ∷ []
    → is_in queues' row number ≡ (is_in queues row number || (number == k))
in_pushed queues queues' row number k here = ap (λ q. has q number) here ∙ has_pushed (queue_of queues row) number k

-- a seat is other than it was, and in the same queues
pub listed_same : (queues : QueuesShown) (by : Option Place → ℕ → Bool) (places : List Place) (k : ℕ) (old new : Place)
    → slice_get places k ≡ Some old
    → AreListed queues by places → ((row : ℕ) → by (Some new) row ≡ by (Some old) row) → AreListed queues by (slice_set places k new)
listed_same queues by places k old new found listed same = λ number row. elim (this_or_other number k) [
  | inl here ↦
      listed number row
      ∙ (ap (λ (o : Option Place). by o row) (ap (slice_get places) here ∙ found)
      ∙ (sym (same row) ∙ ap (λ (o : Option Place). by o row)
      (sym (ap (slice_get (slice_set places k new)) here ∙ slice_get-set_same places k old new found))))
  | inr other ↦ listed number row ∙ ap (λ (o : Option Place). by o row) (sym (slice_get-set_other places k number new other))
]

-- a seat that was in none of the queues is put into one
pub listed_push : (queues queues' : QueuesShown) (by : Option Place → ℕ → Bool) (places : List Place) (row k : ℕ) (old new : Place)
    → slice_get places k ≡ Some old
    → AreListed queues by places → ((r : ℕ) → by (Some old) r ≡ false) → ((r : ℕ) → by (Some new) r ≡ (r == row))
    → queue_of queues' row ≡ queue_of queues row ++ k ∷ [] → ((other : ℕ) → other ≢ row → queue_of queues' other ≡ queue_of queues other)
    → AreListed queues' by (slice_set places k new)
listed_push queues queues' by places row k old new found listed none one here others = λ number r.
    elim (this_or_other number k) [
      | inl same ↦
          let now : by (slice_get (slice_set places k new) number) r ≡ (r == row) =
          ap (λ (o : Option Place). by o r) (ap (slice_get (slice_set places k new)) same ∙ slice_get-set_same places k old new found)
          ∙ one r in
          elim (this_or_other r row) [
            | inl this ↦
                (ap (λ q. is_in queues' q number) this ∙ (in_pushed queues queues' row number k here
                ∙ (ap (λ b. is_in queues row number || b) (eq-eqb number k same) ∙ or_true (is_in queues row number))))
                ∙ (sym (eq-eqb r row this) ∙ sym now)
            | inr that ↦
                (ap (λ q. has q number) (others r that)
                ∙ (listed number r ∙ (ap (λ (o : Option Place). by o r) (ap (slice_get places) same ∙ found) ∙ none r)))
                ∙ (sym (ne_eqb r row that) ∙ sym now)
          ]
      | inr other ↦
          let now : by (slice_get places number) r ≡ by (slice_get (slice_set places k new) number) r =
          ap (λ (o : Option Place). by o r) (sym (slice_get-set_other places k number new other)) in
          elim (this_or_other r row) [
            | inl this ↦
                ap (λ q. is_in queues' q number) this ∙ (in_pushed queues queues' row number k here
                ∙ (ap (λ b. is_in queues row number || b) (ne_eqb number k other) ∙ (or_false (is_in queues row number)
                ∙ (ap (λ q. is_in queues q number) (sym this) ∙ (listed number r ∙ now)))))
            | inr that ↦ ap (λ q. has q number) (others r that) ∙ (listed number r ∙ now)
          ]
    ]

-- a seat that was in one of the queues leaves it
pub listed_remove : (queues queues' : QueuesShown) (by : Option Place → ℕ → Bool) (places : List Place) (row k : ℕ) (old new : Place)
    → slice_get places k ≡ Some old
    → AreListed queues by places → ((r : ℕ) → by (Some old) r ≡ (r == row)) → ((r : ℕ) → by (Some new) r ≡ false)
    → is_in queues' row k ≡ false → ((other : ℕ) → other ≢ k → is_in queues' row other ≡ is_in queues row other)
    → ((other : ℕ) → other ≢ row → queue_of queues' other ≡ queue_of queues other) → AreListed queues' by (slice_set places k new)
listed_remove queues queues' by places row k old new found listed one none gone kept others = λ number r.
    elim (this_or_other number k) [
      | inl same ↦
          let now : by (slice_get (slice_set places k new) number) r ≡ false =
          ap (λ (o : Option Place). by o r) (ap (slice_get (slice_set places k new)) same ∙ slice_get-set_same places k old new found)
          ∙ none r in
          elim (this_or_other r row) [
            | inl this ↦ (ap (λ q. is_in queues' q number) this ∙ (ap (is_in queues' row) same ∙ gone)) ∙ sym now
            | inr that ↦
                (ap (λ q. has q number) (others r that)
                ∙ (listed number r
                ∙ (ap (λ (o : Option Place). by o r) (ap (slice_get places) same ∙ found) ∙ (one r ∙ ne_eqb r row that)))) ∙ sym now
          ]
      | inr other ↦
          let now : by (slice_get places number) r ≡ by (slice_get (slice_set places k new) number) r =
          ap (λ (o : Option Place). by o r) (sym (slice_get-set_other places k number new other)) in
          elim (this_or_other r row) [
            | inl this ↦
                ap (λ q. is_in queues' q number) this
                ∙ (kept number other ∙ (ap (λ q. is_in queues q number) (sym this) ∙ (listed number r ∙ now)))
            | inr that ↦ ap (λ q. has q number) (others r that) ∙ (listed number r ∙ now)
          ]
    ]

-- a seat more, which is in none
pub listed_added : (queues queues' : QueuesShown) (by : Option Place → ℕ → Bool) (places : List Place) (new : Place)
    → AreListed queues by places
    → ((r : ℕ) → by (Some new) r ≡ false) → ((r : ℕ) → by None r ≡ false) → queues'.queues ≡ queues.queues
    → AreListed queues' by (places ++ new ∷ [])
listed_added queues queues' by places new listed none nobody same = λ number r.
    let before : is_in queues' r number ≡ by (slice_get places number) r =
    ap (λ (l : List (List ℕ)). is_in (record { queues = l; first = 0; bound = 0 }) r number) same ∙ listed number r in
    elim (this_or_other number (length places)) [
      | inl here ↦
          before ∙ (ap (λ (o : Option Place). by o r) (slice_get_past places number (omega (arith, here)))
          ∙ (nobody r ∙ (sym (none r)
          ∙ ap (λ (o : Option Place). by o r) (sym (ap (slice_get (places ++ new ∷ [])) here ∙ slice_get_pushed places new)))))
      | inr other ↦ before ∙ ap (λ (o : Option Place). by o r) (sym (slice_get_pushed_other places new number other))
    ]

-- a member of a queue is in it
pub has_at : (queue : List ℕ) (i k : ℕ) → slice_get queue i ≡ Some k → has queue k ≡ true
has_at [] i k found = absurd (none-some k found)
has_at (x ∷ queue) zero k found = ap (λ b. b || has queue k) (eq-eqb k x (sym (same_Some x k found)))
has_at (x ∷ queue) (suc i) k found = ap (λ b. (k == x) || b) (has_at queue i k found) ∙ or_true (k == x)

-- who is in a queue is there at some place
pub at_has : (queue : List ℕ) (k : ℕ) → has queue k ≡ true → (i : ℕ) × (slice_get queue i ≡ Some k)
at_has [] k is = absurd (false≢true is)
at_has (x ∷ queue) k is = elim (this_or_other k x) [
  | inl same ↦ (0, ap Some (sym same))
  | inr other ↦
      let later = at_has queue k (sym (ap (λ b. b || has queue k) (ne_eqb k x other)) ∙ is) in
      (suc later.0, later.1)
]

-- an empty queue has no member
pub none_has : (queue : List ℕ) (k : ℕ) → slice_get queue 0 ≡ None → has queue k ≡ false
none_has [] k none = refl
none_has (x ∷ queue) k none = absurd (none-some x (sym none))

-- who is in the queue of those that weren't woken waits, and is due
pub unwoken_waits : (o : Option Place) → noted_in o 0 ≡ true
    → (waiter : Waiter) × (o ≡ Some (place.Waiting waiter)) × (waiter.notice ≡ notice.Due)
unwoken_waits None is = absurd (false≢true is)
unwoken_waits (Some place.Free) is = absurd (false≢true is)
unwoken_waits (Some place.Left) is = absurd (false≢true is)
unwoken_waits (Some (place.Waiting waiter)) is = (waiter, refl, by_notice waiter.notice is)
  where
    by_notice : (n : Notice) → noted_as n 0 ≡ true → n ≡ notice.Due
    by_notice notice.Nothing is = absurd (false≢true is)
    by_notice notice.Due is = refl
    by_notice notice.Woken is = absurd (false≢true is)

pub not_due : (queue : List ℕ) (k : ℕ) (o : Option Place) (waiter : Waiter) → has queue k ≡ noted_in o 0 → slice_get queue 0 ≡ None
    → o ≡ Some (place.Waiting waiter) → ¬ (waiter.notice ≡ notice.Due)
not_due queue k o waiter listed none is due =
    true≢false (sym (ap (λ n. noted_as n 0) due)
    ∙ (sym (ap (λ (p : Option Place). noted_in p 0) is) ∙ (sym listed ∙ none_has queue k none)))

-- a seat stays as it is, where what it becomes is what it is
pub as_it_is : (places : List Place) (k : ℕ) (p : Place) → p ≡ get_or places k place.Free → places ≡ slice_set places k p
as_it_is places k p is = sym (ap (slice_set places k) is ∙ set-get_or places k place.Free)

-- what a seat that waits is
pub waits_at : (places : List Place) (k : ℕ) (waiter : Waiter) → slice_get places k ≡ Some (place.Waiting waiter)
    → get_or places k place.Free ≡ place.Waiting waiter
waits_at places k waiter found = get_or_from_slice_get places k (place.Waiting waiter) place.Free found

-- a seat that doesn't wait stays as it is, whatever is done to those that wait
pub no_wait : (f : Place → Place) (places : List Place) (k : ℕ) → k < length places
    → ((waiter : Waiter) → slice_get places k ≢ Some (place.Waiting waiter)) → f place.Free ≡ place.Free → f place.Left ≡ place.Left
    → places ≡ slice_set places k (f (get_or places k place.Free))
no_wait f places k within none free left =
    as_it_is places k (f (get_or places k place.Free)) (by_place (get_or places k place.Free) (slice_get-get_or places k place.Free within))
  where
    by_place : (p : Place) → slice_get places k ≡ Some p → f p ≡ p
    by_place place.Free found = free
    by_place place.Left found = left
    by_place (place.Waiting waiter) found = absurd (none waiter found)

-- a seat that waits so already stays as it is
pub waits_so : (f : Place → Place) (places : List Place) (k : ℕ) (waiter : Waiter) → slice_get places k ≡ Some (place.Waiting waiter)
    → f (place.Waiting waiter) ≡ place.Waiting waiter → places ≡ slice_set places k (f (get_or places k place.Free))
waits_so f places k waiter found same =
    let is = waits_at places k waiter found in
    as_it_is places k (f (get_or places k place.Free)) (ap f is ∙ (same ∙ sym is))

not_left : (p : Place) → is_here (Some p) ≡ true → p ≢ place.Left
not_left place.Free here left = absurd (let clash : place.Free ≡ place.Left = left in cc)
not_left (place.Waiting waiter) here left = absurd (let clash : place.Waiting waiter ≡ place.Left = left in cc)
not_left place.Left here left = false≢true here

-- a seat that has not left is after those that have
pub here_from : (count k : ℕ) (places : List Place) (p : Place) → HaveLeft count places → slice_get places k ≡ Some p
    → is_here (Some p) ≡ true → count ≤ k
here_from count k places p left found here = elim (cases_lt k count) [
  | inl before ↦ absurd (not_left p here (same_Some _ _ (sym found ∙ left k before)))
  | inr from ↦ from
]

-- those have left still, where another is other than it was
left_set : (count k : ℕ) (places : List Place) (old new : Place) → HaveLeft count places → slice_get places k ≡ Some old
    → is_here (Some old) ≡ true → HaveLeft count (slice_set places k new)
left_set count k places old new left found here number before =
    slice_get-set_other places k number new
    (λ same. absurd (omega (arith, same, before, here_from count k places old left found here)))
    ∙ left number before

left_added : (count : ℕ) (places : List Place) (new : Place) → HaveLeft count places → HaveLeft count (places ++ new ∷ [])
left_added count places new left number before =
    let within : number < length places = slice_get_within places number place.Left (left number before) in
    slice_get_pushed_other places new number (λ same. absurd (omega (arith, same, within))) ∙ left number before

-- what is kept of the seats, where one is other than it was
pub kept_set : {places : List Place} {free free' parked parked' : ℕ} {rows rows' due due' : QueuesShown} {old : Place} (k : ℕ) (new : Place)
    → slice_get places k ≡ Some old
    → IsKept places free parked rows due → free' + free_by (state_by old) ≡ free + free_by (state_by new)
    → parked' + parked_by (state_by old) ≡ parked + parked_by (state_by new)
    → AreListed rows' row_in (slice_set places k new) → AreListed due' noted_in (slice_set places k new)
    → length rows'.queues ≡ length rows.queues → length due'.queues ≡ length due.queues → rows'.bound ≡ rows.bound → due'.bound ≡ due.bound
    → rows'.first ≡ rows.first → due'.first ≡ due.first → is_here (Some old) ≡ true
    → IsKept (slice_set places k new) free' parked' rows' due'
kept_set {places} {rows = r} {due = d} {old = old} k new found kept count waits in_rows in_due rows_same two_same most most_due from
    from_due here =
    let within : k < length places = slice_get_within places k old found in
    let states : states_in (slice_set places k new) ≡ slice_set (states_in places) k (state_by new) = map-set state_by places k new in
    let was : get_or (states_in places) k (state_by old) ≡ state_by old =
    get_or_from_slice_get (states_in places) k (state_by old) (state_by old)
    (slice_get-map state_by places k ∙ ap (option_map state_by) found) in
    record {
      counted = omega (
        arith,
        ap (sum_by free_by) states,
        sum_by-set free_by (states_in places) k (state_by new) (state_by old) (omega (arith, within, length-map places state_by)),
        ap free_by was,
        kept.counted,
        count,
      );
      waiting = omega (
        arith,
        ap (sum_by parked_by) states,
        sum_by-set parked_by (states_in places) k (state_by new) (state_by old) (omega (arith, within, length-map places state_by)),
        ap parked_by was,
        kept.waiting,
        waits,
      );
      in_rows = in_rows;
      in_due = in_due;
      many_rows = rows_same ∙ kept.many_rows;
      two = two_same ∙ kept.two;
      row_for_each = omega (arith, length-set places k new, most, kept.row_for_each);
      due_for_each = omega (arith, length-set places k new, most_due, kept.due_for_each);
      few = omega (arith, length-set places k new, kept.few);
      row_for_none = subst (λ n. HaveLeft n (slice_set places k new)) (sym from)
          (left_set r.first k places old new kept.row_for_none found here);
      due_for_none = subst (λ n. HaveLeft n (slice_set places k new)) (sym from_due)
          (left_set d.first k places old new kept.due_for_none found here);
    }

-- a seat more, which is free
pub kept_added : (places : List Place) (free parked : ℕ) (rows rows' due due' : QueuesShown) → IsKept places free parked rows due
    → rows'.queues ≡ rows.queues → due'.queues ≡ due.queues
    → rows'.bound ≡ rows.bound + 1 → due'.bound ≡ due.bound + 1 → rows'.first ≡ rows.first → due'.first ≡ due.first
    → length (places ++ place.Free ∷ []) < 2 ^ 63 → IsKept (places ++ place.Free ∷ []) (free + 1) parked rows' due'
kept_added places free parked rows rows' due due' kept rows_same due_same row_bound due_bound row_first due_first few = record {
  counted = omega (
    arith,
    ap (sum_by free_by) (map-append state_by places (place.Free ∷ [])),
    sum_by_push free_by (states_in places) state.Free,
    kept.counted,
  );
  waiting = omega (
    arith,
    ap (sum_by parked_by) (map-append state_by places (place.Free ∷ [])),
    sum_by_push parked_by (states_in places) state.Free,
    kept.waiting,
  );
  in_rows = listed_added rows rows' row_in places place.Free kept.in_rows (λ r. refl) (λ r. refl) rows_same;
  in_due = listed_added due due' noted_in places place.Free kept.in_due (λ r. refl) (λ r. refl) due_same;
  many_rows = ap length rows_same ∙ kept.many_rows;
  two = ap length due_same ∙ kept.two;
  row_for_each = omega (arith, length-append places (place.Free ∷ []), row_bound, kept.row_for_each);
  due_for_each = omega (arith, length-append places (place.Free ∷ []), due_bound, kept.due_for_each);
  few = few;
  row_for_none = subst (λ n. HaveLeft n (places ++ place.Free ∷ [])) (sym row_first)
      (left_added rows.first places place.Free kept.row_for_none);
  due_for_none = subst (λ n. HaveLeft n (places ++ place.Free ∷ [])) (sym due_first)
      (left_added due.first places place.Free kept.due_for_none);
}

-- no more seats are free than were made
pub kept_within : {places : List Place} {free parked : ℕ} {rows due : QueuesShown}
    → IsKept places free parked rows due → free ≤ length places
kept_within {places} kept = omega (arith, kept.counted, free_within (states_in places), length-map places state_by)

-- no more wait than were made
pub waiting_within : {places : List Place} {free parked : ℕ} {rows due : QueuesShown}
    → IsKept places free parked rows due → parked ≤ length places
waiting_within {places} kept = omega (arith, kept.waiting, parked_within (states_in places), length-map places state_by)

-- where one seat is free, one is counted
pub one_free : {places : List Place} {free parked : ℕ} {rows due : QueuesShown} (k : ℕ) → IsKept places free parked rows due
    → slice_get places k ≡ Some place.Free → 1 ≤ free
one_free {places} k kept found =
    let within : k < length (states_in places) = omega (arith, slice_get_within places k place.Free found, length-map places state_by) in
    let was : get_or (states_in places) k state.Free ≡ state.Free =
    get_or_from_slice_get (states_in places) k state.Free state.Free (slice_get-map state_by places k ∙ ap (option_map state_by) found) in
    omega (arith, kept.counted, sum_by-set free_by (states_in places) k state.Left state.Free within, ap free_by was)

-- where one seat waits, one is counted
pub one_waits : {places : List Place} {free parked : ℕ} {rows due : QueuesShown} (k : ℕ) (waiter : Waiter)
    → IsKept places free parked rows due
    → slice_get places k ≡ Some (place.Waiting waiter) → 1 ≤ parked
one_waits {places} k waiter kept found = omega (arith, kept.waiting, parked_at places k waiter found)

-- a seat that was free leaves or waits, and isn't due
pub kept_taken : {places : List Place} {free parked parked' : ℕ} {rows rows' due : QueuesShown} (k : ℕ) (new : Place)
    → slice_get places k ≡ Some place.Free → IsKept places free parked rows due
    → free_by (state_by new) ≡ 0 → parked' ≡ parked + parked_by (state_by new)
    → AreListed rows' row_in (slice_set places k new) → ((r : ℕ) → noted_in (Some new) r ≡ false)
    → length rows'.queues ≡ length rows.queues → rows'.bound ≡ rows.bound → rows'.first ≡ rows.first
    → IsKept (slice_set places k new) (free - 1) parked' rows' due
kept_taken {places} {due = due} k new found kept taken waits in_rows quiet rows_same row_bound row_first =
    kept_set k new found kept (omega (arith, one_free k kept found, taken)) (omega (arith, waits)) in_rows
    (listed_same due noted_in places k place.Free new found kept.in_due quiet) rows_same refl row_bound refl row_first refl refl

-- a seat that waits has another notice
pub kept_noticed : {places : List Place} {free parked : ℕ} {rows due due' : QueuesShown} (k : ℕ) (waiter : Waiter) (seen : Notice)
    → slice_get places k ≡ Some (place.Waiting waiter) → IsKept places free parked rows due
    → AreListed due' noted_in (slice_set places k (place.Waiting (record waiter { notice = seen })))
    → length due'.queues ≡ length due.queues → due'.bound ≡ due.bound → due'.first ≡ due.first
    → IsKept (slice_set places k (place.Waiting (record waiter { notice = seen }))) free parked rows due'
kept_noticed {places} {rows = rows} k waiter seen found kept in_due two_same due_bound due_first =
    kept_set k (place.Waiting (record waiter { notice = seen })) found kept refl refl
    (listed_same rows row_in places k (place.Waiting waiter) _ found kept.in_rows (λ r. refl)) in_due refl two_same refl due_bound refl
    due_first refl

-- a queue is what is before a member, the member, and what is after it
split_at : (queue : List ℕ) (i k : ℕ) → slice_get queue i ≡ Some k
    → (xs : List ℕ) × (ys : List ℕ) × (queue ≡ xs ++ k ∷ ys) × (slice_get ys 0 ≡ slice_get queue (i + 1))
split_at [] i k found = absurd (none-some k found)
split_at (x ∷ queue) zero k found = ([], queue, ap (λ y. y ∷ queue) (same_Some x k found), refl)
split_at (x ∷ queue) (suc i) k found =
    let later = split_at queue i k found in
    let next : suc (i + 1) ≡ suc i + 1 = omega arith in
    (x ∷ later.0, later.1, ap (λ l. x ∷ l) later.2, later.3 ∙ ap (slice_get (x ∷ queue)) next)

-- what comes after a member is the next
pub behind : (queue : List ℕ) (i k : ℕ) (next : Option ℕ) → slice_get queue i ≡ Some k
    → ((xs ys : List ℕ) → queue ≡ xs ++ k ∷ ys → next ≡ slice_get ys 0) → next ≡ slice_get queue (i + 1)
behind queue i k next found after =
    let split = split_at queue i k found in
    after split.0 split.1 split.2 ∙ split.3

pub roused_so : (n : Notice) → n ≢ notice.Nothing → roused_notice n ≡ n
roused_so notice.Nothing some = absurd (some refl)
roused_so notice.Due some = refl
roused_so notice.Woken some = refl

pub quieted_nothing : (p : Place) (waiter : Waiter) → quieted p ≡ place.Waiting waiter → waiter.notice ≡ notice.Nothing
quieted_nothing (place.Waiting other) waiter is = ap notice_by (sym is)
quieted_nothing place.Free waiter is = absurd (let clash : place.Free ≡ place.Waiting waiter = is in cc)
quieted_nothing place.Left waiter is = absurd (let clash : place.Left ≡ place.Waiting waiter = is in cc)

pub freed_waiter : (p : Place) (waiter : Waiter) → quieted p ≡ place.Waiting waiter → freed p ≡ place.Free
freed_waiter (place.Waiting other) waiter is = refl
freed_waiter place.Free waiter is = refl
freed_waiter place.Left waiter is = absurd (let clash : place.Left ≡ place.Waiting waiter = is in cc)

-- a seat that does not wait is as free as it was
pub freed_none : (p : Place) → ((waiter : Waiter) → quieted p ≢ place.Waiting waiter) → quieted p ≡ freed p
freed_none place.Free none = refl
freed_none place.Left none = refl
freed_none (place.Waiting waiter) none = absurd (none (record waiter { notice = notice.Nothing }) refl)

-- who waits is in the row of its object
pub in_row : (rows : QueuesShown) (places : List Place) (k : ℕ) (waiter : Waiter) (row : ℕ) → AreListed rows row_in places
    → slice_get places k ≡ Some (place.Waiting waiter) → row_of waiter.source ≡ row → is_in rows row k ≡ true
in_row rows places k waiter row listed found same =
    listed k row ∙ (ap (λ (o : Option Place). row_in o row) found ∙ eq-eqb row (row_of waiter.source) (sym same))

-- there are 64 rows
pub row_within : (source : ℕ) → row_of source < 64
row_within source = omega arith

-- the row with the number of a row
pub row_itself : (source row : ℕ) → row_of source ≡ row → row_of source ≡ row_of row
row_itself source row is = omega (arith, is)
