-- What stays of seats of which some become due.
use Rattle.std.proofs.Common.{◌≡◌, ℕ, ◌+◌, ◌<◌, ◌⊎◌, inl, inr, Bool, true, false, List, length, get_or, slice_get, slice_set}
use Rattle.std.proofs.Common.{Option, Some, refl, sym, ap, subst, ◌∙◌, arith}
use Rattle.std.proofs.lemmas.Option.{same_Some, slice_get_within, slice_get-get_or, get_or_from_slice_get}
use Rattle.std.proofs.lemmas.Bool.{true≢false, false≢true, eqb-true}
use Rattle.std.proofs.lemmas.List.{length-set, length-map, ext_get_or}
use Rattle.std.proofs.Math.ListN.{get_or-map}
use Rattle.cml_board.specs.{Want, Entry, Fits, wanting}
use Rattle.cml_board.proofs.ListLemmas.{slice_get-set_same, slice_get-set_other}
use Rattle.cml_lanes.proofs.SlotsLemmas.{this_or_other}
use Rattle.cml_room.specs.{Notice, Place, Waiter, state_by, states_in, row_of, row_in, is_noted, AreListed, roused, roused_notice}
use Rattle.cml_room.specs.{AreRoused, IsMate, IsQuiet, object_of, source_of, reaches, AreAt, SeatsShown}
use Rattle.cml_room.specs.declared.notice.Notice.TheVariants.{Nothing, Due, Woken}
use Rattle.cml_room.specs.declared.place.Place.TheVariants.{Free, Waiting, Left}
use Rattle.cml_room.specs.declared.state.State.TheVariants as state
use Rattle.cml_room.proofs.ListingLemmas.{set_here, in_row}
use Rattle.cml_room.proofs.WalkingLemmas.{Walked, walk_begins, walk_at, walk_goes, walk_kept}
use Rattle.cml_room.specs.Queues.{QueuesShown, queue_of, is_in}
use Rattle.std.specs.Prelude.{◌==◌, ◌&&◌, ◌||◌}

-- a seat that was roused does what it did
pub roused_state : (place : Place) → state_by (roused place) ≡ state_by place
roused_state Free = refl
roused_state (Waiting waiter) = refl
roused_state Left = refl

pub roused_noted : (notice : Notice) → is_noted (roused_notice notice) ≡ true
roused_noted Nothing = refl
roused_noted Due = refl
roused_noted Woken = refl

kept_noted : (notice : Notice) → is_noted notice ≡ true → roused_notice notice ≡ notice
kept_noted Nothing is = absurd (false≢true is)
kept_noted Due is = refl
kept_noted Woken is = refl

pub not_noted : (notice : Notice) → notice ≡ Nothing → is_noted notice ≡ true → ⊥
not_noted notice nothing is = true≢false (sym is ∙ ap is_noted nothing)

pub noted_or : (notice : Notice) → (notice ≡ Nothing) ⊎ (is_noted notice ≡ true)
noted_or Nothing = inl refl
noted_or Due = inr refl
noted_or Woken = inr refl

same_waiter : (one other : Waiter) → Waiting one ≡ Waiting other → one ≡ other
same_waiter one other same = cc

pub none_roused : (So : Waiter → Type 0) (places : List Place) → AreRoused So places places
none_roused So places = record { each = refl; now = λ k old new was is. inl (same_Some new old (sym is ∙ was)) }

-- some were roused, by whatever is known of them
pub roused_so : (So To : Waiter → Type 0) (olds news : List Place) → ((waiter : Waiter) → So waiter → To waiter)
    → AreRoused So olds news → AreRoused To olds news
roused_so So To olds news so are = record {
  each = are.each;
  now = λ k old new was is. elim (are.now k old new was is) [
    | inl same ↦ inl same
    | inr one ↦ inr (one.0, one.1, so one.0 one.2, one.3)
  ];
}

-- one was
pub one_roused : (So : Waiter → Type 0) (places : List Place) (number : ℕ) (waiter : Waiter)
    → slice_get places number ≡ Some (Waiting waiter) → So waiter
    → AreRoused So places (slice_set places number (roused (get_or places number Free)))
one_roused So places number waiter found so = record {
  each = length-set places number (roused (get_or places number Free));
  now = λ k old new was is. elim (this_or_other k number) [
    | inl here ↦
        let is_waiter : old ≡ Waiting waiter = same_Some old (Waiting waiter) (sym was ∙ ap (slice_get places) here ∙ found) in
        let read : get_or places number Free ≡ old =
        same_Some _ old (sym (slice_get-get_or places number Free (slice_get_within places number (Waiting waiter) found))
        ∙ ap (slice_get places) (sym here) ∙ was) in
        inr (
          waiter,
          is_waiter,
          so,
          sym (set_here places number (roused (get_or places number Free)) new
              (ap (slice_get (slice_set places number (roused (get_or places number Free)))) (sym here) ∙ is)) ∙ ap roused read,
        )
    | inr other ↦ inl (same_Some new old (sym is ∙ slice_get-set_other places number k (roused (get_or places number Free)) other ∙ was))
  ];
}

-- what a seat was, of which this is known now
pub roused_from : (So : Waiter → Type 0) (olds news : List Place) (number : ℕ) (new : Place) → AreRoused So olds news
    → slice_get news number ≡ Some new
    → (old : Place) × (slice_get olds number ≡ Some old)
    × ((new ≡ old) ⊎ ((waiter : Waiter) × (old ≡ Waiting waiter) × So waiter × (new ≡ roused old)))
roused_from So olds news number new are is =
    let within : number < length olds = omega (arith, slice_get_within news number new is, are.each) in
    let was = slice_get-get_or olds number Free within in
    (get_or olds number Free, was, are.now number (get_or olds number Free) new was is)

pub roused_to : (So : Waiter → Type 0) (olds news : List Place) (number : ℕ) (old : Place) → AreRoused So olds news
    → slice_get olds number ≡ Some old
    → (new : Place) × (slice_get news number ≡ Some new)
    × ((new ≡ old) ⊎ ((waiter : Waiter) × (old ≡ Waiting waiter) × So waiter × (new ≡ roused old)))
roused_to So olds news number old are was =
    let within : number < length news = omega (arith, slice_get_within olds number old was, are.each) in
    let is = slice_get-get_or news number Free within in
    (get_or news number Free, is, are.now number old (get_or news number Free) was is)

-- a seat that waits now waited for the same before, and was due only if it is due now
pub waited : (So : Waiter → Type 0) (olds news : List Place) (number : ℕ) (waiter : Waiter) → AreRoused So olds news
    → slice_get news number ≡ Some (Waiting waiter)
    → (old : Waiter) × (slice_get olds number ≡ Some (Waiting old)) × (old.want ≡ waiter.want) × (old.source ≡ waiter.source)
    × ((waiter.notice ≡ Nothing) → old.notice ≡ Nothing)
waited So olds news number waiter are is =
    let from = roused_from So olds news number (Waiting waiter) are is in
    elim from.2 [
      | inl same ↦ (waiter, from.1 ∙ ap Some (sym same), refl, refl, λ nothing. nothing)
      | inr one ↦
          let made : waiter ≡ record one.0 { notice = roused_notice one.0.notice } = same_waiter waiter _ (one.3 ∙ ap roused one.1) in (
            one.0,
            from.1 ∙ ap Some one.1,
            ap (λ (w : Waiter). w.want) (sym made),
            ap (λ (w : Waiter). w.source) (sym made),
            λ nothing. absurd (not_noted (roused_notice one.0.notice)
                (ap (λ (w : Waiter). w.notice) (sym made) ∙ nothing) (roused_noted one.0.notice)),
          )
    ]

-- a seat that waited waits for the same, and is due if it was
pub waits_on : (So : Waiter → Type 0) (olds news : List Place) (number : ℕ) (old : Waiter) → AreRoused So olds news
    → slice_get olds number ≡ Some (Waiting old)
    → (waiter : Waiter) × (slice_get news number ≡ Some (Waiting waiter)) × (waiter.want ≡ old.want)
    × (is_noted old.notice ≡ true → is_noted waiter.notice ≡ true)
waits_on So olds news number old are was =
    let to = roused_to So olds news number (Waiting old) are was in
    elim to.2 [
      | inl same ↦ (old, to.1 ∙ ap Some same, refl, λ due. due)
      | inr one ↦ (record old { notice = roused_notice old.notice }, to.1 ∙ ap Some one.3, refl, λ due. roused_noted old.notice)
    ]

pub woken_on : (So : Waiter → Type 0) (olds news : List Place) (number : ℕ) (old : Waiter) → AreRoused So olds news
    → slice_get olds number ≡ Some (Waiting old)
    → old.notice ≡ Woken → (waiter : Waiter) × (slice_get news number ≡ Some (Waiting waiter)) × (waiter.notice ≡ Woken)
woken_on So olds news number old are was woken =
    let to = roused_to So olds news number (Waiting old) are was in
    elim to.2 [
      | inl same ↦ (old, to.1 ∙ ap Some same, woken)
      | inr one ↦ (record old { notice = roused_notice old.notice }, to.1 ∙ ap Some one.3, ap roused_notice woken)
    ]

pub quiet_before : (So : Waiter → Type 0) (olds news : List Place) (number : ℕ) (waiter : Waiter)
    → AreRoused So olds news → IsQuiet news number waiter
    → IsQuiet olds number waiter
quiet_before So olds news number waiter are quiet =
    let from = roused_from So olds news number (Waiting waiter) are quiet.here in
    elim from.2 [
      | inl same ↦ record { here = from.1 ∙ ap Some (sym same); nothing = quiet.nothing }
      | inr one ↦
          let made : waiter ≡ record one.0 { notice = roused_notice one.0.notice } = same_waiter waiter _ (one.3 ∙ ap roused one.1) in
          absurd (not_noted (roused_notice one.0.notice)
          (ap (λ (w : Waiter). w.notice) (sym made) ∙ quiet.nothing) (roused_noted one.0.notice))
    ]

pub mate_on : (So : Waiter → Type 0) (olds news : List Place) (on : Want) → AreRoused So olds news → IsMate olds on → IsMate news on
mate_on So olds news on are mate =
    let to = waits_on So olds news mate.number mate.waiter are mate.here in
    record { number = mate.number; waiter = to.0; here = to.1; same = to.2 ∙ mate.same; due = to.3 mate.due }

pub free_kept : (So : Waiter → Type 0) (olds news : List Place) (number : ℕ) → AreRoused So olds news → slice_get olds number ≡ Some Free
    → slice_get news number ≡ Some Free
free_kept So olds news number are was =
    let to = roused_to So olds news number Free are was in
    elim to.2 [
      | inl same ↦ to.1 ∙ ap Some same
      | inr one ↦ absurd (let clash : Free ≡ Waiting one.0 = one.1 in cc)
    ]

pub roused_states : (So : Waiter → Type 0) (olds news : List Place) → AreRoused So olds news → states_in news ≡ states_in olds
roused_states So olds news are =
    ext_get_or state.Free (states_in news) (states_in olds)
    (omega (arith, length-map news state_by, length-map olds state_by, are.each)) (λ k less.
    let in_news : k < length news = omega (arith, less, length-map news state_by) in
    let in_olds : k < length olds = omega (arith, in_news, are.each) in
    let is = slice_get-get_or news k Free in_news in
    let was = slice_get-get_or olds k Free in_olds in
    let same : state_by (get_or news k Free) ≡ state_by (get_or olds k Free) =
    elim (are.now k (get_or olds k Free) (get_or news k Free) was is) [
      | inl same ↦ ap state_by same
      | inr one ↦ ap state_by one.3 ∙ roused_state (get_or olds k Free)
    ] in
    get_or-map state_by news k Free ∙ (same ∙ sym (get_or-map state_by olds k Free)))

-- first some were roused, and then others
pub roused_twice : (So : Waiter → Type 0) (olds mids news : List Place)
    → ((one other : Waiter) → one.want ≡ other.want → one.source ≡ other.source → So one → So other)
    → AreRoused So olds mids → AreRoused So mids news → AreRoused So olds news
roused_twice So olds mids news fits first second = record {
  each = second.each ∙ first.each;
  now = λ k old new was is.
      let mid = roused_to So olds mids k old first was in
      elim (second.now k mid.0 new mid.1 is) [
        | inl same ↦ elim mid.2 [
          | inl kept ↦ inl (same ∙ kept)
          | inr one ↦ inr (one.0, one.1, one.2, same ∙ one.3)
        ]
        | inr two ↦ elim mid.2 [
          | inl kept ↦ inr (two.0, sym kept ∙ two.1, two.2, two.3 ∙ ap roused kept)
          | inr one ↦
              let again : roused (roused old) ≡ roused old =
              ap (λ p. roused (roused p)) one.1 ∙ (ap (λ n. Waiting (record one.0 { notice = n }))
              (kept_noted (roused_notice one.0.notice) (roused_noted one.0.notice)) ∙ ap roused (sym one.1)) in
              inr (one.0, one.1, one.2, two.3 ∙ (ap roused one.3 ∙ again))
        ]
      ];
}

-- a seat that was are is due
pub set_roused_mate : (olds news : List Place) (number : ℕ) (waiter : Waiter) (on : Want)
    → slice_get olds number ≡ Some (Waiting waiter) → waiter.want ≡ on
    → news ≡ slice_set olds number (roused (get_or olds number Free)) → IsMate news on
set_roused_mate olds news number waiter on found same set =
    let read : get_or olds number Free ≡ Waiting waiter = get_or_from_slice_get olds number (Waiting waiter) Free found in
    record {
      number = number;
      waiter = record waiter { notice = roused_notice waiter.notice };
      here = ap (λ l. slice_get l number) set
          ∙ (slice_get-set_same olds number (Waiting waiter) (roused (get_or olds number Free)) found ∙ ap (λ p. Some (roused p)) read);
      same = same;
      due = roused_noted waiter.notice;
    }

-- what is due stays due, over what is roused
pub still_noted : (So : Waiter → Type 0) (olds news : List Place) (number : ℕ) (waiter : Waiter) → AreRoused So olds news
    → slice_get news number ≡ Some (Waiting waiter)
    → ((old : Waiter) → slice_get olds number ≡ Some (Waiting old) → old.want ≡ waiter.want
    → old.source ≡ waiter.source → is_noted old.notice ≡ true)
    → is_noted waiter.notice ≡ true
still_noted So olds news number waiter are found noted =
    let old = waited So olds news number waiter are found in
    elim (noted_or waiter.notice) [
      | inl nothing ↦ absurd (not_noted old.0.notice (old.4 nothing) (noted old.0 old.1 old.2 old.3))
      | inr due ↦ due
    ]

-- a seat's want and its source give where it waits
pub reaches_same : (object source : ℕ) (one other : Waiter) → one.want ≡ other.want → one.source ≡ other.source
    → reaches object source one ≡ true → reaches object source other ≡ true
reaches_same object source one other want same is =
    ap (λ s. (s == source) && ((object == source) || (object == object_of other.want))) (sym same)
    ∙ (ap (λ (w : Want). (one.source == source) && ((object == source) || (object == object_of w))) (sym want) ∙ is)

reached_source : (object source : ℕ) (waiter : Waiter) → reaches object source waiter ≡ true → waiter.source ≡ source
reached_source object source waiter is = eqb-true waiter.source source (and_left (waiter.source == source) _ is)
  where
    and_left : (a b : Bool) → (a && b) ≡ true → a ≡ true
    and_left true b e = refl
    and_left false b e = e

-- a seat that waits for something of that kind is due
abbrev pub IsSeen : (Waiter → Type 0) → List Place → ℕ → Type 0
IsSeen So places k = (waiter : Waiter) → slice_get places k ≡ Some (Waiting waiter) → So waiter → is_noted waiter.notice ≡ true

-- this many seats of a row were looked at, and those of them that wait for something of that kind are due
pub record RowRoused (So : Waiter → Type 0) (row : ℕ) (olds news : SeatsShown) (next : Option ℕ) (count : ℕ) : Type 0 where
  pub roused : AreRoused So olds.places news.places
  pub rows : news.rows ≡ olds.rows
  pub due : news.all_due ≡ olds.all_due
  pub walked : Walked (queue_of olds.rows row) next count (IsSeen So news.places)

pub row_begins : {So : Waiter → Type 0} {row : ℕ} {seats : SeatsShown} {next : Option ℕ} → next ≡ slice_get (queue_of seats.rows row) 0
    → RowRoused So row seats seats next 0
row_begins {So} {row} {seats} {next} first = record {
  roused = none_roused So seats.places;
  rows = refl;
  due = refl;
  walked = walk_begins first;
}

-- one more was looked at
pub row_goes : {So : Waiter → Type 0} {row : ℕ} {olds mids news : SeatsShown} {next then : Option ℕ} {count : ℕ} (number : ℕ)
    → ((one other : Waiter) → one.want ≡ other.want → one.source ≡ other.source → So one → So other)
    → RowRoused So row olds mids next count → next ≡ Some number
    → AreRoused So mids.places news.places → news.rows ≡ mids.rows → news.all_due ≡ mids.all_due → IsSeen So news.places number
    → ((r i : ℕ) → slice_get (queue_of news.rows r) i ≡ Some number → then ≡ slice_get (queue_of news.rows r) (i + 1))
    → RowRoused So row olds news then (count + 1)
row_goes {So} {row} {olds} {mids} {news} {next} {then} {count} number fits was is roused rows due this after =
    let queue = queue_of olds.rows row in
    let all : news.rows ≡ olds.rows = rows ∙ was.rows in
    let kept = walk_kept was.walked {Seen' = IsSeen So news.places} (λ k seen waiter found so.
    still_noted So mids.places news.places k waiter roused found
    (λ old at want source. seen old at (fits waiter old (sym want) (sym source) so))) in
    let behind : slice_get queue count ≡ Some number → then ≡ slice_get queue (count + 1) =
    subst (λ (q : QueuesShown). slice_get (queue_of q row) count ≡ Some number → then ≡ slice_get (queue_of q row) (count + 1)) all
    (after row count) in
    record {
      roused = roused_twice So olds.places mids.places news.places fits was.roused roused;
      rows = all;
      due = due ∙ was.due;
      walked = walk_goes kept is this (behind (walk_at was.walked is));
    }

-- who isn't due is none of them, where all in the row were looked at
pub not_so : {So : Waiter → Type 0} {row : ℕ} {olds news : SeatsShown} {next : Option ℕ} {count : ℕ}
    → RowRoused So row olds news next count
    → AreListed olds.rows row_in olds.places → ((k : ℕ) → is_in olds.rows row k ≡ true → IsSeen So news.places k)
    → (number : ℕ) (waiter : Waiter) → IsQuiet news.places number waiter → row_of waiter.source ≡ row → ¬ (So waiter)
not_so {So} {row} {olds} {news} was listed seen number waiter quiet here so =
    let old = waited So olds.places news.places number waiter was.roused quiet.here in
    let in_it = in_row olds.rows olds.places number old.0 row listed old.1 (ap row_of old.3 ∙ here) in
    not_noted waiter.notice quiet.nothing (seen number in_it waiter quiet.here so)

pub not_reached : (object source : ℕ) {olds news : SeatsShown} {next : Option ℕ} {count : ℕ}
    → RowRoused (λ waiter. reaches object source waiter ≡ true) (row_of source) olds news next count
    → AreListed olds.rows row_in olds.places
    → ((k : ℕ) → is_in olds.rows (row_of source) k ≡ true → IsSeen (λ waiter. reaches object source waiter ≡ true) news.places k)
    → (number : ℕ) (waiter : Waiter) → IsQuiet news.places number waiter → reaches object source waiter ≡ false
not_reached object source was listed seen number waiter quiet = by_test (reaches object source waiter) refl
  where
    by_test : (t : Bool) → reaches object source waiter ≡ t → t ≡ false
    by_test false is = refl
    by_test true is = absurd (not_so was listed seen number waiter quiet (ap row_of (reached_source object source waiter is)) is)

module _ {M : Type 0} where
  pub at_kept : (So : Waiter → Type 0) (history : List (Entry M)) (olds news : List Place) → AreRoused So olds news
      → AreAt history olds → AreAt history news
  at_kept So history olds news are at = λ number waiter is.
      let old = waited So olds news number waiter are is in
      let was = at number old.0 old.1 in (
        subst (λ (w : Want). Fits history (wanting w)) old.2 was.0,
        sym old.3 ∙ (was.1 ∙ ap (λ (w : Want). source_of history (object_of w)) old.2),
      )
