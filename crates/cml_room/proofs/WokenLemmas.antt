-- Who counts as woken, over what is done with a seat.
use Rattle.std.proofs.Common.{◌≡◌, ◌≢◌, ℕ, zero, suc, ◌<◌, inl, inr, true, false, List, [], ◌∷◌, ◌++◌, length, replicate, get_or}
use Rattle.std.proofs.Common.{slice_get, slice_set, Option, Some, None, IfSome, IfNone, refl, sym, ap, subst, ◌∙◌, arith}
use Rattle.std.specs.Option.{option_map}
use Rattle.std.proofs.lemmas.Option.{slice_get-map, slice_get_past, slice_get-get_or}
use Rattle.cml_board.proofs.ListLemmas.{slice_get-set_same, slice_get-set_other}
use Rattle.cml_room.specs.{Notice, Place, Waiter, notice_by, notices_in, quieted, roused, roused_notice, AreRoused, RoomShown, floor_of}
use Rattle.cml_room.specs.{has_notice, is_due, freed, WakesNext, is_woken, woken_in, was_woken, KeepsWoken, HasAsked, GivesNext}
use Rattle.cml_room.specs.declared.notice.Notice.TheVariants.{Nothing, Due, Woken}
use Rattle.cml_room.specs.declared.place.Place.TheVariants.{Free, Waiting, Left}
use Rattle.cml_lanes.proofs.SlotsLemmas.{this_or_other}
use Rattle.cml_room.proofs.RousingLemmas.{roused_to, free_kept}
use Rattle.cml_room.proofs.WalkingLemmas.{past_none}

-- told by its place
pub woken_by : (places : List Place) (seat : ℕ)
    → was_woken (notices_in places) seat ≡ woken_in (option_map notice_by (slice_get places seat))
woken_by places seat = ap woken_in (slice_get-map notice_by places seat)

same_woken : (olds news : List Place) (seat : ℕ) → slice_get news seat ≡ slice_get olds seat
    → was_woken (notices_in news) seat ≡ was_woken (notices_in olds) seat
same_woken olds news seat same =
    woken_by news seat ∙ (ap (λ (o : Option Place). woken_in (option_map notice_by o)) same ∙ sym (woken_by olds seat))

pub same_keeps : (olds news : List Place) → news ≡ olds → KeepsWoken (notices_in olds) (notices_in news)
same_keeps olds news same = λ seat. ap (λ (l : List Place). was_woken (notices_in l) seat) same

roused_woken : (place : Place) → is_woken (notice_by (roused place)) ≡ is_woken (notice_by place)
roused_woken Free = refl
roused_woken Left = refl
roused_woken (Waiting waiter) = by_notice waiter.notice
  where
    by_notice : (notice : Notice) → is_woken (roused_notice notice) ≡ is_woken notice
    by_notice Nothing = refl
    by_notice Due = refl
    by_notice Woken = refl

-- a seat that is roused isn't woken by that
pub roused_keeps : (So : Waiter → Type 0) (olds news : List Place) → AreRoused So olds news → KeepsWoken (notices_in olds) (notices_in news)
roused_keeps So olds news are = λ seat. by_old seat (slice_get olds seat) refl
  where
    by_old : (seat : ℕ) (o : Option Place) → slice_get olds seat ≡ o → was_woken (notices_in news) seat ≡ was_woken (notices_in olds) seat
    by_old seat None was =
        same_woken olds news seat (slice_get_past news seat (omega (arith, past_none olds seat was, are.each)) ∙ sym was)
    by_old seat (Some old) was =
        let to = roused_to So olds news seat old are was in
        elim to.2 [
          | inl same ↦ same_woken olds news seat (to.1 ∙ (ap Some same ∙ sym was))
          | inr one ↦
              woken_by news seat
              ∙ (ap (λ (o : Option Place). woken_in (option_map notice_by o)) (to.1 ∙ ap Some one.3)
              ∙ (roused_woken old
              ∙ sym (woken_by olds seat ∙ ap (λ (o : Option Place). woken_in (option_map notice_by o)) was)))
        ]

pub keeps_on : (olds mids news : List Place) → KeepsWoken (notices_in olds) (notices_in mids)
    → KeepsWoken (notices_in mids) (notices_in news)
    → KeepsWoken (notices_in olds) (notices_in news)
keeps_on olds mids news one two = λ seat. two seat ∙ one seat

-- a seat whose place is another now, with no notice
pub set_asked : (places news : List Place) (seat : ℕ) (old new : Place) → slice_get places seat ≡ Some old → notice_by new ≡ Nothing
    → news ≡ slice_set places seat new
    → HasAsked seat (notices_in places) (notices_in news)
set_asked places news seat old new found nothing set = record {
  quiet =
      slice_get-map notice_by news seat
      ∙ (ap (λ (l : List Place). option_map notice_by (slice_get l seat)) set
      ∙ (ap (option_map notice_by) (slice_get-set_same places seat old new found) ∙ ap Some nothing));
  others = λ other apart.
      same_woken places news other (ap (λ (l : List Place). slice_get l other) set ∙ slice_get-set_other places seat other new apart);
}

pub set_asked_within : (places news : List Place) (seat : ℕ) (new : Place) → seat < length places → notice_by new ≡ Nothing
    → news ≡ slice_set places seat new
    → HasAsked seat (notices_in places) (notices_in news)
set_asked_within places news seat new within nothing set =
    set_asked places news seat (get_or places seat Free) new (slice_get-get_or places seat Free within) nothing set

pub freed_nothing : (place : Place) → notice_by (freed place) ≡ Nothing
freed_nothing Free = refl
freed_nothing Left = refl
freed_nothing (Waiting waiter) = refl

pub quieted_nothing : (place : Place) → notice_by (quieted place) ≡ Nothing
quieted_nothing Free = refl
quieted_nothing Left = refl
quieted_nothing (Waiting waiter) = refl

-- one that is free has asked
pub free_asked : (places : List Place) (seat : ℕ) → slice_get places seat ≡ Some Free
    → HasAsked seat (notices_in places) (notices_in places)
free_asked places seat free = record {
  quiet = slice_get-map notice_by places seat ∙ ap (option_map notice_by) free;
  others = λ other apart. refl;
}

-- the seat asked and is free, and others were roused
pub asked_roused : (So : Waiter → Type 0) (olds mids news : List Place) (seat : ℕ)
    → HasAsked seat (notices_in olds) (notices_in mids) → AreRoused So mids news
    → slice_get mids seat ≡ Some Free → HasAsked seat (notices_in olds) (notices_in news)
asked_roused So olds mids news seat asked roused free = record {
  quiet = (free_asked news seat (free_kept So mids news seat roused free)).quiet;
  others = λ other apart. roused_keeps So mids news roused other ∙ asked.others other apart;
}

pub asked_on : (olds mids news : List Place) (seat : ℕ) → HasAsked seat (notices_in olds) (notices_in mids)
    → HasAsked seat (notices_in mids) (notices_in news)
    → HasAsked seat (notices_in olds) (notices_in news)
asked_on olds mids news seat one two = record { quiet = two.quiet; others = λ other apart. two.others other apart ∙ one.others other apart }

pub asked_same : (olds mids news : List Place) (seat : ℕ) → HasAsked seat (notices_in olds) (notices_in mids) → news ≡ mids
    → HasAsked seat (notices_in olds) (notices_in news)
asked_same olds mids news seat asked same = subst (λ (l : List Place). HasAsked seat (notices_in olds) (notices_in l)) (sym same) asked

-- the seat that wakes next, and no other, is woken by that
pub wakes_only : (olds mids news : List Place) (given : Option ℕ)
    → KeepsWoken (notices_in olds) (notices_in mids) → WakesNext mids news given
    → (seat : ℕ) → given ≢ Some seat → was_woken (notices_in news) seat ≡ was_woken (notices_in olds) seat
wakes_only olds mids news None kept woken = λ seat other. same_keeps mids news woken.0 seat ∙ kept seat
wakes_only olds mids news (Some number) kept woken = λ seat other.
    same_woken mids news seat
    (ap (λ (l : List Place). slice_get l seat) woken.3
    ∙ slice_get-set_other mids number seat (Waiting (record woken.0 { notice = Woken })) (λ same. other (ap Some (sym same))))
    ∙ kept seat

-- a seat whose place is another now, with as little notice
pub set_keeps : (places news : List Place) (seat : ℕ) (old new : Place) → slice_get places seat ≡ Some old
    → is_woken (notice_by new) ≡ is_woken (notice_by old)
    → news ≡ slice_set places seat new → KeepsWoken (notices_in places) (notices_in news)
set_keeps places news seat old new found alike set = λ k. elim (this_or_other k seat) [
  | inl here ↦
      woken_by news k
      ∙ (ap (λ (l : List Place). woken_in (option_map notice_by (slice_get l k))) set
      ∙ (ap (λ n. woken_in (option_map notice_by (slice_get (slice_set places seat new) n))) here
      ∙ (ap (λ (o : Option Place). woken_in (option_map notice_by o)) (slice_get-set_same places seat old new found)
      ∙ (alike
      ∙ sym (woken_by places k ∙ ap (λ (o : Option Place). woken_in (option_map notice_by o)) (ap (slice_get places) here ∙ found))))))
  | inr other ↦ same_woken places news k (ap (λ (l : List Place). slice_get l k) set ∙ slice_get-set_other places seat k new other)
]

-- one free seat more
pub added_keeps : (places news : List Place) → news ≡ places ++ Free ∷ [] → KeepsWoken (notices_in places) (notices_in news)
added_keeps places news added = λ seat.
    woken_by news seat
    ∙ (ap (λ (l : List Place). woken_in (option_map notice_by (slice_get l seat))) added
    ∙ (pushed places seat ∙ sym (woken_by places seat)))
  where
    pushed : (ps : List Place) (k : ℕ)
        → woken_in (option_map notice_by (slice_get (ps ++ Free ∷ []) k)) ≡ woken_in (option_map notice_by (slice_get ps k))
    pushed [] zero = refl
    pushed [] (suc k) = refl
    pushed (p ∷ ps) zero = refl
    pushed (p ∷ ps) (suc k) = pushed ps k

-- seats that have left have no notice
pub left_quiet : (places : List Place) (count : ℕ) → places ≡ replicate count Left → (seat : ℕ)
    → has_notice (slice_get (notices_in places) seat) ≡ false
left_quiet places count left = λ seat.
    ap has_notice (slice_get-map notice_by places seat)
    ∙ (ap (λ (l : List Place). has_notice (option_map notice_by (slice_get l seat))) left ∙ none count seat)
  where
    none : (n k : ℕ) → has_notice (option_map notice_by (slice_get (replicate n Left) k)) ≡ false
    none zero k = refl
    none (suc n) zero = refl
    none (suc n) (suc k) = none n k

not_woken : (seen : Option Notice) → seen ≢ Some Woken → woken_in seen ≡ false
not_woken None isnt = refl
not_woken (Some Nothing) isnt = refl
not_woken (Some Due) isnt = refl
not_woken (Some Woken) isnt = absurd (isnt refl)

module _ {M : Type 0} where
  -- what `next_due` does
  pub gives_next : (given : Option ℕ) (old new : RoomShown M)
      → IfSome given (λ seat. (is_due old seat ≡ true) × (slice_get old.notices seat ≢ Some Woken)
      × (slice_get new.notices seat ≡ Some Woken))
      → ((seat : ℕ) → given ≢ Some seat → was_woken new.notices seat ≡ was_woken old.notices seat)
      → IfNone given ((seat : ℕ) → is_due new seat ≡ true → slice_get new.notices seat ≡ Some Woken) → new.all_due ≡ false
      → ((seat : ℕ) → is_due new seat ≡ is_due old seat) → new.seats ≡ old.seats → floor_of new ≡ floor_of old → GivesNext given old new
  gives_next None old new first only all settled same seats floor = record {
    first = tt;
    only = only;
    all = λ seat due. ap woken_in (all seat due);
    settled = settled;
    same = same;
    seats = seats;
    floor = floor;
  }
  gives_next (Some given) old new first only all settled same seats floor = record {
    first = (first.0, not_woken (slice_get old.notices given) first.1, ap woken_in first.2);
    only = only;
    all = tt;
    settled = settled;
    same = same;
    seats = seats;
    floor = floor;
  }
