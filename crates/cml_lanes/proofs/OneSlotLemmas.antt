-- What is done to one place of a list of slots, of lanes or of feeds.
use Rattle.std.proofs.Common.{◌≡◌, ℕ, true, List, get_or, slice_get, slice_set, Option, Some, is_some, count_by, IfSome, subst, sym, ap}
use Rattle.std.proofs.Common.{◌∙◌}
use Rattle.std.proofs.lemmas.Option.{same_Some}
use Rattle.cml_board.proofs.ListLemmas.{slice_get-set_same}
use Rattle.cml_lanes.specs.{is_taken, stays, OnPlace, OnSlot}
use Rattle.cml_lanes.proofs.SlotsLemmas.{slot_at, taken_slot, set_places, as_many_taken}

module _ {Side : Type 0} where
  -- the slot that an index gave
  pub slot_here : (items shown : List (Option Side)) (number : ℕ) (slot : Option Side) → items ≡ shown
      → is_taken (slice_get shown number) ≡ true → slot ≡ get_or items number slot
      → slice_get items number ≡ Some slot
  slot_here items shown number slot view opened at = slot_at items number slot (ap (λ s. is_taken (slice_get s number)) view ∙ opened) at

  -- and what is in it
  pub side_here : (items shown : List (Option Side)) (number : ℕ) (slot : Option Side) → items ≡ shown
      → is_taken (slice_get shown number) ≡ true → slot ≡ get_or items number slot
      → (side : Side) × (slot ≡ Some side) × (slice_get shown number ≡ Some (Some side))
  side_here items shown number slot view opened at =
      let taken = taken_slot shown number opened in (
        taken.0,
        same_Some _ _ (sym (slot_here items shown number slot view opened at) ∙ ap (λ s. slice_get s number) view ∙ taken.1),
        taken.1,
      )

  -- what is done to a slot is done to its place
  pub on_place : (items shown : List (Option Side)) (number : ℕ) (slot new_slot : Option Side) (Does : Side → Side → Type 0) → items ≡ shown
      → slice_get items number ≡ Some slot → OnSlot slot new_slot Does → OnPlace stays number shown (slice_set items number new_slot) Does
  on_place items shown number slot new_slot Does view at on = record {
    from = on.from;
    to = on.to;
    opened = ap (λ s. slice_get s number) (sym view) ∙ at ∙ ap Some on.opened;
    places = ap (slice_set items number) on.stays ∙ ap (λ s. slice_set s number (Some on.to)) view;
    does = on.does;
  }

  -- and stays there
  pub stays_there : {number : ℕ} {old new : List (Option Side)} {Does : Side → Side → Type 0} (on : OnPlace stays number old new Does)
      → slice_get new number ≡ Some (Some on.to)
  stays_there {number} {old} on =
      ap (λ slots. slice_get slots number) on.places ∙ slice_get-set_same old number (Some on.from) (Some on.to) on.opened

  -- who does this does that
  pub does_so : {left : Side → Option Side} {number : ℕ} {old new : List (Option Side)}
      {Does : Side → Side → Type 0} (So : Side → Side → Type 0)
      → ((from to : Side) → Does from to → So from to) → OnPlace left number old new Does → OnPlace left number old new So
  does_so So so on = record { from = on.from; to = on.to; opened = on.opened; places = on.places; does = so on.from on.to on.does }

  -- what holds of each one that is open now held of it before
  pub told_before : {P : Type 0} (told : Side → P) {left : Side → Option Side} {number : ℕ}
      {old new : List (Option Side)} {Does : Side → Side → Type 0}
      → ((from to side : Side) → Does from to → left to ≡ Some side → told side ≡ told from) → OnPlace left number old new Does
      → (k : ℕ) (side : Side) → slice_get new k ≡ Some (Some side)
      → (was : Side) × (slice_get old k ≡ Some (Some was)) × (told side ≡ told was)
  told_before told {left} {number} {old} {new} same on =
      set_places told number old new on.from (left on.to) on.opened on.places (λ side is. same on.from on.to side on.does is)

  -- as many are open
  pub as_many_placed : {number : ℕ} {Does : Side → Side → Type 0} (opened : ℕ) (items shown news : List (Option Side))
      → opened ≡ count_by is_some items → items ≡ shown
      → OnPlace stays number shown news Does → opened ≡ count_by is_some news
  as_many_placed {number} opened items shown news counted view on =
      counted ∙ ap (count_by is_some) view ∙ sym (as_many_taken shown number on.from on.to on.opened)
      ∙ ap (count_by is_some) (sym on.places)

  -- what holds of what is in a slot holds of what is in its place
  pub placed_holds : (items : List (Option Side)) (number : ℕ) (slot new_slot : Option Side) (P : Side → Type 0)
      → slice_get items number ≡ Some slot → IfSome new_slot P
      → (side : Side) → slice_get (slice_set items number new_slot) number ≡ Some (Some side) → P side
  placed_holds items number slot new_slot P at holds = λ side found.
      let here : new_slot ≡ Some side = same_Some _ _ (sym (slice_get-set_same items number slot new_slot at) ∙ found) in
      subst (λ s. IfSome s P) here holds
