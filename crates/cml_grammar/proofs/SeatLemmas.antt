-- The seat of a thread that is named.
use Rattle.std.proofs.Common.{◌≡◌, ℕ, ◌≤◌, true, List, slice_get, Option, Some, All, sym, ap, ◌∙◌, subst, true≢false}
use Rattle.std.specs.Option.{option_map, option_and_then}
use Rattle.std.proofs.lemmas.List.Elements.{All-get_or}
use Rattle.std.proofs.lemmas.Option.{none-some, same_Some, slice_get_within, get_or_from_slice_get, option_and_then_some}
use Rattle.cml_grammar.specs.{Named, Given, seat_in, seat_of, named, position_of, suits, IsSeatedWithin, IsUsed}
use Rattle.cml_grammar.specs.declared.names.Named.TheVariants as called
use Rattle.cml_grammar.specs.declared.forms.Place.TheVariants.{Thread}
use Rattle.cml_grammar.proofs.ListLemmas.{mapped_some}

-- a name that suits a thread's place has a seat
pub used_seat : (names : List Given) (word : List ℕ) → IsUsed names Thread word → (seat : ℕ) × (seat_of names word ≡ Some seat)
used_seat names word h = by h.2.1 h.2.2 h.2.3
  where
    by : (n : Named) → slice_get names h.0 ≡ Some (h.2.0, n) → suits Thread n ≡ true → (seat : ℕ) × (seat_of names word ≡ Some seat)
    by (called.Thread seat) e t = (
      seat,
      ap (λ r. option_and_then seat_in (option_and_then (λ i. option_map (λ (g : Given). g.1) (slice_get names i)) r)) h.1
          ∙ ap (λ (r : Option Given). option_and_then seat_in (option_map (λ (g : Given). g.1) r)) e,
    )
    by _ e t = absurd (true≢false (sym t))

-- and it is one of the seats of the threads
pub seated_from : (names : List Given) (n : ℕ) (thread : List ℕ) (seat : ℕ) → All (λ g. IsSeatedWithin n g.1) names
    → seat_of names thread ≡ Some seat → (1 ≤ seat) × (seat ≤ n)
seated_from names n thread seat seats h =
    option_and_then_some seat_in (named names thread) seat h (λ k found is.
    option_and_then_some (λ i. option_map (λ g. g.1) (slice_get names i)) (position_of names thread) k found (λ i at meant.
    let g = mapped_some (λ (x : Given). x.1) (slice_get names i) k meant in
    let here = All-get_or (λ (x : Given). IsSeatedWithin n x.1) names i g.0 (slice_get_within names i g.0 g.1) seats in
    seat_within k is (subst (IsSeatedWithin n) g.2
    (subst (λ (x : Given). IsSeatedWithin n x.1) (get_or_from_slice_get names i g.0 g.0 g.1) here))))
  where
    seat_within : (k : Named) → seat_in k ≡ Some seat → IsSeatedWithin n k → (1 ≤ seat) × (seat ≤ n)
    seat_within (called.Thread s) e w = subst (λ (m : ℕ). (1 ≤ m) × (m ≤ n)) (same_Some _ _ e) w
    seat_within _ e w = absurd (none-some seat e)
