-- The ports that a list of feeds has, whatever is done to one of them.
use Rattle.std.proofs.Common.{◌≡◌, ℕ, ◌+◌, Bool, true, false, not, cond, List, [], ◌∷◌, ◌++◌, length, get_or, slice_get, slice_set}
use Rattle.std.proofs.Common.{Option, Some, None, Result, Ok, Err, is_err, IfOk, IfSome, subst, refl, sym, ap, ◌∙◌}
use Rattle.std.specs.Prelude.{nat_eq}
use Rattle.std.specs.List.{list_any}
use Rattle.std.proofs.lemmas.Option.{same_Some}
use Rattle.std.proofs.lemmas.Bool.{true≢false}
use Rattle.cml_board.specs.{Refusal}
use Rattle.cml_board.specs.Shown.{Shown}
use Rattle.cml_lanes.specs.{Ended, FeedSide, is_taken, stays, OnPlace, is_feeds_port, PumpsUntil, EndsSlot, HasPorts}
use Rattle.cml_lanes.proofs.PumpsLemmas.{until_pumps}
use Rattle.cml_lanes.proofs.OneSlotLemmas.{slot_here, side_here}
use Rattle.cml_lanes.proofs.PortsLemmas.{ports_more, ports_less, same_ports}
use Rattle.cml_lanes.proofs.KeptFeedsLemmas.{found_port}

ok_of : {X E : Type 0} (r : Result X E) → is_err r ≡ false → (x : X) × (r ≡ Ok x)
ok_of (Ok x) fine = (x, refl)
ok_of (Err e) fine = absurd (true≢false fine)

module _ {M : Type 0} where
  -- the ports stay
  pub pump_ports : (chunk : ℕ) (sure : Bool) (number count : ℕ) (stopped : Option Refusal) (old new : Shown M) (ports : List ℕ)
      (feeds shown news : List (Option (FeedSide M))) → feeds ≡ shown
      → OnPlace stays number shown news (PumpsUntil chunk sure number count stopped old new) → HasPorts ports feeds → HasPorts ports news
  pump_ports chunk sure number count stopped old new ports feeds shown news view on has =
      let pumps = until_pumps chunk sure number count stopped old new on.from on.to on.does in
      let port : on.to.port ≡ on.from.port = ap (λ (s : FeedSide M). s.port) pumps.pumps.side
      ∙ ap (λ (s : FeedSide M). s.port) pumps.looks.side in
      subst (λ fs. HasPorts ports fs) (sym on.places)
      (same_ports ports shown number on.from on.to on.opened port (subst (λ fs. HasPorts ports fs) view has))

  -- a feed is added, and its port
  pub add_ports : {E : Type 0} (inserted : Result Bool E) (port : ℕ) (ports news : List ℕ) (feeds items : List (Option (FeedSide M)))
      (side : FeedSide M) → is_err inserted ≡ false
      → ((q : ℕ) → list_any (nat_eq q) news ≡ cond (nat_eq port q) true (list_any (nat_eq q) ports))
      → IfOk inserted (λ added. added ≡ not (list_any (nat_eq port) ports))
      → IfOk inserted (λ added. length news ≡ length ports + cond added 1 0)
      → port ≡ side.port.0 → is_feeds_port feeds side.port.0 ≡ false → items ≡ feeds ++ Some side ∷ []
      → HasPorts ports feeds → HasPorts news items
  add_ports inserted port ports news feeds items side fine step added longer same free pushed has =
      let told = ok_of inserted fine in
      let is_added : told.0 ≡ not (list_any (nat_eq port) ports) =
      subst (λ r. IfOk r (λ added. added ≡ not (list_any (nat_eq port) ports))) told.1 added in
      let one : told.0 ≡ true = is_added ∙ ap not (has.each port ∙ ap (is_feeds_port feeds) same ∙ free) in
      let more : length news ≡ length ports + cond told.0 1 0 =
      subst (λ r. IfOk r (λ added. length news ≡ length ports + cond added 1 0)) told.1 longer in
      subst (λ fs. HasPorts news fs) (sym pushed)
      (ports_more ports news feeds side has (λ q. step q ∙ ap (λ p. cond (nat_eq p q) true (list_any (nat_eq q) ports)) same)
      (more ∙ ap (λ b. length ports + cond b 1 0) one))

  -- one is ended, and its port taken away
  pub end_ports : (number port : ℕ) (ports news : List ℕ) (feeds shown : List (Option (FeedSide M)))
      (slot new_slot : Option (FeedSide M)) (removed : Bool)
      → feeds ≡ shown → is_taken (slice_get shown number) ≡ true
      → ((side : FeedSide M) → slice_get shown number ≡ Some (Some side) → is_feeds_port (slice_set shown number None) side.port.0 ≡ false)
      → slot ≡ get_or feeds number slot → IfSome slot (λ side. port ≡ side.port.0) → removed ≡ list_any (nat_eq port) ports
      → ((q : ℕ) → list_any (nat_eq q) news ≡ cond (nat_eq port q) false (list_any (nat_eq q) ports))
      → length news + cond removed 1 0 ≡ length ports
      → new_slot ≡ None → HasPorts ports feeds → HasPorts news (slice_set feeds number new_slot)
  end_ports number port ports news feeds shown slot new_slot removed view opened own at told test step shorter gone has =
      let found = side_here feeds shown number slot view opened at in
      let here : slice_get feeds number ≡ Some (Some found.0) = ap (λ fs. slice_get fs number) view ∙ found.2 in
      let is : port ≡ found.0.port.0 = subst (λ s. IfSome s (λ side. port ≡ side.port.0)) found.1 told in
      let free : is_feeds_port (slice_set feeds number None) found.0.port.0 ≡ false =
      ap (λ fs. is_feeds_port (slice_set fs number None) found.0.port.0) view ∙ own found.0 found.2 in
      let there : removed ≡ true = test ∙ has.each port ∙ ap (is_feeds_port feeds) is ∙ found_port feeds number found.0 here in
      subst (λ s. HasPorts news (slice_set feeds number s)) (sym gone)
      (ports_less ports news feeds number found.0 here free has
      (λ q. step q ∙ ap (λ p. cond (nat_eq p q) false (list_any (nat_eq q) ports)) is)
      (ap (λ b. length news + cond b 1 0) (sym there) ∙ shorter))

  pub end_given : (number : ℕ) (feeds shown : List (Option (FeedSide M))) (slot : Option (FeedSide M))
      (end : Option (Ended M)) → feeds ≡ shown
      → is_taken (slice_get shown number) ≡ true → slot ≡ get_or feeds number slot → IfSome end (λ whole. EndsSlot number slot whole)
      → (side : FeedSide M) → slice_get shown number ≡ Some (Some side)
      → IfSome end (λ whole. whole ≡ record { ring = side.ring; number = number; sent = side.pushed })
  end_given number feeds shown slot None view opened at ends side found = tt
  end_given number feeds shown slot (Some whole) view opened at ends side found =
      let here : slot ≡ Some side =
      same_Some _ _ (sym (slot_here feeds shown number slot view opened at) ∙ ap (λ fs. slice_get fs number) view ∙ found) in
      let same : ends.side ≡ side = same_Some _ _ (sym ends.opened ∙ here) in
      ends.ends ∙ ap (λ (s : FeedSide M). record { ring = s.ring; number = number; sent = s.pushed }) same
