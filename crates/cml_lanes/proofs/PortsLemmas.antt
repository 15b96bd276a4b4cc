-- The ports of open feeds, and the feeds that they are of.
use Rattle.std.proofs.Common.{◌≡◌, ℕ, zero, suc, ◌+◌, Bool, true, false, cond, ◌||◌, eqb, List, [], ◌∷◌, ◌++◌, length, slice_get}
use Rattle.std.proofs.Common.{slice_set, Option, Some, None, refl, sym, ap, ◌∙◌, arith}
use Rattle.std.specs.Prelude.{nat_eq}
use Rattle.std.specs.List.{list_any}
use Rattle.std.proofs.lemmas.Option.{same_Some}
use Rattle.std.proofs.lemmas.Bool.{eqb-true}
use Rattle.std.proofs.lemmas.List.Folds.{list_any-append}
use Rattle.cml_board.specs.{Call}
use Rattle.cml_board.specs.declared.call.Call.TheVariants.{ClosePort, Recv, Poll}
use Rattle.cml_lanes.specs.{FeedSide, has_port, is_feeds_port, is_barred, HasPorts}
use Rattle.cml_lanes.proofs.SlotsLemmas.{as_many_taken, one_taken_less, one_taken_more}

added_test : (b x : Bool) → cond b true x ≡ (x || (b || false))
added_test true true = refl
added_test true false = refl
added_test false true = refl
added_test false false = refl

none_left : (ports : List ℕ) → length ports ≡ 0 → (object : ℕ) → list_any (nat_eq object) ports ≡ false
none_left [] none object = refl
none_left (port ∷ ports) none object = absurd (omega (arith, none))

module _ {M : Type 0} where
  -- where no feed is open no call is barred
  pub none_barred : (ports : List ℕ) (feeds : List (Option (FeedSide M))) (call : Call M) → HasPorts ports feeds
      → length ports ≡ 0 → false ≡ is_barred feeds call
  none_barred ports feeds call has none = by_call call
    where
      free : (object : ℕ) → false ≡ is_feeds_port feeds object
      free object = sym (none_left ports none object) ∙ has.each object

      by_call : (call : Call M) → false ≡ is_barred feeds call
      by_call (Recv port) = free port.0
      by_call (Poll port) = free port.0
      by_call (ClosePort port) = free port.0
      by_call other = refl

  -- one more is opened
  pub ports_more : (ports news : List ℕ) (feeds : List (Option (FeedSide M))) (side : FeedSide M) → HasPorts ports feeds
      → ((q : ℕ) → list_any (nat_eq q) news ≡ cond (nat_eq side.port.0 q) true (list_any (nat_eq q) ports)) → length news ≡ length ports + 1
      → HasPorts news (feeds ++ Some side ∷ [])
  ports_more ports news feeds side has step longer = record {
    each = λ q. step q ∙ ap (cond (nat_eq side.port.0 q) true) (has.each q) ∙ added_test (nat_eq side.port.0 q) (is_feeds_port feeds q)
        ∙ sym (list_any-append (has_port q) feeds (Some side ∷ []));
    count = omega (arith, longer, has.count, one_taken_more feeds side);
  }

  -- one is ended
  without_one : (feeds : List (Option (FeedSide M))) (number : ℕ) (from : FeedSide M) (q : ℕ)
      → slice_get feeds number ≡ Some (Some from) → eqb from.port.0 q ≡ false
      → is_feeds_port (slice_set feeds number None) q ≡ is_feeds_port feeds q
  without_one [] number from q opened apart = refl
  without_one (slot ∷ feeds) zero from q opened apart =
      sym (ap (λ s. has_port q s || is_feeds_port feeds q) (same_Some _ _ opened) ∙ ap (λ b. b || is_feeds_port feeds q) apart)
  without_one (slot ∷ feeds) (suc number) from q opened apart =
      ap (λ b. has_port q slot || b) (without_one feeds number from q opened apart)

  pub ports_less : (ports news : List ℕ) (feeds : List (Option (FeedSide M))) (number : ℕ) (from : FeedSide M)
      → slice_get feeds number ≡ Some (Some from)
      → is_feeds_port (slice_set feeds number None) from.port.0 ≡ false → HasPorts ports feeds
      → ((q : ℕ) → list_any (nat_eq q) news ≡ cond (nat_eq from.port.0 q) false (list_any (nat_eq q) ports))
      → length news + 1 ≡ length ports
      → HasPorts news (slice_set feeds number None)
  ports_less ports news feeds number from opened own has step shorter = record {
    each = λ q. by_test q (eqb from.port.0 q) refl;
    count = omega (arith, shorter, has.count, one_taken_less feeds number from opened);
  }
    where
      by_test : (q : ℕ) (t : Bool) → eqb from.port.0 q ≡ t → list_any (nat_eq q) news ≡ is_feeds_port (slice_set feeds number None) q
      by_test q true same =
          step q ∙ ap (λ b. cond b false (list_any (nat_eq q) ports)) same
          ∙ sym (ap (is_feeds_port (slice_set feeds number None)) (sym (eqb-true from.port.0 q same)) ∙ own)
      by_test q false apart =
          step q ∙ ap (λ b. cond b false (list_any (nat_eq q) ports)) apart ∙ has.each q
          ∙ sym (without_one feeds number from q opened apart)

  -- one is pumped
  same_port : (feeds : List (Option (FeedSide M))) (number : ℕ) (from to : FeedSide M) (q : ℕ)
      → slice_get feeds number ≡ Some (Some from) → to.port ≡ from.port
      → is_feeds_port (slice_set feeds number (Some to)) q ≡ is_feeds_port feeds q
  same_port [] number from to q opened same = refl
  same_port (slot ∷ feeds) zero from to q opened same =
      ap (λ port. eqb port.0 q || is_feeds_port feeds q) same ∙ sym (ap (λ s. has_port q s || is_feeds_port feeds q) (same_Some _ _ opened))
  same_port (slot ∷ feeds) (suc number) from to q opened same =
      ap (λ b. has_port q slot || b) (same_port feeds number from to q opened same)

  pub same_ports : (ports : List ℕ) (feeds : List (Option (FeedSide M))) (number : ℕ) (from to : FeedSide M)
      → slice_get feeds number ≡ Some (Some from) → to.port ≡ from.port
      → HasPorts ports feeds → HasPorts ports (slice_set feeds number (Some to))
  same_ports ports feeds number from to opened same has = record {
    each = λ q. has.each q ∙ sym (same_port feeds number from to q opened same);
    count = has.count ∙ sym (as_many_taken feeds number from to opened);
  }
