-- What a floor keeps whose lanes and feeds are those of its board's history, and are no longer open.
use Rattle.std.proofs.Common.{◌≡◌, ℕ, zero, suc, ◌-◌, ◌^◌, ◌<◌, ◌≤◌, false, cond, List, [], ◌∷◌, slice_get, replicate, Option, Some, None}
use Rattle.std.proofs.Common.{is_some, count_by, refl, sym, subst, ◌∙◌, arith}
use Rattle.std.proofs.lemmas.Option.{same_Some, none-some}
use Rattle.std.proofs.lemmas.Bool.{ne_eqb}
use Rattle.std.proofs.lemmas.List.{length-replicate}
use Rattle.std.proofs.lemmas.List.Folds.{sum_by-replicate}
use Rattle.cml_board.specs.{Who, Entry, behind_lane, behind_feed, lanes_of, feeds_of, capped, AreMakers}
use Rattle.cml_board.specs.declared.restored.Makers.{Makers}
use Rattle.cml_board.specs.Shown.{Shown}
use Rattle.cml_board.specs.declared.entry.Who.TheVariants.{Seat, Lane, Feed}
use Rattle.cml_lanes.specs.{LaneSide, FeedSide, is_lane, laned, is_feed, fed, KeepsLanes, KeepsFeeds, is_feeds_port, HasPorts}
use Rattle.cml_lanes.proofs.LaningLemmas.{laned_other}
use Rattle.cml_lanes.proofs.FeedEntriesLemmas.{fed_other}

another_lane : (who : Who) (number : ℕ) → behind_lane who ≤ number → is_lane who number ≡ false
another_lane (Lane lane) number past = ne_eqb lane number (λ same. absurd (omega (arith, same, past)))
another_lane (Seat seat) number past = refl
another_lane (Feed feed) number past = refl

another_feed : (who : Who) (number : ℕ) → behind_feed who ≤ number → is_feed who number ≡ false
another_feed (Feed feed) number past = ne_eqb feed number (λ same. absurd (omega (arith, same, past)))
another_feed (Seat seat) number past = refl
another_feed (Lane lane) number past = refl

-- a number that fits is exact
pub exact : (number made : ℕ) → made ≡ capped number → made < 2 ^ 64 - 1 → made ≡ number
exact number made capped few = omega (arith, capped, few)

-- nothing is open
none_open : (X : Type 0) (count : ℕ) → count_by {X = Option X} is_some (replicate count None) ≡ 0
none_open X count = omega (arith, sum_by-replicate {X = Option X} (λ slot. cond (is_some slot) 1 0) count None)

no_ports : (M : Type 0) (count object : ℕ) → is_feeds_port {M = M} (replicate count None) object ≡ false
no_ports M zero object = refl
no_ports M (suc count) object = no_ports M count object

module _ {X : Type 0} where
  -- nothing is in a place that was never filled
  pub none_there : (count number : ℕ) (x : X) → slice_get (replicate count None) number ≡ Some (Some x) → ⊥
  none_there zero number x found = none-some (Some x) found
  none_there (suc count) zero x found = none-some x (same_Some _ _ found)
  none_there (suc count) (suc number) x found = none_there count number x found

module _ {M : Type 0} where
  -- a history has nothing of a lane whose number is after those that made its entries
  pub none_laned : (history : List (Entry M)) (number : ℕ) → lanes_of history ≤ number → laned history number ≡ []
  none_laned [] number past = refl
  none_laned (entry ∷ before) number past =
      laned_other entry before number (another_lane entry.who number (omega (arith, past)))
      ∙ none_laned before number (omega (arith, past))

  -- nor of such a feed
  pub none_fed_behind : (history : List (Entry M)) (number : ℕ) → feeds_of history ≤ number → fed history number ≡ []
  none_fed_behind [] number past = refl
  none_fed_behind (entry ∷ before) number past =
      fed_other entry before number (another_feed entry.who number (omega (arith, past)))
      ∙ none_fed_behind before number (omega (arith, past))

  pub closed_ports : (ports : List ℕ) (feeds : List (Option (FeedSide M))) (count : ℕ) → ports ≡ []
      → feeds ≡ replicate count None → HasPorts ports feeds
  closed_ports ports feeds count none closed =
      subst (λ (ps : List ℕ). HasPorts ps feeds) (sym none) (subst (λ fs. HasPorts [] fs) (sym closed) (record {
        each = λ object. sym (no_ports M count object);
        count = sym (none_open (FeedSide M) count);
      }))

  -- all of this, of a board and its makers
  pub restored_keeps : (board was : Shown M) (makers : Makers) (lanes : List (Option (LaneSide M)))
      (feeds : List (Option (FeedSide M))) → board ≡ was
      → AreMakers was.history makers → lanes ≡ replicate makers.lanes None → makers.lanes < 2 ^ 64 - 1
      → feeds ≡ replicate makers.feeds None → makers.feeds < 2 ^ 64 - 1
      → KeepsLanes board.history lanes × KeepsFeeds board.history feeds
  restored_keeps board was makers lanes feeds same are no_lanes few_lanes no_feeds few_feeds =
      let all_lanes = exact (lanes_of was.history) makers.lanes are.lanes few_lanes in
      let all_feeds = exact (feeds_of was.history) makers.feeds are.feeds few_feeds in
      subst (λ (b : Shown M). KeepsLanes b.history lanes × KeepsFeeds b.history feeds) (sym same) (
        subst (λ ls. KeepsLanes was.history ls) (sym no_lanes) (record {
          lane = λ number side found. absurd (none_there makers.lanes number side found);
          no_lane = λ number past. none_laned was.history number
              (omega (arith, past, all_lanes, length-replicate {A = Option (LaneSide M)} makers.lanes None));
        }),
        subst (λ fs. KeepsFeeds was.history fs) (sym no_feeds) (record {
          feed = λ number side found. absurd (none_there makers.feeds number side found);
          no_feed = λ number past. none_fed_behind was.history number
              (omega (arith, past, all_feeds, length-replicate {A = Option (FeedSide M)} makers.feeds None));
          apart = λ one two a b first second ports. absurd (none_there makers.feeds one a first);
        }),
      )
