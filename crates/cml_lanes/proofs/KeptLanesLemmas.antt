-- What a floor keeps of its lanes, while something is done to one of them.
use Rattle.std.proofs.Common.{◌≡◌, ◌≢◌, ℕ, ◌≤◌, inl, inr, Bool, List, [], ◌∷◌, length, slice_get, slice_set, Option, Some}
use Rattle.std.proofs.Common.{None, subst, refl, sym, ap, ◌∙◌, arith}
use Rattle.std.proofs.lemmas.Option.{same_Some}
use Rattle.cml_board.specs.{Call, Entry, kind_of, Applies}
use Rattle.cml_board.specs.declared.outcome.Outcome.{Outcome}
use Rattle.cml_board.specs.Shown.{Shown}
use Rattle.cml_board.specs.declared.entry.Who.TheVariants.{Seat}
use Rattle.cml_board.specs.declared.outcome.Outcome.TheVariants.{Answered, WouldWait, Refused}
use Rattle.cml_board.proofs.ClosingLemmas.{kind_kept}
use Rattle.cml_board.proofs.ListLemmas.{slice_get-set_same, slice_get-set_other}
use Rattle.cml_lanes.specs.{LaneSide, way_kind, laned, is_lane, KeepsLane, DrainsRing, is_taken, KeepsLanes}
use Rattle.cml_lanes.proofs.LaningLemmas.{laned_other, laned_apart, kind_more}
use Rattle.cml_lanes.proofs.MovesLemmas.{keeps_moved}
use Rattle.cml_lanes.proofs.SlotsLemmas.{this_or_other, taken_within, same_length, emptied}

module _ {M : Type 0} where
  -- what an entry of a seat leaves
  seat_keeps : (history : List (Entry M)) (lanes : List (Option (LaneSide M))) (entry : Entry M) (seat : ℕ) → entry.who ≡ Seat seat
      → KeepsLanes history lanes → KeepsLanes (entry ∷ history) lanes
  seat_keeps history lanes entry seat who keeps =
      let other : (number : ℕ) → laned (entry ∷ history) number ≡ laned history number =
      λ number. laned_other entry history number (ap (λ w. is_lane w number) who) in
      record {
        lane = λ number side found. record {
          laned = other number ∙ (keeps.lane number side found).laned;
          kind = kind_kept entry history side.target.0 (way_kind side.way) (keeps.lane number side found).kind;
        };
        no_lane = λ number past. other number ∙ keeps.no_lane number past;
      }

  -- what a call of a seat leaves
  pub applied_keeps : (chunk : ℕ) (sure : Bool) (old new : Shown M) (lanes : List (Option (LaneSide M))) (seat : ℕ)
      (call : Call M) (outcome : Outcome M)
      → Applies chunk sure old new (Seat seat) call outcome → KeepsLanes old.history lanes → KeepsLanes new.history lanes
  applied_keeps chunk sure old new lanes seat call (Refused refusal back) applies keeps =
      subst (λ h. KeepsLanes h lanes) (sym applies.2.history) keeps
  applied_keeps chunk sure old new lanes seat call (WouldWait back) applies keeps =
      subst (λ h. KeepsLanes h lanes) (sym applies.4.history) keeps
  applied_keeps chunk sure old new lanes seat call (Answered answer) applies keeps =
      subst (λ h. KeepsLanes h lanes) (sym applies.5.history)
      (seat_keeps old.history lanes (record { who = Seat seat; call = call; reply = answer.reply }) seat refl keeps)

  -- a slot's lane, where nothing but messages of it went into the journal
  pub drained_keeps : (number count : ℕ) (old new : Shown M) (lanes : List (Option (LaneSide M))) (from to : LaneSide M)
      → KeepsLane old.history number from
      → DrainsRing number count old new from to → KeepsLane new.history number to
  drained_keeps number count old new lanes from to keeps d =
      keeps_moved number count old new d.looked to
      (record {
        laned = keeps.laned ∙ sym (ap (λ (side : LaneSide M). side.received) d.looks.side);
        kind = ap (λ (side : LaneSide M). kind_of old.history side.target.0) d.looks.side ∙ keeps.kind
            ∙ sym (ap (λ (side : LaneSide M). Some (way_kind side.way)) d.looks.side);
      }) d.moves

  -- of each other lane nothing changed
  others_laned : (number count : ℕ) (old new : Shown M) (from to : LaneSide M) → DrainsRing number count old new from to
      → (other : ℕ) → other ≢ number → laned new.history other ≡ laned old.history other
  others_laned number count old new from to d other apart =
      ap (λ h. laned h other) d.moves.history ∙ laned_apart number d.looked.way d.looked.target d.moves.moved old.history other apart

  kinds_kept : (number count : ℕ) (old new : Shown M) (from to : LaneSide M) → DrainsRing number count old new from to
      → (side : LaneSide M) → kind_of old.history side.target.0 ≡ Some (way_kind side.way)
      → kind_of new.history side.target.0 ≡ Some (way_kind side.way)
  kinds_kept number count old new from to d side is =
      ap (λ h. kind_of h side.target.0) d.moves.history
      ∙ kind_more number d.looked.way d.looked.target d.moves.moved old.history side.target.0 (way_kind side.way) is

  pub drain_keeps : (number count : ℕ) (old new : Shown M) (lanes : List (Option (LaneSide M))) (from to : LaneSide M)
      → slice_get lanes number ≡ Some (Some from)
      → DrainsRing number count old new from to → KeepsLanes old.history lanes → KeepsLanes new.history (slice_set lanes number (Some to))
  drain_keeps number count old new lanes from to opened d keeps = record { lane = each; no_lane = none }
    where
      each : (k : ℕ) (side : LaneSide M) → slice_get (slice_set lanes number (Some to)) k ≡ Some (Some side) → KeepsLane new.history k side
      each k side found = elim (this_or_other k number) [
        | inl same ↦
            let is : to ≡ side = same_Some _ _ (same_Some _ _ (sym (ap (slice_get (slice_set lanes number (Some to))) same
            ∙ slice_get-set_same lanes number (Some from) (Some to) opened) ∙ found)) in
            subst (λ (s : LaneSide M). KeepsLane new.history k s) is
            (subst (λ n. KeepsLane new.history n to) (sym same)
            (drained_keeps number count old new lanes from to (keeps.lane number from opened) d))
        | inr apart ↦
            let was : slice_get lanes k ≡ Some (Some side) = sym (slice_get-set_other lanes number k (Some to) apart) ∙ found in
            record {
              laned = others_laned number count old new from to d k apart ∙ (keeps.lane k side was).laned;
              kind = kinds_kept number count old new from to d side (keeps.lane k side was).kind;
            }
      ]

      none : (k : ℕ) → length (slice_set lanes number (Some to)) ≤ k → laned new.history k ≡ []
      none k past =
          let within = taken_within lanes number (ap is_taken opened) in
          let past_old : length lanes ≤ k = omega (arith, past, same_length lanes number (Some to)) in
          others_laned number count old new from to d k (λ same. absurd (omega (arith, same, within, past_old))) ∙ keeps.no_lane k past_old

  -- a lane is let go
  pub let_go_keeps : (number : ℕ) (history : List (Entry M)) (lanes : List (Option (LaneSide M))) → KeepsLanes history lanes
      → KeepsLanes history (slice_set lanes number None)
  let_go_keeps number history lanes keeps = record { lane = each; no_lane = none }
    where
      each : (k : ℕ) (side : LaneSide M) → slice_get (slice_set lanes number None) k ≡ Some (Some side) → KeepsLane history k side
      each k side found = elim (this_or_other k number) [
        | inl same ↦ absurd (emptied lanes number side (ap (slice_get (slice_set lanes number None)) (sym same) ∙ found))
        | inr apart ↦ keeps.lane k side (sym (slice_get-set_other lanes number k None apart) ∙ found)
      ]

      none : (k : ℕ) → length (slice_set lanes number None) ≤ k → laned history k ≡ []
      none k past = keeps.no_lane k (omega (arith, past, same_length lanes number None))
