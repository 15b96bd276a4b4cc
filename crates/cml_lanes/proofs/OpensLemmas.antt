-- What a floor keeps of its lanes when one is opened.
use Rattle.std.proofs.Common.{◌≡◌, ℕ, ◌<◌, ◌≤◌, inl, inr, List, [], ◌∷◌, ◌++◌, length, slice_get, Option, Some, subst}
use Rattle.std.proofs.Common.{refl, sym, ap, ◌∙◌, arith}
use Rattle.std.proofs.lemmas.Option.{same_Some}
use Rattle.std.proofs.lemmas.List.{length_push}
use Rattle.cml_board.specs.{Entry, kind_of}
use Rattle.cml_board.specs.Shown.{Shown}
use Rattle.cml_board.proofs.ListLemmas.{pushed_cases}
use Rattle.cml_lanes.specs.{LaneSide, FeedSide, way_kind, laned, KeepsLane, FloorShown, KeepsLanes, KeepsFeeds, SameRing}

module _ {M : Type 0} where
  keeps_pushed : (history : List (Entry M)) (lanes : List (Option (LaneSide M))) (side : LaneSide M) → KeepsLanes history lanes
      → side.received ≡ [] → kind_of history side.target.0 ≡ Some (way_kind side.way) → KeepsLanes history (lanes ++ Some side ∷ [])
  keeps_pushed history lanes side keeps received kind = record { lane = each; no_lane = none }
    where
      each : (number : ℕ) (s : LaneSide M) → slice_get (lanes ++ Some side ∷ []) number ≡ Some (Some s) → KeepsLane history number s
      each number s found = elim (pushed_cases lanes (Some side) (Some s) number found) [
        | inl was ↦ keeps.lane number s was
        | inr next ↦ subst (λ (x : LaneSide M). KeepsLane history number x) (same_Some _ _ next.1)
            (record { laned = keeps.no_lane number (omega (arith, next.0)) ∙ sym received; kind = kind })
      ]

      none : (number : ℕ) → length (lanes ++ Some side ∷ []) ≤ number → laned history number ≡ []
      none number past = keeps.no_lane number (omega (arith, past, length_push lanes (Some side)))

  pub opened_keeps : {feeds : List (Option (FeedSide M))} (history : List (Entry M)) (lanes items : List (Option (LaneSide M)))
      (side : LaneSide M) → items ≡ lanes ++ Some side ∷ []
      → KeepsLanes history lanes × KeepsFeeds history feeds → side.received ≡ [] → kind_of history side.target.0 ≡ Some (way_kind side.way)
      → KeepsLanes history items × KeepsFeeds history feeds
  opened_keeps history lanes items side pushed keeps received kind =
      (subst (λ ls. KeepsLanes history ls) (sym pushed) (keeps_pushed history lanes side keeps.0 received kind), keeps.1)

  pub opened_rings : {feeds : List (Option (FeedSide M))} (board : Shown M) (lanes items : List (Option (LaneSide M)))
      (side : LaneSide M) (old : FloorShown M)
      → record { board = board; lanes = lanes; feeds = feeds } ≡ old → items ≡ lanes ++ Some side ∷ []
      → (number : ℕ) → number < length old.lanes → SameRing number old (record { board = board; lanes = items; feeds = feeds })
  opened_rings board lanes items side old view pushed number within s found =
      elim (pushed_cases lanes (Some side) (Some s) number (sym (ap (λ ls. slice_get ls number) pushed) ∙ found)) [
        | inl was ↦ (s, ap (λ (f : FloorShown M). slice_get f.lanes number) (sym view) ∙ was, refl)
        | inr next ↦ absurd (omega (arith, next.0, within, ap (λ (f : FloorShown M). length f.lanes) view))
      ]
