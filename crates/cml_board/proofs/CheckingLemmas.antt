-- A journal from elsewhere that came in one piece.
use Rattle.std.proofs.Common.{◌≡◌, ◌+◌, ℕ, List, [], slice_get, Some, sym, subst, arith}
use Rattle.std.proofs.lemmas.List.{append-nil}
use Rattle.cml_board.specs.{Entry, Expected, Lawful, entries_in, before, IsLawfulNext, IsFirstUnlawful, StopsAt, IsExpected, Expects}
use Rattle.cml_board.specs.{followed_by}

module _ {M : Type 0} where
  followed_from_nothing : (journal : List (Entry M)) (k : ℕ) → followed_by [] journal k ≡ before journal k
  followed_from_nothing journal k = append-nil (before journal k)

  pub first_unlawful : (journal : List (Entry M)) (at : ℕ) → StopsAt [] journal at → IsFirstUnlawful journal at
  first_unlawful journal at stops =
      subst (IsFirstUnlawful journal) (omega (arith, stops.position))
      (record {
        entry = stops.entry;
        stands = stops.stands;
        lawful = subst Lawful (followed_from_nothing journal stops.k) stops.lawful;
        unlawful = λ unlawful. stops.unlawful (subst (λ h. IsLawfulNext h stops.entry) (sym (followed_from_nothing journal stops.k))
            (unlawful.fits, unlawful.answered));
      })

  pub stops_here : (history piece now : List (Entry M)) (k at : ℕ) (entry : Entry M) (expected : Expected M)
      → now ≡ followed_by history piece k → Lawful now
      → slice_get piece k ≡ Some entry → at ≡ entries_in history + k
      → (IsLawfulNext now entry → ⊥) → Expects now entry expected
      → IsExpected history piece at expected × StopsAt history piece at
  stops_here history piece now k at entry expected same lawful stands position unlawful expects = (
    record {
      k = k;
      entry = entry;
      stands = stands;
      position = position;
      expects = subst (λ h. Expects h entry expected) same expects;
    },
    record {
      k = k;
      entry = entry;
      stands = stands;
      position = position;
      lawful = subst Lawful same lawful;
      unlawful = subst (λ h. IsLawfulNext h entry → ⊥) same unlawful;
    },
  )
