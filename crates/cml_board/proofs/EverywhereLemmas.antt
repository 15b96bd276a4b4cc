-- A history is lawful just where it is lawful at each position.
use Rattle.std.proofs.Common.{◌≡◌, ℕ, ◌≤◌, inl, inr, List, [], ◌∷◌, ◌++◌, length, reverse, Some, refl, sym, ap, subst, ◌∙◌, arith}
use Rattle.std.proofs.lemmas.Grind.{reverse_onto}
use Rattle.std.proofs.lemmas.List.{reverse-reverse, take-append-le, take_at}
use Rattle.std.proofs.lemmas.Option.{slice_get_within, none-some}
use Rattle.cml_board.specs.{Entry, Lawful, Fits, answer, before, IsLawfulAt, IsLawfulEverywhere}
use Rattle.cml_board.proofs.ListLemmas.{pushed_cases, slice_get-append_some, slice_get_pushed}

module _ {M : Type 0} where
  -- what stood before a position stays when one more entry follows
  before_old : (journal : List (Entry M)) (entry : Entry M) (k : ℕ) → k ≤ length journal
      → before (journal ++ entry ∷ []) k ≡ before journal k
  before_old journal entry k within = ap reverse (take-append-le k journal (entry ∷ []) within)

  before_last : (earlier : List (Entry M)) (entry : Entry M) → before (reverse earlier ++ entry ∷ []) (length (reverse earlier)) ≡ earlier
  before_last earlier entry = ap reverse (take_at (reverse earlier) (entry ∷ []) (length (reverse earlier)) refl) ∙ reverse-reverse earlier

  at_same : (journal : List (Entry M)) (k : ℕ) (entry : Entry M) (earlier : List (Entry M)) → before journal k ≡ earlier
      → Fits earlier entry.call → answer earlier entry.call ≡ Some entry.reply → IsLawfulAt journal k entry
  at_same journal k entry earlier e fits answers = record { fits = rw e fits; answered = rw e answers }

  -- one more entry at the journal's end
  more : (earlier : List (Entry M)) (last : Entry M) → IsLawfulEverywhere (reverse earlier)
      → Fits earlier last.call → answer earlier last.call ≡ Some last.reply → IsLawfulEverywhere (reverse earlier ++ last ∷ [])
  more earlier last lawful fits answers k entry found = elim (pushed_cases (reverse earlier) last entry k found) [
    | inl old ↦
        let there = lawful k entry old in
        let within : k ≤ length (reverse earlier) = omega (arith, slice_get_within (reverse earlier) k entry old) in
        at_same _ k entry (before (reverse earlier) k) (before_old (reverse earlier) last k within) there.fits there.answered
    | inr new ↦
        rw (new.0, ← new.1) (at_same _ (length (reverse earlier)) last earlier (before_last earlier last) fits answers)
  ]

  pub lawful_each : (history : List (Entry M)) → Lawful history → IsLawfulEverywhere (reverse history)
  lawful_each [] lawful = λ k entry found. absurd (none-some entry found)
  lawful_each (last ∷ earlier) lawful =
      subst (λ (j : List (Entry M)). IsLawfulEverywhere j) (sym (reverse_onto earlier last []))
      (more earlier last (lawful_each earlier lawful.2) lawful.0 lawful.1)

  fewer : (earlier : List (Entry M)) (last : Entry M) → IsLawfulEverywhere (reverse earlier ++ last ∷ [])
      → IsLawfulEverywhere (reverse earlier)
  fewer earlier last lawful k entry found =
      let there = lawful k entry (slice_get-append_some (reverse earlier) (last ∷ []) k entry found) in
      let within : k ≤ length (reverse earlier) = omega (arith, slice_get_within (reverse earlier) k entry found) in
      at_same _ k entry (before (reverse earlier ++ last ∷ []) k)
      (sym (before_old (reverse earlier) last k within)) there.fits there.answered

  pub lawful_only : (history : List (Entry M)) → IsLawfulEverywhere (reverse history) → Lawful history
  lawful_only [] lawful = tt
  lawful_only (last ∷ earlier) lawful =
      let all : IsLawfulEverywhere (reverse earlier ++ last ∷ []) =
      subst (λ (j : List (Entry M)). IsLawfulEverywhere j) (reverse_onto earlier last []) lawful in
      let there = all (length (reverse earlier)) last (slice_get_pushed (reverse earlier) last) in (
        rw (before_last earlier last) at there.fits,
        rw (before_last earlier last) at there.answered,
        lawful_only earlier (fewer earlier last all),
      )
