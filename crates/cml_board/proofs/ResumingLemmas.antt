-- What a base and the entries since tell of the objects is what the whole history tells.
use Rattle.std.proofs.Common.{◌≡◌, ℕ, zero, suc, ◌+◌, ◌<◌, inl, inr, true, List, [], ◌∷◌, ◌++◌, length, slice_get, Option}
use Rattle.std.proofs.Common.{Some, is_some, unwrap_or, refl, sym, ap, ◌∙◌, arith}
use Rattle.std.proofs.lemmas.Bool.{cases_lt, cond-true, cond-false}
use Rattle.std.proofs.lemmas.Option.{slice_get_past}
use Rattle.cml_board.specs.{Call, Entry, Origin, port, start_by, copy_of, left_by, held, Lawful, made, if_made, begun_by, origin_of}
use Rattle.cml_board.specs.{is_open, sent, got, place, base_of, copy_at, count_since, held_since, stood_at, place_from, begun_since}
use Rattle.cml_board.specs.{made_since, origin_since, place_since, open_since}
use Rattle.cml_board.specs.declared.call.Call.TheVariants.{NewPort, CopyPort}
use Rattle.cml_board.proofs.UnmadeLemmas.{unmade_got}
use Rattle.cml_board.proofs.SplittingLemmas.{lawful_past, length-sent_split, length-got_split, open_split, origin_split}

-- there is an item at each place within a list
some_within : {X : Type 0} (xs : List X) (i : ℕ) → i < length xs → is_some (slice_get xs i) ≡ true
some_within [] i within = absurd (omega arith)
some_within (x ∷ xs) zero within = refl
some_within (x ∷ xs) (suc i) within = some_within xs i (omega arith)

-- a copy starts at its original's place
copy_at_place : (origin : Option Origin) (received : ℕ) → copy_at origin (start_by origin + received) ≡ copy_of origin received
copy_at_place (Some (port source start)) received = refl
copy_at_place origin received = refl

module _ {M : Type 0} where
  -- how many messages were sent to an object, whether it is open, and what it holds
  pub count_told : (chunk : ℕ) (past since : List (Entry M)) (o : ℕ)
      → count_since (base_of chunk past) since o ≡ length (sent (since ++ past) o)
  count_told chunk past since o = sym (length-sent_split past since o)

  pub open_told : (chunk : ℕ) (past since : List (Entry M)) (o : ℕ) → open_since (base_of chunk past) since o ≡ is_open (since ++ past) o
  open_told chunk past since o = sym (open_split past since o)

  pub held_told : (chunk : ℕ) (past since : List (Entry M)) (o : ℕ) → held_since (base_of chunk past) since o ≡ held (since ++ past) o
  held_told chunk past [] o = refl
  held_told chunk past (entry ∷ before) o = ap (unwrap_or (left_by entry.call entry.reply o)) (held_told chunk past before o)

  -- at the cut an object stood after what it had received from its start on
  pub stood_told : (chunk : ℕ) (past since : List (Entry M)) (o : ℕ) → Lawful (since ++ past)
      → stood_at (base_of chunk past) o (origin_of (since ++ past) o) ≡ start_by (origin_of (since ++ past) o) + length (got past o)
  stood_told chunk past since o lawful = elim (cases_lt o (length (made past))) [
    | inl was ↦
        cond-true (is_some (origin_of past o)) (place past o) (start_by (origin_of (since ++ past) o)) (some_within (made past) o was)
        ∙ ap (λ origin. start_by origin + length (got past o)) (sym (origin_split past since o was))
    | inr new ↦
        let none : length (got past o) ≡ 0 = ap length (unmade_got past o (lawful_past past since lawful) new) in
        cond-false (is_some (origin_of past o)) (place past o) (start_by (origin_of (since ++ past) o))
        (ap is_some (slice_get_past (made past) o new))
        ∙ omega (arith, none)
  ]

  -- and at the end after what it received since, too
  place_from_told : (chunk : ℕ) (past since : List (Entry M)) (o : ℕ) → Lawful (since ++ past)
      → place_from (base_of chunk past) (origin_of (since ++ past) o) since o ≡ place (since ++ past) o
  place_from_told chunk past since o lawful = omega (arith, stood_told chunk past since o lawful, length-got_split past since o)

  -- so a call makes the same object
  begun_told : (chunk : ℕ) (past since : List (Entry M)) (call : Call M) → Lawful (since ++ past)
      → begun_since (base_of chunk past) (made (since ++ past)) since call ≡ begun_by (made (since ++ past)) (since ++ past) call
  begun_told chunk past since (NewPort name) lawful = ap (λ n. port name.0 n ∷ []) (count_told chunk past since name.0)
  begun_told chunk past since (CopyPort name) lawful =
      let origin = origin_of (since ++ past) name.0 in
      ap (copy_at origin) (place_from_told chunk past since name.0 lawful) ∙ copy_at_place origin (length (got (since ++ past) name.0))
  begun_told chunk past since call lawful = refl

  -- so they give the objects, in order
  pub made_told : (chunk : ℕ) (past since : List (Entry M)) → Lawful (since ++ past)
      → made_since (base_of chunk past) since ≡ made (since ++ past)
  made_told chunk past [] lawful = refl
  made_told chunk past (entry ∷ before) lawful =
      ap (λ origins. origins ++ if_made entry.reply (begun_since (base_of chunk past) origins before entry.call))
      (made_told chunk past before lawful.2)
      ∙ ap (λ begun. made (before ++ past) ++ if_made entry.reply begun) (begun_told chunk past before entry.call lawful.2)

  pub origin_told : (chunk : ℕ) (past since : List (Entry M)) (o : ℕ) → Lawful (since ++ past)
      → origin_since (base_of chunk past) since o ≡ origin_of (since ++ past) o
  origin_told chunk past since o lawful = ap (λ origins. slice_get origins o) (made_told chunk past since lawful)

  -- and each object's place
  pub place_told : (chunk : ℕ) (past since : List (Entry M)) (o : ℕ) → Lawful (since ++ past)
      → place_since (base_of chunk past) since o ≡ place (since ++ past) o
  place_told chunk past since o lawful =
      ap (λ origin. place_from (base_of chunk past) origin since o) (origin_told chunk past since o lawful)
      ∙ place_from_told chunk past since o lawful
