-- A variable is filled, and then it is settled. A mailbox and a channel are settled before.
use Rattle.std.proofs.Common.{◌≡◌, ◌≢◌, ℕ, ◌-◌, inl, inr, Bool, true, false, ◌&&◌, cond, List, [], length, take, drop, Option, Some}
use Rattle.std.proofs.Common.{None, refl, sym, ap, ◌∙◌}
use Rattle.std.specs.Option.{option_map_or}
use Rattle.std.proofs.lemmas.Bool.{cases_Bool, cond-true, cond-false, false≢true}
use Rattle.std.proofs.lemmas.Option.{none-some, same_Some}
use Rattle.cml_calls.specs.{is_port, is_variable}
use Rattle.cml_board.specs.{Entry, Name, Who, source_by, held, Lawful, origin_of, is_open, is_a, owed, held_by}
use Rattle.cml_board.specs.{facts_of}
use Rattle.cml_board.specs.declared.call.Call.TheVariants.{ClosePort}
use Rattle.cml_board.specs.declared.call.Call.TheVariants as call
use Rattle.cml_board.specs.Shown.{Shown}
use Rattle.cml_board.proofs.UnmadeLemmas.{facts_equal}
use Rattle.cml_board.proofs.ClosingLemmas.{closed_is_port}
use Rattle.cml_compact.specs.{stock, stocked, settled}
use Rattle.cml_compact.specs.Stages.{begins_at}
use Rattle.cml_compact.specs.Stepping.{Tells, Changes}
use Rattle.cml_compact.proofs.AnewLemmas.{changes_none, changes_as, changes_filled}

module _ {M : Type 0} where
  stocked_changes : (old : List (Entry M)) (start : Shown M) (name : ℕ) → Lawful start.history
      → facts_of start.history name ≡ stocked old name → Changes start start name (stocked old name)
  stocked_changes old start name lawful here =
      changes_as start start name (facts_of start.history name) (stocked old name) (changes_none start name lawful) here

  -- what is no port is open, and passes over nothing
  open_other : (old : List (Entry M)) (name : ℕ) → Lawful old → is_a is_port old name ≡ false → is_open old name ≡ true
  open_other old name lawful isnt = elim (cases_Bool (is_open old name)) [
    | inl opened ↦ opened
    | inr closed ↦ absurd (false≢true (sym isnt ∙ ap (λ k. option_map_or is_port k false) (closed_is_port old name lawful closed)))
  ]

  pub others_settle : (old : List (Entry M)) (name : ℕ) (value : Option M) → Lawful old → is_a is_port old name ≡ false
      → cond (is_a is_variable old name) (held old name) None ≡ value → record (stocked old name) { held = value } ≡ settled old name
  others_settle old name value lawful isnt holds =
      let stream = stock old (source_by name (origin_of old name)) in
      let begins = begins_at old (source_by name (origin_of old name)) name in
      facts_equal (record (stocked old name) { held = value }) (settled old name) refl (sym (open_other old name lawful isnt)) refl
      (sym (cond-false (is_a is_port old name && is_open old name)
      (take (length stream - length (owed old name) - begins) (drop begins stream)) []
      (ap (λ t. t && is_open old name) isnt))) (sym holds)

  -- a variable that holds nothing, a mailbox or a channel is as it should be
  pub none_settles : (old : List (Entry M)) (start : Shown M) (name : ℕ) → Lawful old → Lawful start.history → is_a is_port old name ≡ false
      → facts_of start.history name ≡ stocked old name → ((message : M) → held_by old name ≢ Some (Some message))
      → Changes start start name (settled old name)
  none_settles old start name lawful follows isnt here empty =
      changes_as start start name (facts_of start.history name) (settled old name) (changes_none start name follows)
      (here ∙ others_settle old name None lawful isnt (by_held (is_a is_variable old name) (held old name) refl refl))
    where
      by_held : (t : Bool) (value : Option M) → is_a is_variable old name ≡ t → held old name ≡ value → cond t value None ≡ None
      by_held false value is holds = refl
      by_held true None is holds = refl
      by_held true (Some message) is holds =
          absurd (empty message (cond-true (is_a is_variable old name) (Some (held old name)) None is ∙ ap Some holds))

  held_parts : (old : List (Entry M)) (name : ℕ) (message : M) → held_by old name ≡ Some (Some message)
      → (is_a is_variable old name ≡ true) × (held old name ≡ Some message)
  held_parts old name message holds = by_variable (is_a is_variable old name) refl
    where
      by_variable : (t : Bool) → is_a is_variable old name ≡ t → (is_a is_variable old name ≡ true) × (held old name ≡ Some message)
      by_variable true is = (is, same_Some _ _ (sym (cond-true (is_a is_variable old name) (Some (held old name)) None is) ∙ holds))
      by_variable false is =
          absurd (none-some (Some message) (sym (cond-false (is_a is_variable old name) (Some (held old name)) None is) ∙ holds))

  fill_settled : (old : List (Entry M)) (name : ℕ) (message : M) → Lawful old → is_a is_port old name ≡ false
      → held_by old name ≡ Some (Some message) → record (stocked old name) { held = Some message } ≡ settled old name
  fill_settled old name message lawful isnt holds =
      let parts = held_parts old name message holds in
      others_settle old name (Some message) lawful isnt (cond-true (is_a is_variable old name) (held old name) None parts.0 ∙ parts.1)

  pub fill_settles : (old : List (Entry M)) (start now : Shown M) (who : Who) (name : Name) (message : M) → Lawful old
      → Lawful start.history → is_a is_port old name.0 ≡ false → held_by old name.0 ≡ Some (Some message)
      → facts_of start.history name.0 ≡ stocked old name.0 → Tells start now who (call.Put name message)
      → Changes start now name.0 (settled old name.0)
  fill_settles old start now who name message lawful follows isnt holds here tells =
      changes_as start now name.0 (record (stocked old name.0) { held = Some message }) (settled old name.0)
      (changes_filled start start now who name message (stocked old name.0) (stocked_changes old start name.0 follows here)
      (ap (λ f. f.held) here) tells)
      (fill_settled old name.0 message lawful isnt holds)

  -- a variable that holds nothing, or no variable, holds no message
  pub empty_inside : (old : List (Entry M)) (name : ℕ) → Some None ≡ held_by old name → (message : M)
      → held_by old name ≢ Some (Some message)
  empty_inside old name is message holds = none-some message (same_Some None (Some message) (is ∙ holds))

  pub empty_outside : (old : List (Entry M)) (name : ℕ) → None ≡ held_by old name → (message : M) → held_by old name ≢ Some (Some message)
  empty_outside old name is message holds = none-some (Some message) (is ∙ holds)
