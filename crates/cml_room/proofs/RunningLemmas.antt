-- Who was returned in a run of calls, and who may sleep after it.
use Rattle.std.proofs.Common.{◌≡◌, ◌⊎◌, ◌<◌, ℕ, zero, suc, arith, length, inl, inr, Bool, true, false, List, [], ◌∷◌, slice_get, Option, Some, None, refl, sym, ap, ◌∙◌}
use Rattle.std.specs.Prelude.{◌&&◌, ◌||◌, not}
use Rattle.std.proofs.lemmas.Option.{none-some, same_Some, slice_get_within}
use Rattle.std.proofs.lemmas.Bool.{true≢false, false≢true, eq-eqb, ne_eqb}
use Rattle.cml_board.specs.{Want}
use Rattle.cml_room.specs.{State, Notice, RoomShown, is_parked, has_notice, is_due, state_of, NoneDue, AllSleepRightly, RoomCall, AskOf}
use Rattle.cml_room.specs.{NextDue, Other, AreMade, HasAsked, NobodyForgotten, AnotherAsksNext, AllWouldWait, is_returned, woken_in, was_woken}
use Rattle.cml_room.specs.declared.state.State.TheVariants.{Free, Parked, Left}
use Rattle.cml_lanes.proofs.SlotsLemmas.{this_or_other}
use Rattle.cml_room.specs.declared.notice.Notice.TheVariants.{Nothing, Due, Woken}

-- who has no notice wasn't woken
unwoken : (seen : Option Notice) → has_notice seen ≡ false → woken_in seen ≡ false
unwoken None none = refl
unwoken (Some Nothing) none = refl
unwoken (Some Due) none = refl
unwoken (Some Woken) none = absurd (true≢false none)

true_or_false : (b : Bool) → (b ≡ true) ⊎ (b ≡ false)
true_or_false true = inl refl
true_or_false false = inr refl

-- who is due waits
due_waits : (seen : Option State) (due : Bool) → (is_parked seen && due) ≡ true → (on : Want) × (seen ≡ Some (Parked on))
due_waits None due is = absurd (false≢true is)
due_waits (Some Free) due is = absurd (false≢true is)
due_waits (Some Left) due is = absurd (false≢true is)
due_waits (Some (Parked on)) due is = (on, refl)

-- who is free or has left doesn't wait
free_parks : (on : Want) → Some Free ≡ Some (Parked on) → ⊥
free_parks on is = absurd (true≢false (sym (ap is_parked is)))

left_parks : (on : Want) → Some Left ≡ Some (Parked on) → ⊥
left_parks on is = absurd (true≢false (sym (ap is_parked is)))

module _ {M : Type 0} where
  -- a seat counts as woken just if it was returned
  pub woken_returned : (calls : List RoomCall) (first last : RoomShown M) → NoneDue first → AreMade calls first last
      → (seat : ℕ) → was_woken last.notices seat ≡ is_returned calls seat
  woken_returned [] first last none same seat =
      ap (λ (r : RoomShown M). was_woken r.notices seat) same ∙ unwoken (slice_get first.notices seat) (none.each seat)
  woken_returned (AskOf own ∷ earlier) first last none run seat = elim (this_or_other seat own) [
    | inl here ↦
        ap (λ n. was_woken last.notices n) here
        ∙ (ap woken_in run.2.quiet
        ∙ sym (ap (λ (b : Bool). not b && is_returned earlier seat) (eq-eqb seat own here)))
    | inr other ↦
        run.2.others seat other
        ∙ (woken_returned earlier first run.0 none run.1 seat
        ∙ sym (ap (λ (b : Bool). not b && is_returned earlier seat) (ne_eqb seat own other)))
  ]
  woken_returned (NextDue None ∷ earlier) first last none run seat =
      run.2.only seat (λ is. none-some seat is) ∙ woken_returned earlier first run.0 none run.1 seat
  woken_returned (NextDue (Some given) ∷ earlier) first last none run seat = elim (this_or_other seat given) [
    | inl here ↦
        ap (λ n. was_woken last.notices n) here
        ∙ (run.2.first.2
        ∙ sym (ap (λ (b : Bool). b || is_returned earlier seat) (eq-eqb seat given here)))
    | inr other ↦
        run.2.only seat (λ is. other (sym (same_Some given seat is)))
        ∙ (woken_returned earlier first run.0 none run.1 seat
        ∙ sym (ap (λ (b : Bool). b || is_returned earlier seat) (ne_eqb seat given other)))
  ]
  woken_returned (Other ∷ earlier) first last none run seat = run.2 seat ∙ woken_returned earlier first run.0 none run.1 seat

  -- a seat is returned again
  pub returned_anew : (calls : List RoomCall) (first last : RoomShown M) (seat : ℕ) → NoneDue first
      → AreMade (NextDue (Some seat) ∷ calls) first last
      → is_returned calls seat ≡ false
  returned_anew calls first last seat none run = sym (woken_returned calls first run.0 none run.1 seat) ∙ run.2.first.1

  -- who has asked isn't due
  pub asked_undue : (seat : ℕ) (old new : RoomShown M) → HasAsked seat old.notices new.notices
      → new.all_due ≡ false → is_due new seat ≡ false
  asked_undue seat old new asked none =
      ap (λ (n : Option Notice). is_parked (state_of new seat) && (new.all_due || has_notice n)) asked.quiet
      ∙ (ap (λ (b : Bool). is_parked (state_of new seat) && (b || false)) none ∙ never (is_parked (state_of new seat)))
    where
      never : (b : Bool) → (b && false) ≡ false
      never true = refl
      never false = refl

  -- where a `next_due` returned none last, each seat that waits was returned, or may sleep
  pub nobody_forgotten : (calls : List RoomCall) (first last : RoomShown M) → NoneDue first
      → AreMade (NextDue None ∷ calls) first last → AllSleepRightly last
      → NobodyForgotten calls last
  nobody_forgotten calls first last none run asleep = λ seat on waits. elim (true_or_false (is_due last seat)) [
    | inl due ↦ inl (sym (returned seat) ∙ run.2.all seat due)
    | inr isnt ↦
        let rightly = asleep seat on waits isnt in
        inr (record {
          rests = elim rightly.rests [
            | inl would ↦ inl would
            | inr mate ↦ inr
                (record { seat = mate.number; waits = mate.waits; returned = sym (returned mate.number) ∙ run.2.all mate.number mate.due })
          ];
          moves = rightly.moves;
        })
  ]
    where
      returned : (seat : ℕ) → was_woken last.notices seat ≡ is_returned calls seat
      returned seat = woken_returned (NextDue None ∷ calls) first last none run seat

  -- a seat among the first ones waits that was returned and has not asked, or none of them does
  among : (calls : List RoomCall) (last : RoomShown M) (count : ℕ)
      → AnotherAsksNext calls last
      ⊎ ((seat : ℕ) (on : Want) → seat < count → state_of last seat ≡ Some (Parked on) → is_returned calls seat ≡ false)
  among calls last zero = inr (λ seat on below waits. absurd (omega (arith, below)))
  among calls last (suc count) = elim (among calls last count) [
    | inl one ↦ inl one
    | inr none ↦ elim (true_or_false (is_returned calls count)) [
      | inl returned ↦ by_state none returned (state_of last count) refl
      | inr isnt ↦ inr (λ seat on below waits. elim (this_or_other seat count) [
        | inl here ↦ ap (is_returned calls) here ∙ isnt
        | inr other ↦ none seat on (omega (arith, below, other)) waits
      ])
    ]
  ]
    where
      None_below : Type 0
      None_below = (seat : ℕ) (on : Want) → seat < count → state_of last seat ≡ Some (Parked on) → is_returned calls seat ≡ false

      rest : None_below → ((on : Want) → state_of last count ≡ Some (Parked on) → ⊥)
          → (seat : ℕ) (on : Want) → seat < suc count → state_of last seat ≡ Some (Parked on) → is_returned calls seat ≡ false
      rest none never seat on below waits = elim (this_or_other seat count) [
        | inl here ↦ absurd (never on (ap (state_of last) (sym here) ∙ waits))
        | inr other ↦ none seat on (omega (arith, below, other)) waits
      ]

      by_state : None_below → is_returned calls count ≡ true → (seen : Option State) → state_of last count ≡ seen
          → AnotherAsksNext calls last
          ⊎ ((seat : ℕ) (on : Want) → seat < suc count → state_of last seat ≡ Some (Parked on) → is_returned calls seat ≡ false)
      by_state none returned None is = inr (rest none (λ on waits. none-some (Parked on) (sym is ∙ waits)))
      by_state none returned (Some Free) is = inr (rest none (λ on waits. free_parks on (sym is ∙ waits)))
      by_state none returned (Some Left) is = inr (rest none (λ on waits. left_parks on (sym is ∙ waits)))
      by_state none returned (Some (Parked on)) is = inl (on, record { seat = count; waits = is; returned = returned })

  -- where the last call is a `next_due`, a seat that was returned has yet to ask, or each seat that waits would wait again
  pub one_is_enough : (calls : List RoomCall) (given : Option ℕ) (first last : RoomShown M) → NoneDue first
      → AreMade (NextDue given ∷ calls) first last → AllSleepRightly last
      → AnotherAsksNext (NextDue given ∷ calls) last ⊎ AllWouldWait last
  one_is_enough calls None first last none run asleep = elim (among (NextDue None ∷ calls) last (length last.seats)) [
    | inl one ↦ inl one
    | inr asked ↦ inr (λ seat on waits. elim (nobody_forgotten calls first last none run asleep seat on waits) [
      | inl returned ↦ absurd (true≢false (sym returned ∙ asked seat on (slice_get_within last.seats seat (Parked on) waits) waits))
      | inr may ↦ (
        elim may.rests [
          | inl would ↦ would
          | inr mate ↦ absurd
              (true≢false (sym mate.returned ∙ asked mate.seat on (slice_get_within last.seats mate.seat (Parked on) mate.waits) mate.waits))
        ],
        may.moves,
      )
    ])
  ]
  one_is_enough calls (Some given) first last none run asleep =
      let waits = due_waits (state_of run.0 given) (run.0.all_due || has_notice (slice_get run.0.notices given)) run.2.first.0 in
      let here : state_of last given ≡ Some (Parked waits.0) = ap (λ (s : List State). slice_get s given) run.2.seats ∙ waits.1 in
      inl (
        waits.0,
        record { seat = given; waits = here; returned = ap (λ (b : Bool). b || is_returned calls given) (eq-eqb given given refl) },
      )
