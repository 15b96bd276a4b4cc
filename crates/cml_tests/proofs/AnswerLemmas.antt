-- What a floor answers suits the call, and is the answer to that call.
use Rattle.std.proofs.Common.{◌≡◌, ℕ, List, Bool, true, false, Some, refl}
use Rattle.cml_board.specs.{Call, answer}
use Rattle.cml_board.specs.Answered.{Answered}
use Rattle.cml_board.specs.declared.outcome.Outcome.TheVariants as outcome
use Rattle.cml_board.specs.declared.outcome.Refusal.TheVariants.{WrongKind}
use Rattle.cml_board.proofs.SuitingLemmas.{answer_suits}
use Rattle.cml_lanes.specs.{FloorShown, is_barred}
use Rattle.cml_threads.specs.{suits}

where_it_is_not : {A : Type 0} (t : Bool) → (t ≡ true → ⊥) → (t ≡ false → A) → A
where_it_is_not true is isnt = absurd (is refl)
where_it_is_not false is isnt = isnt refl

-- what a floor answers suits the call: a call that a feed's port bars is refused
pub floor_suits : (old new : FloorShown (List ℕ)) (c : Call (List ℕ)) (a : Answered (List ℕ))
    → (is_barred old.feeds c ≡ true → (outcome.Answered a ≡ outcome.Refused WrongKind c) × (new ≡ old))
    → (is_barred old.feeds c ≡ false → answer old.board.history c ≡ Some a.reply) → suits c a.reply ≡ true
floor_suits old new c a barred answered =
    where_it_is_not (is_barred old.feeds c)
    (λ is. let none : outcome.Answered a ≡ outcome.Refused WrongKind c = (barred is).0 in cc)
    (λ isnt. answer_suits old.board.history c a.reply (answered isnt))

-- and is the answer to the call that was made
pub floor_call : (old new : FloorShown (List ℕ)) (c : Call (List ℕ)) (a : Answered (List ℕ))
    → (is_barred old.feeds c ≡ true → (outcome.Answered a ≡ outcome.Refused WrongKind c) × (new ≡ old))
    → (is_barred old.feeds c ≡ false → a.call ≡ c) → a.call ≡ c
floor_call old new c a barred answered =
    where_it_is_not (is_barred old.feeds c)
    (λ is. let none : outcome.Answered a ≡ outcome.Refused WrongKind c = (barred is).0 in cc)
    answered
