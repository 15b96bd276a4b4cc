-- A call gives a message that needs a block just if the board's readers say that one is there.
use Rattle.std.proofs.Common.{◌≡◌, ℕ, ◌<◌, Bool, true, false, cond, List, [], ◌∷◌, length, Option, Some, None}
use Rattle.std.proofs.Common.{inl, inr, refl, sym, ap, subst, ◌∙◌, arith}
use Rattle.std.specs.Prelude.{◌&&◌, unwrap_or, IsSome, IfSome, IsTrue}
use Rattle.std.specs.Option.{option_map_or}
use Rattle.std.proofs.lemmas.Bool.{false≢true, cases_lt}
use Rattle.std.proofs.lemmas.Option.{same_Some, none-some}
use Rattle.cml_board.proofs.SuitingLemmas.{answer_suits}
use Rattle.cml_board.specs.{only_if, held, Fits, answer, is_open, kind_of, owed, received, given, Call, Entry, Reply}
use Rattle.cml_board.specs.{entries_in, outcome_of}
use Rattle.cml_board.specs.declared.outcome.Response.{Response}
use Rattle.cml_board.specs.declared.call.Call.TheVariants.{Recv, Poll, Get, GetPoll, Take, TakePoll, Swap}
use Rattle.cml_board.specs.declared.entry.Reply.TheVariants.{Got, Nothing, Closed}
use Rattle.cml_board.specs.declared.outcome.Response.TheVariants as response
use Rattle.cml_calls.specs.{is_receiver, is_variable, is_mvar, Kind}
use Rattle.cml_calls.specs.declared.kind.Kind.TheVariants.{MVar}
use Rattle.cml_room.specs.{Asks, RoomShown}
use Rattle.cml_c.specs.{MayMake, chunk, MayBeLong, IsGiven, NeedsBlock, IsOwed, HoldsLong, IsThere, IsShortReply, IsShortResponse}

abbrev Message : Type 0
Message = List ℕ

-- the message of a reply, or another one
abbrev message_or : Message → Reply Message → Message
message_or other (Got message) = message
message_or other reply = other

abbrev is_got : Reply Message → Bool
is_got (Got message) = true
is_got reply = false

same_message : (one other : Message) → Some (Got one) ≡ Some (Got other) → one ≡ other
same_message one other same = ap (message_or one) (same_Some _ _ same)

-- a reply without a message is not one with a message
not_got : (reply : Reply Message) (message : Message) → is_got reply ≡ false → Some reply ≡ Some (Got message) → ⊥
not_got reply message none same = false≢true (sym none ∙ ap is_got (same_Some _ _ same))

-- the object's kind is one of those that take the call
is_one : (test : Kind → Bool) (kind : Option Kind) → IsSome kind → IfSome kind (λ k. IsTrue (test k)) → option_map_or test kind false ≡ true
is_one test (Some kind) some takes = takes
is_one test None some takes = absurd (false≢true some)

mvar_is_one : (kind : Option Kind) → IsSome kind → IfSome kind (λ k. IsTrue (is_mvar k)) → option_map_or is_variable kind false ≡ true
mvar_is_one (Some MVar) some takes = refl
mvar_is_one (Some kind) some takes = absurd (false≢true takes)
mvar_is_one None some takes = absurd (false≢true some)

-- what a receive or a poll gives is owed
received_owed : (receives opens : Bool) (owes : List Message) (message : Message) → receives ≡ true
    → cond opens (received owes) (Some Closed) ≡ Some (Got message) → IsOwed (only_if (receives && opens) (length owes))
received_owed true true [] message is gives = absurd (none-some _ gives)
received_owed true true (first ∷ rest) message is gives = omega arith
received_owed true false owes message is gives = absurd (not_got Closed message refl gives)
received_owed false opens owes message is gives = absurd (false≢true is)

polled_owed : (receives opens : Bool) (owes : List Message) (message : Message) → receives ≡ true
    → cond opens (Some (unwrap_or (received owes) Nothing)) (Some Closed) ≡ Some (Got message)
    → IsOwed (only_if (receives && opens) (length owes))
polled_owed true true [] message is gives = absurd (not_got Nothing message refl gives)
polled_owed true true (first ∷ rest) message is gives = omega arith
polled_owed true false owes message is gives = absurd (not_got Closed message refl gives)
polled_owed false opens owes message is gives = absurd (false≢true is)

-- and what is owed is given
owed_received : (receives opens : Bool) (owes : List Message) → IsOwed (only_if (receives && opens) (length owes))
    → (message : Message) × (cond opens (received owes) (Some Closed) ≡ Some (Got message))
owed_received true true [] is = absurd (omega arith)
owed_received true true (first ∷ rest) is = (first, refl)
owed_received true false owes is = absurd is
owed_received false opens owes is = absurd is

owed_polled : (receives opens : Bool) (owes : List Message) → IsOwed (only_if (receives && opens) (length owes))
    → (message : Message) × (cond opens (Some (unwrap_or (received owes) Nothing)) (Some Closed) ≡ Some (Got message))
owed_polled true true [] is = absurd (omega arith)
owed_polled true true (first ∷ rest) is = (first, refl)
owed_polled true false owes is = absurd is
owed_polled false opens owes is = absurd is

-- the same of what a variable holds
looked_held : (test : Bool) (holds : Option Message) (message : Message) → test ≡ true → 78 < length message
    → given holds ≡ Some (Got message) → HoldsLong (only_if test holds)
looked_held true None message is long gives = absurd (none-some _ gives)
looked_held true (Some one) message is long gives = subst (λ m. 78 < length m) (sym (same_message one message gives)) long
looked_held false holds message is long gives = absurd (false≢true is)

polled_held : (test : Bool) (holds : Option Message) (message : Message) → test ≡ true → 78 < length message
    → Some (unwrap_or (given holds) Nothing) ≡ Some (Got message) → HoldsLong (only_if test holds)
polled_held true None message is long gives = absurd (not_got Nothing message refl gives)
polled_held true (Some one) message is long gives = subst (λ m. 78 < length m) (sym (same_message one message gives)) long
polled_held false holds message is long gives = absurd (false≢true is)

held_looked : (test : Bool) (holds : Option Message) → HoldsLong (only_if test holds)
    → (message : Message) × (given holds ≡ Some (Got message)) × (78 < length message)
held_looked true None is = absurd is
held_looked true (Some one) is = (one, refl, is)
held_looked false holds is = absurd is

held_polled : (test : Bool) (holds : Option Message) → HoldsLong (only_if test holds)
    → (message : Message) × (Some (unwrap_or (given holds) Nothing) ≡ Some (Got message)) × (78 < length message)
held_polled true None is = absurd is
held_polled true (Some one) is = (one, refl, is)
held_polled false holds is = absurd is

-- a message that is given is there
pub given_there : (history : List (Entry Message)) (call : Call Message) → Fits history call → IsGiven history call → IsThere history call
given_there history (Recv name) fits given = received_owed _ (is_open history name.0) (owed history name.0) given.message
    (is_one is_receiver (kind_of history name.0) fits.0 fits.1) given.answer
given_there history (Poll name) fits given = polled_owed _ (is_open history name.0) (owed history name.0) given.message
    (is_one is_receiver (kind_of history name.0) fits.0 fits.1) given.answer
given_there history (Get name) fits given =
    looked_held _ (held history name.0) given.message (is_one is_variable (kind_of history name.0) fits.0 fits.1) given.long given.answer
given_there history (GetPoll name) fits given =
    polled_held _ (held history name.0) given.message (is_one is_variable (kind_of history name.0) fits.0 fits.1) given.long given.answer
given_there history (Take name) fits given =
    looked_held _ (held history name.0) given.message (mvar_is_one (kind_of history name.0) fits.0 fits.1) given.long given.answer
given_there history (TakePoll name) fits given =
    polled_held _ (held history name.0) given.message (mvar_is_one (kind_of history name.0) fits.0 fits.1) given.long given.answer
given_there history (Swap name message) fits given =
    looked_held _ (held history name.0) given.message (mvar_is_one (kind_of history name.0) fits.0 fits.1) given.long given.answer
given_there history call fits given = absurd (false≢true (answer_suits history call (Got given.message) given.answer))

-- and one that is there is given
of_owed : (history : List (Entry Message)) (call : Call Message) → ((message : Message) → MayBeLong call message)
    → (message : Message) × (answer history call ≡ Some (Got message)) → IsGiven history call
of_owed history call long gives = record { message = gives.0; answer = gives.1; long = long gives.0 }

pub there_given : (history : List (Entry Message)) (call : Call Message) → IsThere history call → IsGiven history call
there_given history (Recv name) is =
    of_owed history (Recv name) (λ m. tt) (owed_received _ (is_open history name.0) (owed history name.0) is)
there_given history (Poll name) is = of_owed history (Poll name) (λ m. tt) (owed_polled _ (is_open history name.0) (owed history name.0) is)
there_given history (Get name) is = let gives = held_looked _ (held history name.0) is in
    record { message = gives.0; answer = gives.1; long = gives.2 }
there_given history (GetPoll name) is = let gives = held_polled _ (held history name.0) is in
    record { message = gives.0; answer = gives.1; long = gives.2 }
there_given history (Take name) is = let gives = held_looked _ (held history name.0) is in
    record { message = gives.0; answer = gives.1; long = gives.2 }
there_given history (TakePoll name) is = let gives = held_polled _ (held history name.0) is in
    record { message = gives.0; answer = gives.1; long = gives.2 }
there_given history (Swap name message) is = let gives = held_looked _ (held history name.0) is in
    record { message = gives.0; answer = gives.1; long = gives.2 }
there_given history call is = absurd is

-- each message of more than 78 bytes may be long
may_be_long : (call : Call Message) (message : Message) → 78 < length message → MayBeLong call message
may_be_long (Recv name) message long = tt
may_be_long (Poll name) message long = tt
may_be_long call message long = long

-- a call that needs no block gives no long message
pub gives_short : (again : Bool) (seat : ℕ) (call : Call Message) (old new : RoomShown Message) (becomes : Response Message)
    → (NeedsBlock again seat call old → ⊥)
    → Asks chunk false (MayMake again old seat call) old new seat call (outcome_of (entries_in old.board.history) call becomes)
    → IsShortResponse becomes
gives_short again seat call old new (response.Reply told) none asks = by_reply told asks.1.applies.2
  where
    by_reply : (reply : Reply Message) → answer old.board.history call ≡ Some reply → IsShortReply reply
    by_reply (Got message) gives = elim (cases_lt 78 (length message)) [
      | inl long ↦ absurd (none (record {
        may = asks.0;
        gives = record {
          fits = asks.1.applies.0;
          space = asks.1.applies.1;
          given = record { message = message; answer = gives; long = may_be_long call message long };
        };
      }))
      | inr short ↦ short
    ]
    by_reply reply gives = tt
gives_short again seat call old new (response.WouldWait back) none asks = tt
gives_short again seat call old new (response.Refused refusal back) none asks = tt
