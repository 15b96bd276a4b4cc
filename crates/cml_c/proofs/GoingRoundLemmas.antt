-- An entry that C was shown is the same entry where C feeds it to a checker.
use Rattle.std.proofs.Common.{◌≡◌, ℕ, List, [], Option, Some, None, slice_get, refl, ap, ◌∙◌}
use Rattle.std.specs.Prelude.{unwrap_or}
use Rattle.cml_board.specs.{message_of, Call, Name, Entry, Reply, Who}
use Rattle.cml_board.specs.declared.call.Call.TheVariants as call
use Rattle.cml_board.specs.declared.entry.Reply.TheVariants as reply
use Rattle.cml_board.specs.declared.entry.Who.TheVariants as who
use Rattle.cml_c.specs.{who_in, call_at, replies, entry_of, entry_in, entry_with, parts_of, or_empty, maker_of, call_kind, call_object}
use Rattle.cml_c.specs.{given_by, reply_kind, reply_name, reply_message, or_zero, flat}

who_round : (who : Who) → who_in (maker_of who) ≡ Some who
who_round (who.Seat number) = refl
who_round (who.Lane number) = refl
who_round (who.Feed number) = refl

-- the call has its own message, or any other where it has none
call_round : {M : Type 0} (other : M) (call : Call M)
    → call_at (call_kind call) (record { 0 = call_object call }) (unwrap_or (message_of call) other) ≡ Some call
call_round other call.NewMailbox = refl
call_round other call = refl

zero_is_other : (message : Option ℕ) → or_zero message ≡ unwrap_or message 0
zero_is_other (Some message) = refl
zero_is_other None = refl

empty_is_other : (message : Option (List ℕ)) → or_empty message ≡ unwrap_or message []
empty_is_other (Some message) = refl
empty_is_other None = refl

number_round : (reply : Reply ℕ) → slice_get (replies (record { 0 = given_by reply }) (given_by reply)) (reply_kind reply) ≡ Some reply
number_round reply.Done = refl
number_round (reply.Made name) = refl
number_round (reply.Got message) = refl
number_round reply.Nothing = refl
number_round reply.Put = refl
number_round reply.Closed = refl

bytes_round : (reply : Reply (List ℕ))
    → slice_get (replies (record { 0 = reply_name reply }) (or_empty (reply_message reply))) (reply_kind reply) ≡ Some reply
bytes_round reply.Done = refl
bytes_round (reply.Made name) = refl
bytes_round (reply.Got message) = refl
bytes_round reply.Nothing = refl
bytes_round reply.Put = refl
bytes_round reply.Closed = refl

pub entry_goes_round : (entry : Entry ℕ) → entry_in (flat entry) ≡ Some entry
entry_goes_round entry =
    let object : Name = record { 0 = call_object entry.call } in
    let given : call_at (call_kind entry.call) object (or_zero (message_of entry.call)) ≡ Some entry.call
    = ap (call_at (call_kind entry.call) object) (zero_is_other (message_of entry.call)) ∙ call_round 0 entry.call in
    λ i. entry_of (who_round entry.who i) (given i) (number_round entry.reply i)

pub bytes_go_round : (entry : Entry (List ℕ)) → entry_with (parts_of entry) ≡ Some entry
bytes_go_round entry =
    let object : Name = record { 0 = call_object entry.call } in
    let given : call_at (call_kind entry.call) object (or_empty (message_of entry.call)) ≡ Some entry.call
    = ap (call_at (call_kind entry.call) object) (empty_is_other (message_of entry.call)) ∙ call_round [] entry.call in
    λ i. entry_of (who_round entry.who i) (given i) (bytes_round entry.reply i)
