-- A seat's call as data: the call that C asks for, and what is written of it.
use Rattle.std.specs.Prelude.{ℕ, ◌≡◌, Bool, true, false, List, Option, Some, None}
use Rattle.cml_board.specs.{Call, Want, has_message, want_in}
use Rattle.cml_room.specs.{RoomShown}
use Rattle.cml_c.specs.declared.code.Code.{Code}
use Rattle.cml_c.specs.declared.code.Code.TheVariants.{OutOfBounds, WrongHandle}
use Rattle.cml_c.specs.declared.door.SeryugoAsked.{SeryugoAsked}
use Rattle.cml_c.specs.declared.messages.SeryugoBytes.{SeryugoBytes}
use Rattle.cml_c.specs.declared.owned.Owned.{Owned}
use Rattle.cml_c.specs.declared.owned.Owned.TheVariants.{Numbers, Bytes}
use Rattle.cml_c.specs.declared.owned.Resource.{Resource}
use Rattle.cml_c.specs.Codes.{number}
use Rattle.cml_c.specs.Handles.{OnRoom}
use Rattle.cml_c.specs.Asking.{Makes, written_outcome}
use Rattle.cml_c.specs.Messages.{GivesBytes, MakesBytes}
use Rattle.cml_c.specs.Checkers.{call_at}

-- the call that C asks for, with this message, if it takes the room's messages; or its kind is none
abbrev pub call_asked : {M : Type 0} → Bool → SeryugoAsked → M → Option (Call M)
call_asked true asked message = call_at asked.kind (record { 0 = asked.object }) message
call_asked false asked message = None

-- why there is no such call: its kind is none, or it is for rooms with other messages
abbrev pub no_call : Bool → Code
no_call true = OutOfBounds
no_call false = WrongHandle

-- a call that sends a message, and what it waits for
abbrev pub SendsFor : {M : Type 0} → Option (Call M) → Option Want → Type 0
SendsFor (Some call) want = (has_message call ≡ true) × (want_in call ≡ want)
SendsFor None want = ⊥

-- this becomes of the call; or there is none, for this reason, and nothing is changed
abbrev pub OrNone : {M : Type 0} → (Call M → RoomShown M → RoomShown M → Type 0) → Code → ℕ → Type 0 → Option (Call M)
    → RoomShown M → RoomShown M → Type 0
OrNone becomes reason code same (Some call) old new = becomes call old new
OrNone becomes reason code same None old new = (code ≡ number reason) × same × (new ≡ old)

-- the call is made in a room of numbers, and the name or the number that it gives is written
abbrev pub MakesNumberAsked : SeryugoAsked → ℕ → ℕ → ℕ → RoomShown ℕ → RoomShown ℕ → Type 0
MakesNumberAsked asked before after code = OrNone
    (λ call. Makes true asked.is_again asked.seat call code (λ becomes. after ≡ written_outcome before becomes))
    (no_call asked.takes_numbers) code (after ≡ before) (call_asked asked.takes_numbers asked asked.number)

-- it is made in a room of bytes, and the name that it gives is written, or the message is handed over
abbrev pub MakesBytesAsked : SeryugoAsked → ℕ → ℕ → SeryugoBytes → SeryugoBytes → ℕ → RoomShown (List ℕ) → RoomShown (List ℕ) → Type 0
MakesBytesAsked asked before after from to code = OrNone
    (λ call. MakesBytes asked.is_again asked.seat asked.sent.now call code (GivesBytes before after from to) ((after ≡ before) × (to ≡ from)))
    (no_call asked.takes_bytes) code ((after ≡ before) × (to ≡ from)) (call_asked asked.takes_bytes asked asked.sent.now)

-- a seat's call, in whichever room a handle leads to
abbrev pub MakesAsked : SeryugoAsked → ℕ → ℕ → SeryugoBytes → SeryugoBytes → ℕ → Owned → Owned → Type 0
MakesAsked asked before after from to code (Numbers old) new = (left : Resource ℕ) × (new ≡ Numbers left)
    × (to ≡ from) × OnRoom (MakesNumberAsked asked before after code) (after ≡ before) code old left
MakesAsked asked before after from to code (Bytes old) new = (left : Resource (List ℕ)) × (new ≡ Bytes left)
    × OnRoom (MakesBytesAsked asked before after from to code) ((after ≡ before) × (to ≡ from)) code old left
