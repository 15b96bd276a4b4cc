-- What C gets of the machine of an exchange.
use Rattle.std.specs.Prelude.{ℕ, ◌≡◌, ◌⊎◌, true, false, List, [], ◌∷◌, Option, Some, None, Box, ⊤}
use Rattle.std.specs.declared.alloc.Global.{Global}
use Rattle.cml_store.specs.declared.exchange.Move.{Move}
use Rattle.cml_store.specs.declared.exchange.Move.TheVariants as move
use Rattle.cml_store.specs.declared.exchange.Way.{Way}
use Rattle.cml_store.specs.declared.exchange.Way.TheVariants as way
use Rattle.cml_store.specs.Exchange.{Crossing, begun, cancelled, counted, move_asked, move_begun, move_ended}
use Rattle.cml_store.specs.Machine.{State}
use Rattle.cml_c.specs.declared.code.Code.TheVariants.{Done, NoMemory, OutOfBounds}
use Rattle.cml_c.specs.declared.exchanges.Ending.{Ending}
use Rattle.cml_c.specs.declared.exchanges.Ending.TheVariants as ending
use Rattle.cml_c.specs.declared.exchanges.Reading.{Reading}
use Rattle.cml_c.specs.declared.exchanges.Reading.TheVariants as reading
use Rattle.cml_c.specs.declared.handle.Slot.{Slot}
use Rattle.cml_c.specs.declared.owned.Owned.{Owned}
use Rattle.cml_c.specs.declared.owned.Owned.TheVariants.{Numbers, Bytes}
use Rattle.cml_c.specs.declared.owned.Resource.{Resource}
use Rattle.cml_c.specs.declared.owned.Resource.TheVariants.{Exchange, Store}
use Rattle.cml_c.specs.declared.stores.SeryugoStep.{SeryugoStep}
use Rattle.cml_c.specs.Codes.{number}
use Rattle.cml_c.specs.Handles.{IsWrong, OnNumbers}
use Rattle.cml_c.specs.Opening.{WritesNew}

-- it is an exchange, and this becomes of it; else the call is wrong
abbrev pub OnCrossing : {M : Type 0} → (Crossing → Crossing → Type 0) → Type 0 → ℕ → Resource M → Resource M → Type 0
OnCrossing {M} becomes same code (Exchange old) new =
    (exchange : Box Crossing Global) × (new ≡ Exchange exchange) × becomes old.value exchange.value
OnCrossing becomes same code other new = IsWrong same code other new

abbrev pub OnExchange : (Crossing → Crossing → Type 0) → Type 0 → ℕ → Owned → Owned → Type 0
OnExchange becomes same code old new = OnNumbers (OnCrossing becomes) same code old new

-- the machine of a file that a handle leads to
abbrev pub machine_of : {M : Type 0} → Resource M → Option State
machine_of (Store store) = Some store.value
machine_of other = None

abbrev pub machine_in : Owned → Option State
machine_in (Numbers resource) = machine_of resource
machine_in (Bytes resource) = None

-- a handle to the machine of an exchange that begins is written; or there is no memory, and the slot is as it was
abbrev pub OpensExchange : (taken short code : ℕ) → Slot → Slot → Type 0
OpensExchange taken short code old new =
    WritesNew (λ exchange. exchange ≡ begun taken short) (λ exchange. Numbers (Exchange exchange)) code new
    ⊎ ((code ≡ number NoMemory) × (new ≡ old))

-- a step as C has it
abbrev pub shown_move : Move → SeryugoStep
shown_move move.Nothing = record { kind = 0; from = 0; to = 0 }
shown_move move.SyncFolder = record { kind = 5; from = 0; to = 0 }
shown_move move.Rename = record { kind = 6; from = 0; to = 0 }

-- the next step begins by the machines of both files, and is written
pub record MovesIn (from to : State) (after : SeryugoStep) (code : ℕ) (old new : Crossing) : Type 0 where
  pub told : code ≡ number Done
  pub begins : new ≡ move_begun from to old
  pub written : after ≡ shown_move (move_asked from to old)

abbrev pub MovesBy : (from to : State) → (before after : SeryugoStep) → (code : ℕ) → Owned → Owned → Type 0
MovesBy from to before after code old new = OnExchange (MovesIn from to after code) (after ≡ before) code old new

-- both handles lead to machines, and it does; else the call is wrong
abbrev pub Moves : (from to : Option State) → (before after : SeryugoStep) → (code : ℕ) → Owned → Owned → Type 0
Moves (Some from) (Some to) before after code old new = MovesBy from to before after code old new
Moves from to before after code old new = IsWrong (after ≡ before) code old new

-- how a step ends, in the order of the numbers
abbrev pub endings : List Ending
endings = ending.Failed ∷ ending.Done ∷ ending.Cancelled ∷ []

abbrev pub ended_by : Ending → Crossing → Crossing
ended_by ending.Failed e = move_ended false e
ended_by ending.Done e = move_ended true e
ended_by ending.Cancelled e = cancelled e

abbrev pub EndsExchangeIn : Ending → (code : ℕ) → Crossing → Crossing → Type 0
EndsExchangeIn ending code old new = (code ≡ number Done) × (new ≡ ended_by ending old)

-- the step ends so; or no ending has such a number
abbrev pub EndsExchange : Option Ending → (code : ℕ) → Owned → Owned → Type 0
EndsExchange (Some ending) code old new = OnExchange (EndsExchangeIn ending code) ⊤ code old new
EndsExchange None code old new = (code ≡ number OutOfBounds) × (new ≡ old)

-- what is read off an exchange, in the order of the numbers
abbrev pub readings : List Reading
readings = reading.Synced ∷ reading.Way ∷ []

abbrev pub way_number : Way → ℕ
way_number way.Beside = 0
way_number way.Renaming = 0
way_number way.Renamed = 0
way_number way.Naming = 0
way_number way.Over = 1
way_number way.Left = 3
way_number way.Lost = 2

abbrev pub reading_of : Reading → Crossing → (from to : State) → ℕ
reading_of reading.Synced e from to = counted e from.synced to.synced
reading_of reading.Way e from to = way_number e.way

abbrev pub TellsExchangeIn : Reading → (from to : State) → (after code : ℕ) → Crossing → Crossing → Type 0
TellsExchangeIn reading from to after code old new =
    (code ≡ number Done) × (after ≡ reading_of reading old from to) × (new ≡ old)

abbrev pub TellsExchangeBy : Reading → (from to : State) → (before after code : ℕ) → Owned → Owned → Type 0
TellsExchangeBy reading from to before after code old new =
    OnExchange (TellsExchangeIn reading from to after code) (after ≡ before) code old new

-- it is written; or nothing has such a number; or a handle leads to something else
abbrev pub TellsExchange : Option Reading → (from to : Option State) → (before after code : ℕ) → Owned → Owned → Type 0
TellsExchange (Some reading) (Some from) (Some to) before after code old new =
    TellsExchangeBy reading from to before after code old new
TellsExchange (Some reading) from to before after code old new = IsWrong (after ≡ before) code old new
TellsExchange None from to before after code old new = (code ≡ number OutOfBounds) × (after ≡ before) × (new ≡ old)
