-- What a board really holds: its objects, each log seen as what it shows.
use Rattle.std.specs.Prelude.{ℕ, zero, suc, ◌≡◌, ◌+◌, ◌-◌, ◌<◌, ◌≤◌, List, [], ◌∷◌, ◌++◌, length, map, slice_get}
use Rattle.std.specs.Prelude.{slice_set, Option, Some, None}
use Rattle.std.specs.Option.{option_map, option_and_then}
use Rattle.cml_log.specs.Log.{Log}
use Rattle.cml_log.specs.{empty_log, next_of, IsOpen, place_of, owed_items, trimmed, with_item, with_place, Opens}
use Rattle.cml_board.specs.declared.object.Object.{Object}
use Rattle.cml_board.specs.declared.object.Object.TheVariants.{Mailbox, Channel, Port, Variable}
use Rattle.cml_board.specs.declared.object.Form.{Form}
use Rattle.cml_board.specs.declared.object.Reading.{Reading}
use Rattle.cml_board.specs.declared.object.Reading.TheVariants.{Open, Closed}

-- an object with its log changed by a function
abbrev pub map_log : {M A B : Type 0} → (A → B) → Object M A → Object M B
map_log f (Mailbox log key) = Mailbox (f log) key
map_log f (Channel log) = Channel (f log)
map_log f (Port port) = Port port
map_log f (Variable form held) = Variable form held

abbrev pub seen_all : {M A B : Type 0} → (A → B) → List (Object M A) → List (Object M B)
seen_all log objects = map (map_log log) objects

-- the log in an object
abbrev pub log_in : {M A : Type 0} → Object M A → Option A
log_in (Mailbox log key) = Some log
log_in (Channel log) = Some log
log_in object = None

abbrev pub key_in : Reading → Option ℕ
key_in (Open key) = Some key
key_in (Closed got) = None

-- where the object of this name reads: the object whose log it is, and the cursor's key
abbrev pub cursor_in : {M A : Type 0} → ℕ → Object M A → Option (ℕ × ℕ)
cursor_in name (Mailbox log key) = Some (name, key)
cursor_in name (Port port) = option_map (λ key. (port.channel.0, key)) (key_in port.reading)
cursor_in name object = None

-- what a variable holds, a message or nothing
abbrev pub held_in : {M A : Type 0} → Object M A → Option (Option M)
held_in (Variable form held) = Some held
held_in object = None

-- the variable with another value
abbrev pub with_held : {M A : Type 0} → Option M → Object M A → Object M A
with_held value (Variable form held) = Variable form value
with_held value object = object

module _ {M A : Type 0} where
  abbrev pub log_at : List (Object M A) → ℕ → Option A
  log_at objects name = option_and_then log_in (slice_get objects name)

  abbrev pub cursor_at : List (Object M A) → ℕ → Option (ℕ × ℕ)
  cursor_at objects name = option_and_then (cursor_in name) (slice_get objects name)

  abbrev pub held_at : List (Object M A) → ℕ → Option (Option M)
  held_at objects name = option_and_then held_in (slice_get objects name)

  -- the objects, with one's log changed by a function
  abbrev pub on_log : (A → A) → List (Object M A) → ℕ → List (Object M A)
  on_log f [] name = []
  on_log f (object ∷ objects) zero = map_log f object ∷ objects
  on_log f (object ∷ objects) (suc name) = object ∷ on_log f objects name

module _ {M : Type 0} where
  -- the changes that calls make to a log
  abbrev pub pushed : ℕ → M → Log M → Log M
  pushed chunk message log = trimmed chunk (with_item log message)

  abbrev pub advanced : ℕ → ℕ → Log M → Log M
  advanced chunk key log = trimmed chunk (with_place log key (Some (place_of log key + 1)))

  abbrev pub shut : ℕ → ℕ → Log M → Log M
  shut chunk key log = trimmed chunk (with_place log key None)

  -- there is a log under this name
  pub record HasLog (objects : List (Object M (Log M))) (name : ℕ) : Type 0 where
    pub log : Log M
    pub found : log_at objects name ≡ Some log

  -- it has room for a message more
  pub record HasRoomAt (objects : List (Object M (Log M))) (name : ℕ) : Type 0 where
    pub stands : HasLog objects name
    pub room : next_of stands.log < 18446744073709551614

  -- this key is open in it
  pub record HasCursor (objects : List (Object M (Log M))) (name key : ℕ) : Type 0 where
    pub stands : HasLog objects name
    pub opened : IsOpen stands.log key

  -- and is owed a message
  pub record HasOwed (objects : List (Object M (Log M))) (name key : ℕ) : Type 0 where
    pub cursor : HasCursor objects name key
    pub owed : 0 < length (owed_items cursor.stands.log key)

  -- one more cursor was opened in the log of an object
  pub record OpensIn (old new : Object M (Log M)) (key : ℕ) (from : Log M → ℕ) : Type 0 where
    pub was : Log M
    pub found : log_in old ≡ Some was
    pub log : Log M
    pub opens : Opens was log key (from was)
    pub changed : new ≡ map_log (λ _. log) old

  -- the same of the objects' list
  pub record OpensAt (old new : List (Object M (Log M))) (name key : ℕ) (from : Log M → ℕ) : Type 0 where
    pub stands : HasLog old name
    pub log : Log M
    pub opens : Opens stands.log log key (from stands.log)
    pub changed : new ≡ on_log (λ _. log) old name

  -- one object more, at the end
  pub record AddsMailbox (old new : List (Object M (Log M))) : Type 0 where
    pub log : Log M
    pub key : ℕ
    pub opens : Opens empty_log log key 0
    pub changed : new ≡ old ++ Mailbox log key ∷ []

  abbrev pub open_port : ℕ → ℕ → ℕ → Object M (Log M)
  open_port source start key = Port (record { channel = record { 0 = source }; start = start; reading = Open key })

  abbrev pub closed_port : ℕ → ℕ → ℕ → Object M (Log M)
  closed_port source start received = Port (record { channel = record { 0 = source }; start = start; reading = Closed received })

  pub record AddsPort (old new : List (Object M (Log M))) (source : ℕ) (from : Log M → ℕ) : Type 0 where
    pub key : ℕ
    pub after : List (Object M (Log M))
    pub opens : OpensAt old after source key from
    pub changed : new ≡ after ++ open_port source (from opens.stands.log) key ∷ []

  -- an open port, and the cursor by which it reads
  pub record HasPort (objects : List (Object M (Log M))) (name source start key : ℕ) : Type 0 where
    pub found : slice_get objects name ≡ Some (open_port source start key)
    pub cursor : HasCursor objects source key
    pub past : start ≤ place_of cursor.stands.log key

  -- it was closed
  pub record ClosesPort (chunk : ℕ) (old new : List (Object M (Log M))) (name source start key : ℕ) : Type 0 where
    pub log : Log M
    pub found : log_at old source ≡ Some log
    pub changed : new ≡ slice_set (on_log (shut chunk key) old source) name (closed_port source start (place_of log key - start))

  -- there is a variable under this name
  pub record HasVariable (objects : List (Object M (Log M))) (name : ℕ) : Type 0 where
    pub form : Form
    pub held : Option M
    pub found : slice_get objects name ≡ Some (Variable form held)

  -- it held this, and was given another value
  pub record SetsHeld (old new : List (Object M (Log M))) (name : ℕ) (was value : Option M) : Type 0 where
    pub form : Form
    pub found : slice_get old name ≡ Some (Variable form was)
    pub changed : new ≡ slice_set old name (Variable form value)
