-- What a board always keeps.
use Rattle.std.specs.Prelude.{ℕ, ◌≡◌, ◌<◌, ◌≤◌, ◌^◌, true, false, List, ◌++◌, length, reverse, slice_get, Some}
use Rattle.cml_log.specs.Log.{Log}
use Rattle.cml_log.specs.{place_at}
use Rattle.cml_log.specs.Holds.{Holds}
use Rattle.cml_board.specs.declared.entry.Entry.{Entry}
use Rattle.cml_board.specs.declared.object.Object.{Object}
use Rattle.cml_board.specs.declared.object.Object.TheVariants.{Mailbox, Channel, Port, Variable}
use Rattle.cml_board.specs.declared.object.Form.{Form}
use Rattle.cml_board.specs.declared.object.Form.TheVariants.{Once, Mutable}
use Rattle.cml_board.specs.declared.object.Reading.{Reading}
use Rattle.cml_board.specs.declared.object.Reading.TheVariants.{Open, Closed}
use Rattle.cml_board.specs.Origins.{Origin, mailbox, channel, port, ivar, mvar}
use Rattle.cml_board.specs.History.{Lawful, entries_in, made}
use Rattle.cml_board.specs.Facts.{Facts, facts_of, place_by}
use Rattle.cml_board.specs.Holdings.{seen_all, log_at, cursor_at}
use Rattle.cml_board.specs.Shown.{Shown, full_at}

-- how a variable begins
abbrev pub begun_as : Form → Origin
begun_as Once = ivar
begun_as Mutable = mvar

module _ {M : Type 0} where
  -- a closed port knows how much it had received
  abbrev pub AgreesReading : Facts M → Reading → Type 0
  AgreesReading facts (Open key) = facts.opened ≡ true
  AgreesReading facts (Closed got) = (facts.opened ≡ false) × (got ≡ length facts.got)

  -- the object is what the history made under its name
  abbrev pub Agrees : {A : Type 0} → Facts M → Object M A → Type 0
  Agrees facts (Mailbox log key) = (facts.origin ≡ Some mailbox) × (facts.opened ≡ true)
  Agrees facts (Channel log) = facts.origin ≡ Some channel
  Agrees facts (Port p) = (facts.origin ≡ Some (port p.channel.0 p.start)) × AgreesReading facts p.reading
  Agrees facts (Variable form held) = (facts.origin ≡ Some (begun_as form)) × (facts.held ≡ held)

  -- the objects are those made, and each log holds what was sent, with one cursor for each that reads it, at its place
  pub record Shows (chunk count : ℕ) (facts : ℕ → Facts M) (objects : List (Object M (Log M))) : Type 0 where
    pub all : length objects ≡ count
    pub each : (name : ℕ) (object : Object M (Log M)) → slice_get objects name ≡ Some object → Agrees (facts name) object
    pub logs : (name : ℕ) (log : Log M) → log_at objects name ≡ Some log → Holds chunk log (facts name).sent
    pub cursors : (name source key : ℕ) → cursor_at objects name ≡ Some (source, key)
        → (log : Log M) × (log_at objects source ≡ Some log) × (place_at log key ≡ Some (place_by (facts name)))
    pub owners : (source : ℕ) (log : Log M) (key at : ℕ) → log_at objects source ≡ Some log → place_at log key ≡ Some at
        → (name : ℕ) × (cursor_at objects name ≡ Some (source, key))
    pub distinct : (name other source key : ℕ) → cursor_at objects name ≡ Some (source, key)
        → cursor_at objects other ≡ Some (source, key) → name ≡ other

  pub record Keeps (chunk : ℕ) (board : Shown M) : Type 0 where
    pub lawful : Lawful board.history
    pub shows : Shows chunk (length (made board.history)) (facts_of board.history) board.objects
    pub room : entries_in board.history ≤ full_at board
    pub bounded : board.limit ≤ 2 ^ 32
    pub holds_one : 0 < chunk
    pub small : chunk ≤ 1024

  abbrev pub shown : {A : Type 0} → (A → Log M) → List (Entry M) → List (Entry M) → ℕ → List (Object M A) → ℕ → Shown M
  shown log past journal limit objects reserved =
      record { history = reverse journal ++ past; past = past; limit = limit; objects = seen_all log objects; reserved = reserved }
