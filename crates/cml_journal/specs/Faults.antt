-- Where the first fault of bytes is.
use Rattle.std.specs.Prelude.{◌≡◌, ℕ, List, [], ◌∷◌, ◌++◌, Option, Ok, Err}
use Rattle.cml_journal.specs.declared.fault.What.{What}
use Rattle.cml_journal.specs.declared.fault.Unread.{Unread}
use Rattle.cml_journal.specs.declared.fault.Unread.TheVariants as unread
use Rattle.cml_journal.specs.Feeding.{State, filled, reading}

module _ {M : Type 0} (version : ℕ) (meaning : List ℕ → Option M) where
  -- all bytes of the front are read, and the next byte is a fault, on the line that the state is on
  pub record HasFault (state : State) (bytes : List ℕ) (what : What) : Type 0 where
    pub front : List ℕ
    pub byte : ℕ
    pub rest : List ℕ
    pub whole : bytes ≡ front ++ byte ∷ rest
    pub next : State
    pub read : reading version meaning state front ≡ Ok (next, [])
    pub same_line : next.lines ≡ state.lines
    pub fault : reading version meaning state (front ++ byte ∷ []) ≡ Err what

  -- a front of the bytes, without a line end, is read up to this state
  pub record HasFront (state : State) (bytes : List ℕ) (new : State) : Type 0 where
    pub front : List ℕ
    pub rest : List ℕ
    pub whole : bytes ≡ front ++ rest
    pub read : reading version meaning state front ≡ Ok (new, [])

  -- the bytes have what a reader met in them, and it stays in the state before the byte that is a fault. If there was no memory, it
  -- has read a front of them
  abbrev pub Meets : State → List ℕ → State → Unread → Type 0
  Meets state bytes new unread.Memory = HasFront state bytes new
  Meets state bytes new (unread.Fault what) = (has : HasFault state bytes what) × (new ≡ has.next)

-- what bytes of a line leave where they were not read: as much of the line as there may be, or, if there was no memory, no more than
-- was there
abbrev pub Leaves : State → List ℕ → State → Unread → Type 0
Leaves state bytes new unread.Memory = new ≡ state
Leaves state bytes new (unread.Fault what) = new ≡ filled state bytes
