-- How a seat's call in a hall ends.
use Rattle.std.specs.Prelude.{ℕ, ◌≡◌, ◌+◌, Bool}
use Rattle.cml_board.specs.{Call}
use Rattle.cml_board.specs.declared.outcome.Outcome.{Outcome}
use Rattle.cml_board.specs.declared.outcome.Outcome.TheVariants.{Answered}
use Rattle.cml_room.specs.Asking as room
use Rattle.cml_threads.specs.Seating.{Sitting, raised}
use Rattle.cml_threads.specs.Hosting.{Hosted, room_of}

module _ {M : Type 0} where
  -- an answer is counted once, for the seat and in the book, and nothing else is counted
  abbrev pub Tallies : ℕ → ℕ → Sitting → Sitting → Outcome M → Type 0
  Tallies book book' before after (Answered answer) = (after ≡ raised before) × (book' ≡ book + 1)
  Tallies book book' before after told = (after ≡ before) × (book' ≡ book)

  -- how the call ends in the room, and how it is counted; `may` says that the seat may make the call
  abbrev pub Asks : ℕ → Bool → Type 0 → Hosted M → Hosted M → Sitting → Sitting → Call M → Outcome M → Type 0
  Asks chunk sure may old new before after call told =
      room.Asks chunk sure may (room_of old) (room_of new) before.number call told × Tallies old.book new.book before after told
