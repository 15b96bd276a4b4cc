-- Which calls end which waits.
use Rattle.std.specs.Prelude.{ℕ, ◌≡◌, ◌==◌, Bool, true, false, List, Option, Some, None, IfSome}
use Rattle.cml_calls.specs.declared.kind.Kind.TheVariants.{Mailbox, Channel, Port}
use Rattle.cml_board.specs.{Call, Entry, Want, source_by, origin_of, kind_of}
use Rattle.cml_board.specs.declared.call.Call.TheVariants.{ClosePort, Send, Cast, Put}
use Rattle.cml_board.specs.declared.want.Want.TheVariants.{Recv, Get, Take, Swap}
use Rattle.cml_calls.specs.{is_variable}
use Rattle.cml_room.specs.declared.news.News.{News}
use Rattle.cml_room.specs.declared.news.News.TheVariants.{Message, Multicast, Value, Closed}

-- the object that is waited at
abbrev pub object_of : Want → ℕ
object_of (Recv name) = name.0
object_of (Get name) = name.0
object_of (Take name) = name.0
object_of (Swap name) = name.0

module _ {M : Type 0} where
  -- what an answered call brings: a message, a value, or the end of a port. No other call ends a wait
  abbrev pub news_in : Call M → Option News
  news_in (Send name message) = Some (Message name)
  news_in (Cast name message) = Some (Multicast name)
  news_in (Put name message) = Some (Value name)
  news_in (ClosePort name) = Some (Closed name)
  news_in call = None

  -- the object whose messages come there: a port's channel, and any other object itself
  abbrev pub source_of : List (Entry M) → ℕ → ℕ
  source_of history object = source_by object (origin_of history object)

  -- the news may end this wait: a message arrives where the seat waits, a value goes into the variable, or the port closes
  abbrev pub helps : List (Entry M) → News → Want → Bool
  helps history (Message name) (Recv at) = name.0 == source_of history at.0
  helps history (Multicast name) (Recv at) = name.0 == source_of history at.0
  helps history (Closed name) (Recv at) = name.0 == at.0
  helps history (Value name) (Get at) = name.0 == at.0
  helps history (Value name) (Take at) = name.0 == at.0
  helps history (Value name) (Swap at) = name.0 == at.0
  helps history news on = false

  -- there are no news for who wants this
  abbrev pub NoNews : List (Entry M) → Option News → Want → Type 0
  NoNews history news on = IfSome news (λ some. helps history some on ≡ false)

  -- there are
  abbrev pub Helps : List (Entry M) → Option News → Want → Type 0
  Helps history news on = (some : News) × (news ≡ Some some) × (helps history some on ≡ true)

  -- the news are of an object that takes such a call
  abbrev pub IsOf : List (Entry M) → News → Type 0
  IsOf history (Message name) = kind_of history name.0 ≡ Some Mailbox
  IsOf history (Multicast name) = kind_of history name.0 ≡ Some Channel
  IsOf history (Closed name) = kind_of history name.0 ≡ Some Port
  IsOf history (Value name) = IfSome (kind_of history name.0) (λ kind. is_variable kind ≡ true)
