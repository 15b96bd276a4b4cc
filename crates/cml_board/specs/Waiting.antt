-- What a call waits for.
use Rattle.std.specs.Prelude.{◌≡◌, List, Option, Some, None}
use Rattle.cml_board.specs.declared.call.Call.{Call}
use Rattle.cml_board.specs.declared.call.Call.TheVariants.{Recv, Get, Take, Swap}
use Rattle.cml_board.specs.declared.want.Want.{Want}
use Rattle.cml_board.specs.declared.want.Want.TheVariants as want
use Rattle.cml_board.specs.declared.entry.Entry.{Entry}
use Rattle.cml_board.specs.History.{Fits, answer}

module _ {M : Type 0} where
  -- what a call asks of its object, where it may have to wait for that
  abbrev pub want_in : Call M → Option Want
  want_in (Recv name) = Some (want.Recv name)
  want_in (Get name) = Some (want.Get name)
  want_in (Take name) = Some (want.Take name)
  want_in (Swap name message) = Some (want.Swap name)
  want_in call = None

  -- a call that waits just where each call with this want does. For a swap that is a take, which has no message
  abbrev pub wanting : Want → Call M
  wanting (want.Recv name) = Recv name
  wanting (want.Get name) = Get name
  wanting (want.Take name) = Take name
  wanting (want.Swap name) = Take name

  -- a call with this want fits, and waits
  abbrev pub Waits : List (Entry M) → Want → Type 0
  Waits history on = Fits history (wanting on) × (answer history (wanting on) ≡ None)
