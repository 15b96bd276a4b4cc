-- What a handle leads to, once a `&mut` to it has ended.
use Rattle.std.specs.Borrow.{Fml, MutBor, Lends}
use Rattle.cml_c.specs.declared.owned.Owned.{Owned}
use Rattle.cml_c.specs.declared.handle.Handle.{Handle}
use Rattle.cml_c.specs.contracts.handle.Handle.{the_row}
use Rattle.cml_c.specs.contracts.owned.Owned.{the_row as Room}

-- the same handle, to this
abbrev pub with_owned : Handle → Owned → Handle
with_owned handle owned = record { at = handle.at; alloc = handle.alloc; owned = owned }

abbrev pub handle_follows : MutBor Handle → MutBor Owned → Fml
handle_follows handle lent = Lends the_row Room handle lent (with_owned handle.now)
