-- The box that a handle's memory is. Assumes `Logic`.
use denote.RattleType.{RattleType}
use mathlib.Core.Path.{refl}
use mir.Raw.{raw as bare}
use denote.Exit.{no}
use denote.Param.{layout, arg}
use denote.Param.Laws.{Laws, arg_laws}
use denote.RawPtr.{Ptr}
use Rattle.std.specs.declared.alloc.Global.{Global}
use Rattle.std_alloc.proofs.BoxSteps.Form.{Bx, B, D}
use Rattle.cml_log.proofs.HeapBoxLemmas.{on_heap}
pub use Rattle.cml_c.specs.contracts.keeper.Held.{the_row as Room}
use Rattle.cml_c.specs.{Held}
use Rattle.cml_c.proofs.keeper.Held.TheLaws as kept_laws

abbrev pub E : Bx
E = on_heap "cml_c::Destruct++none::drop" Room kept_laws.the_row_laws

abbrev pub Boxed : RattleType
Boxed = B E

abbrev pub boxed : Ptr → Global → Held → D E
boxed at alloc kept = record { ptr = at; alloc = alloc; value = kept }

-- the row of what lies in it, as a call is given it: at its type without names
abbrev pub Given : RattleType
Given = arg (bare (layout Room)) no Room

abbrev pub given_laws : Laws Given
given_laws = arg_laws (bare (layout Room)) no Room kept_laws.the_row_laws refl
