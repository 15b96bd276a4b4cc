-- A box over the heap's allocator, and what a call passes for that allocator. Assumes `Logic`.
use Rattle.std.proofs.Common.{[], ◌∷◌, refl}
use seplogic.Ra.Ura.{Ura}
use mir.Syntax.{Dict, Symbol, impl, tnil, tcons, dnil}
use types.Logic.{Logic}
use contract.Running.{Running}
use denote.RattleType.{RattleType}
use mir.Raw.{raw as bare}
use denote.Exit.{no}
use denote.Param.{layout, arg}
use denote.Param.Glue as glue
use denote.Param.Laws.{Laws, arg_laws}
use denote.Param.NoDrop.{function, glues}
use prog.Model.{Model}
use prog.Wired.{Wired, node, end}
use Rattle.core.specs.contracts.alloc.Allocator.TheBound as allocator
pub use Rattle.std.specs.contracts.alloc.Global.{the_row as Heap}
use Rattle.std.proofs.alloc.Global.TheLaws as heap_laws
use Rattle.std.specs.contracts.impls.GlobalAllocator.TheImpl.{ghosts, dict}
use Rattle.std.proofs.impls.GlobalAllocator.TheImpl.Met.{passed}
use Rattle.std.proofs.impls.GlobalAllocator.allocate.Symbol as allocates
use Rattle.std.proofs.impls.GlobalAllocator.deallocate.Symbol as deallocates
use Rattle.std.proofs.impls.GlobalAllocator.grow.Symbol as grows
use Rattle.std.proofs.impls.GlobalAllocator.shrink.Symbol as shrinks
use Rattle.std_alloc.proofs.BoxSteps.Form.{Bx}

-- the allocator's row as a call passes it: at its type without names
abbrev pub Passed : RattleType
Passed = arg (bare (layout Heap)) no Heap

abbrev pub passed_laws : Laws Passed
passed_laws = arg_laws (bare (layout Heap)) no Heap heap_laws.the_row_laws refl

-- its drop, which does nothing; each crate has it under another name
abbrev pub drops : Symbol → Dict
drops s = impl (s ∷ []) (tcons (layout Passed) tnil) dnil

abbrev pub on_heap : Symbol → (X : RattleType) → Laws X → Bx
on_heap s X L =
    record { row = X; laws = L; al = record { row = Heap; laws = heap_laws.the_row_laws; g = ghosts; d = dict; drops = drops s } }

module _ {M : Type 1} (𝓤 : Ura M) (𝓛 : Logic 𝓤) (𝓜 : Model 𝓤 𝓛.H) (𝓡 : Running 𝓤 𝓛.H 𝓜) where
  pub allocates_met : Wired 𝓡.env allocates.code → Wired 𝓡.env deallocates.code → Wired 𝓡.env grows.code → Wired 𝓡.env shrinks.code
      → allocator.Met 𝓛 𝓜 𝓡 𝓡.env Passed ghosts dict
  allocates_met a d g s = passed 𝓡.env a d g s M 𝓤 𝓛 𝓜 𝓡

  pub drops_met : (s : Symbol) → Wired 𝓡.env (node ((s, function) ∷ []) [] end) → glue.Met 𝓛 𝓜 𝓡 𝓡.env Passed (drops s)
  drops_met s w = glues s 𝓡.env w Passed passed_laws M 𝓤 𝓛 𝓜 𝓡
