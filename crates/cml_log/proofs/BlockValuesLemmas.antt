-- The machine values of the types of the blocks. Assumes `Logic`.
use Rattle.std.proofs.Common.{ℕ, ◌^◌, ◌<◌, [], ◌∷◌, refl}
use seplogic.Ra.Ura.{Ura}
use mir.Syntax.{w64}
use mir.Val.{Val, vint, vstruct, vcons, vnil}
use base.Logic.{ent, emp}
use types.Logic.{Logic, sem}
use denote.RattleType.{RattleType}
use denote.RawPtr.{Ptr, ptr_val}
use denote.Shadow.{makes_shadow}
use denote.Struct.Struct.{Struct}
use denote.Struct.Owning.{shape}
use Rattle.std_alloc.proofs.RcSteps.{word}
use Rattle.cml_log.specs.contracts.chunk.raw.Address as address
use Rattle.cml_log.specs.contracts.chunk.raw.Blocks as blocks
use Rattle.cml_log.specs.contracts.chunk.raw.Counter as counter
use Rattle.cml_log.specs.contracts.chunk.raw.Right as right
use Rattle.cml_log.specs.contracts.row.gone.Gone as gone

-- a struct with no bytes but its mark, and one of two fields
abbrev pub mark : Val
mark = vstruct (vcons (vstruct vnil) vnil)

abbrev pub both : Val → Val → Val
both v w = vstruct (vcons v (vcons w vnil))

pub address_made : {M : Type 1} {𝓤 : Ura M} (𝓛 : Logic 𝓤) (at : Ptr) (number : ℕ) → number < 2 ^ 64
    → ent 𝓤 (emp 𝓤) (sem 𝓛 (address.the_row.own_val (record { at = at; number = number }) (both (ptr_val at) (vint w64 number) ∷ [])))
address_made 𝓛 at number fits =
    makes_shadow 𝓛 (address.the_row.own_val (record { at = at; number = number }) (both (ptr_val at) (vint w64 number) ∷ []))
    (λ vss. (tt, (tt, ((tt, tt), tt)))) ((ptr_val at ∷ [], (vint w64 number ∷ [], tt)), (refl, (refl, ((refl, fits), tt))))

abbrev pub Counting : RattleType
Counting = Struct (shape counter.the_type)

pub count_made : {M : Type 1} {𝓤 : Ura M} (𝓛 : Logic 𝓤) → ent 𝓤 (emp 𝓤) (sem 𝓛 (Counting.own_val (tt, tt) (mark ∷ [])))
count_made 𝓛 = makes_shadow 𝓛 (Counting.own_val (tt, tt) (mark ∷ [])) (λ vss. (tt, ((λ uss. (tt, tt)), tt)))
    ((vstruct vnil ∷ [], tt), (refl, ((tt, (refl, tt)), tt)))

module _ (R : RattleType) where
  abbrev pub Marking : RattleType
  Marking = Struct (shape (blocks.the_type R))

  abbrev pub Pointing : RattleType
  Pointing = Struct (shape (right.the_type R))

  abbrev pub Leaving : RattleType
  Leaving = Struct (shape (gone.the_type R))

  module _ {M : Type 1} {𝓤 : Ura M} (𝓛 : Logic 𝓤) where
    pub leaving_made : ent 𝓤 (emp 𝓤) (sem 𝓛 (Leaving.own_val (tt, tt) (mark ∷ [])))
    leaving_made = makes_shadow 𝓛 (Leaving.own_val (tt, tt) (mark ∷ [])) (λ vss. (tt, ((λ uss. (tt, tt)), tt)))
        ((vstruct vnil ∷ [], tt), (refl, ((tt, (refl, tt)), tt)))

    pub marking_made : ent 𝓤 (emp 𝓤) (sem 𝓛 (Marking.own_val (tt, tt) (mark ∷ [])))
    marking_made = makes_shadow 𝓛 (Marking.own_val (tt, tt) (mark ∷ [])) (λ vss. (tt, ((λ uss. (tt, tt)), tt)))
        ((vstruct vnil ∷ [], tt), (refl, ((tt, (refl, tt)), tt)))

    pub pointing_made : (at : Ptr) → ent 𝓤 (emp 𝓤) (sem 𝓛 (Pointing.own_val (at, tt) (word at ∷ [])))
    pointing_made at =
        makes_shadow 𝓛 (Pointing.own_val (at, tt) (word at ∷ [])) (λ vss. (tt, (tt, tt))) ((ptr_val at ∷ [], tt), (refl, (refl, tt)))
