-- A `&` to the blocks reaches the content of each. Assumes `Logic`.
use mathlib.Core.List.{[], ◌++◌}
use base.Fml.{Incl-trans}
use contract.BorrowLft.{meet_⊑_left}
use denote.RattleType.{RattleType}
use denote.RawPtr.{RawPtr}
use denote.Param.Laws.{Laws}
use denote.Param.Shared.{copy_shared}
use denote.Struct.Laws.{field_copy}
use denote.Struct.Lending.{of_Lends}
use Rattle.core.specs.contracts.marker.PhantomData as marker
use Rattle.cml_log.specs.contracts.chunk.raw.Blocks as S
use Rattle.cml_log.proofs.chunk.raw.Blocks.TheLaw.Statement.{statement}
use Rattle.cml_log.proofs.SharingLemmas.{lent_laws, Lends-all}

pub shares : (R : RattleType) (L : Laws R) → statement R L
shares R L =
    of_Lends (S.struct R) (S.the_codes R.Denot R.coded (marker.the_row RawPtr).coded) (S.the_heap R) (S.the_lent R)
    (λ blocks _. lent_laws R L.shr_laws blocks.kept) (copy_shared (marker.the_field RawPtr) (field_copy (marker.the_type RawPtr) tt), tt)
    (λ M 𝓤 𝓛 blocks _. Lends-all 𝓛 (S.the_row R).lives R L
    (Incl-trans (meet_⊑_left (R.lives ++ []) _) (meet_⊑_left R.lives [])) blocks.kept)
