-- A right and the blocks may go to another thread as their contents may.
use Rattle.std.specs.Prelude.{List, [], ◌∷◌, Option, Some, None}
use mir.Raw.{raw}
use base.Shift.{Keyless}
use denote.RattleType.{RattleType}
use denote.Memory.{lone}
use denote.RawPtr.{Ptr}
use denote.Struct.Struct.{exits_of}
use denote.Struct.Owning.{shape, fields, to}
use denote.Param.Send.{IsSend, AllSend, owning_send, struct_send, sendable}
use Rattle.std.proofs.Crossing.{frees}
use Rattle.std_alloc.proofs.SendSync.{quiet, lies}
use Rattle.cml_log.specs.{heap, right_owns, block_owns, blocks_own}
use Rattle.cml_log.specs.contracts.chunk.raw.Blocks as Blocks
use Rattle.cml_log.specs.contracts.chunk.raw.Right as Right

module _ (R : RattleType) (s : IsSend R) where
  right-Keyless : (at : Ptr) (content : R.Denot) → Keyless (right_owns R at content)
  right-Keyless at content = (lies R s at content, frees.frees heap (raw (lone R.mir)) at)

  block-Keyless : (block : Option (Ptr × R.Denot)) → Keyless (block_owns R block)
  block-Keyless None = tt
  block-Keyless (Some block) = right-Keyless block.0 block.1

  blocks-Keyless : (kept : List (Option (Ptr × R.Denot))) → Keyless (blocks_own R kept)
  blocks-Keyless [] = tt
  blocks-Keyless (block ∷ rest) = (block-Keyless block, blocks-Keyless rest)

  pub right_send : IsSend (Right.the_row R)
  right_send = let O = Right.the_type R in let all : AllSend (fields O) = (search sendable, tt) in
      owning_send O all (λ right. right-Keyless right.at right.content)
      (λ k. quiet (to O) (exits_of k (fields O)) ((struct_send (shape O) all).leaving k))

  pub blocks_send : IsSend (Blocks.the_row R)
  blocks_send = let O = Blocks.the_type R in let all : AllSend (fields O) = (search sendable, tt) in
      owning_send O all (λ blocks. blocks-Keyless blocks.kept)
      (λ k. quiet (to O) (exits_of k (fields O)) ((struct_send (shape O) all).leaving k))
