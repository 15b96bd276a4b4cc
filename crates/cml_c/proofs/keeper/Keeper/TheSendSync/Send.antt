-- A handle may go to another thread as what it leads to may.
use mir.Raw.{raw}
use denote.Memory.{lone}
use denote.Struct.Struct.{exits_of}
use denote.Struct.Owning.{shape, fields, to}
use denote.Param.Send.{IsSend, AllSend, owning_send, struct_send, sendable}
use Rattle.std.proofs.Crossing.{frees}
use Rattle.std_alloc.proofs.SendSync.{quiet, lies}
use Rattle.std_heap.proofs.Global.TheSendSync as heap
use Rattle.cml_c.specs.contracts.keeper.Held as Kept
use Rattle.cml_c.proofs.keeper.Held.TheSendSync as kept
use Rattle.cml_c.specs.contracts.keeper.Keeper.{the_row, the_type}

pub send : IsSend the_row
send = let all : AllSend (fields the_type) = (search sendable, (heap.the_field_send, tt)) in
    owning_send the_type all (λ d. (lies Kept.the_row kept.the_send d.at d.kept, frees.frees d.alloc (raw (lone Kept.the_row.mir)) d.at))
    (λ k. quiet (to the_type) (exits_of k (fields the_type)) ((struct_send (shape the_type) all).leaving k))
