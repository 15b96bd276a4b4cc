-- Ghost entries own nothing, so they go wherever their entries may.
use denote.RattleType.{RattleType}
use denote.Param.Send.{IsSend, owning_send, sendable}
use Rattle.cml_board.specs.contracts.ghost_entries.GhostEntries.{the_row, the_type}

pub send : (R : RattleType) → IsSend R → IsSend (the_row R)
send R s = owning_send (the_type R) (search sendable, tt) (λ entries. tt) (λ k x w. tt)
