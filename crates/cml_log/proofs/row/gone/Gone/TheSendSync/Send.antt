-- What is left of an item owns nothing.
use denote.RattleType.{RattleType}
use denote.Param.Send.{IsSend, owning_send, sendable}
use Rattle.cml_log.specs.contracts.row.gone.Gone.{the_row, the_type}

pub send : (R : RattleType) → IsSend R → IsSend (the_row R)
send R s = owning_send (the_type R) (search sendable, tt) (λ gone. tt) (λ k x w. tt)
