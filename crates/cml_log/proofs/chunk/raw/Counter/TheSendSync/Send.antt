-- A count owns nothing.
use denote.Param.Send.{IsSend, owning_send, sendable}
use Rattle.cml_log.specs.contracts.chunk.raw.Counter.{the_row, the_type}

pub send : IsSend the_row
send = owning_send the_type (search sendable, tt) (λ count. tt) (λ k x w. tt)
