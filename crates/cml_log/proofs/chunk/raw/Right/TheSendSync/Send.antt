use denote.RattleType.{RattleType}
use denote.Param.Send.{IsSend}
use Rattle.cml_log.proofs.BlockSendLemmas.{right_send}
use Rattle.cml_log.specs.contracts.chunk.raw.Right.{the_row}

pub send : (R : RattleType) → IsSend R → IsSend (the_row R)
send = right_send
