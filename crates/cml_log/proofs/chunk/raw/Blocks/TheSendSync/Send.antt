use denote.RattleType.{RattleType}
use denote.Param.Send.{IsSend}
use Rattle.cml_log.proofs.BlockSendLemmas.{blocks_send}
use Rattle.cml_log.specs.contracts.chunk.raw.Blocks.{the_row}

pub send : (R : RattleType) → IsSend R → IsSend (the_row R)
send = blocks_send
