use Rattle.cml_board.proofs.TrailingLemmas.{kept_told, messages_told}
use Rattle.cml_board.proofs.ReceivingLemmas.{open_before, owed_told}
use Rattle.cml_board.proofs.RenewingLemmas.{answer_told, next_told}
use Rattle.cml_board.proofs.base_laws.bases_tell_answers.Goals as goal

pub returns-clause-kept : goal.returns-clause-kept
returns-clause-kept g c = kept_told

pub returns-clause-stream : goal.returns-clause-stream
returns-clause-stream g c = messages_told

pub returns-clause-owed : goal.returns-clause-owed
returns-clause-owed g c =
    λ chunk past since name lawful is opened. owed_told chunk past since name lawful is (open_before past since name opened)

pub returns-clause-answer : goal.returns-clause-answer
returns-clause-answer g c = answer_told

pub returns-clause-next : goal.returns-clause-next
returns-clause-next g c = next_told
