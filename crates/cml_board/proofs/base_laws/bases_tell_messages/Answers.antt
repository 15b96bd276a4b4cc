use Rattle.cml_board.proofs.ReceivingLemmas.{received_open, received_closed, received_nothing, waiting_since}
use Rattle.cml_board.proofs.base_laws.bases_tell_messages.Goals as goal

pub returns-clause-received : goal.returns-clause-received
returns-clause-received g c = received_open

pub returns-clause-closed : goal.returns-clause-closed
returns-clause-closed g c = received_closed

pub returns-clause-closed_before : goal.returns-clause-closed_before
returns-clause-closed_before g c = received_nothing

pub returns-clause-waiting : goal.returns-clause-waiting
returns-clause-waiting g c = waiting_since
