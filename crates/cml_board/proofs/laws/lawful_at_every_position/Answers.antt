use Rattle.cml_board.proofs.EverywhereLemmas.{lawful_each, lawful_only}
use Rattle.cml_board.proofs.laws.lawful_at_every_position.Goals as goal

pub returns-clause-each : goal.returns-clause-each
returns-clause-each g c = lawful_each

pub returns-clause-only : goal.returns-clause-only
returns-clause-only g c = lawful_only
