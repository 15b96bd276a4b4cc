use Rattle.cml_board.proofs.ResumingLemmas.{made_told, count_told, place_told, open_told, held_told}
use Rattle.cml_board.proofs.base_laws.bases_tell_objects.Goals as goal

pub returns-clause-made : goal.returns-clause-made
returns-clause-made g c = made_told

pub returns-clause-count : goal.returns-clause-count
returns-clause-count g c = count_told

pub returns-clause-place : goal.returns-clause-place
returns-clause-place g c = place_told

pub returns-clause-opened : goal.returns-clause-opened
returns-clause-opened g c = open_told

pub returns-clause-held : goal.returns-clause-held
returns-clause-held g c = held_told
