use Rattle.cml_threads.specs.{MayAsk, MayAskAgain}
use Rattle.cml_threads.proofs.ReservedLemmas.{hall_lasts, asks_served, hall_lanes_served, hall_feeds_served}
use Rattle.cml_threads.proofs.laws.reserved_lasts_in_a_hall.Goals as goal

pub returns-clause-lasts : goal.returns-clause-lasts
returns-clause-lasts g c = hall_lasts

pub returns-clause-asks : goal.returns-clause-asks
returns-clause-asks g c = λ chunk sure calls old new after seat left call back.
    asks_served chunk sure calls old new after (MayAsk new seat.number) seat left call back

pub returns-clause-again : goal.returns-clause-again
returns-clause-again g c = λ chunk sure calls old new after seat left call back.
    asks_served chunk sure calls old new after (MayAskAgain new seat.number call) seat left call back

pub returns-clause-lanes : goal.returns-clause-lanes
returns-clause-lanes g c = hall_lanes_served

pub returns-clause-feeds : goal.returns-clause-feeds
returns-clause-feeds g c = hall_feeds_served
