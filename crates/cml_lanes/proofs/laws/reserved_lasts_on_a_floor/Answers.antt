use Rattle.cml_lanes.proofs.ReservedLemmas.{reserved_lasts, seats_served, lanes_served, feeds_served}
use Rattle.cml_lanes.proofs.laws.reserved_lasts_on_a_floor.Goals as goal

pub returns-clause-lasts : goal.returns-clause-lasts
returns-clause-lasts g c = reserved_lasts

pub returns-clause-seats : goal.returns-clause-seats
returns-clause-seats g c = seats_served

pub returns-clause-lanes : goal.returns-clause-lanes
returns-clause-lanes g c = lanes_served

pub returns-clause-feeds : goal.returns-clause-feeds
returns-clause-feeds g c = feeds_served
