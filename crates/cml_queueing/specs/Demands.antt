-- What is simulated of what is asked for.
use Rattle.std.specs.Prelude.{◌≡◌}
use Rattle.cml_queueing.specs.declared.asked.Asked.{Asked}
use Rattle.cml_queueing.specs.declared.demand.Demand.{Demand}
use Rattle.cml_queueing.specs.Station.{ServesInOrder}
use Rattle.cml_queueing.specs.Stations.{Course}

-- as many servers and customers are simulated as are asked for, with the seed that is
pub record IsAsked (asked : Asked) (demand : Demand) : Type 0 where
  pub servers : demand.servers ≡ asked.servers
  pub customers : demand.customers ≡ asked.customers
  pub seed : demand.seed ≡ asked.seed

-- as many customers as were asked for were served in the order of their arrival, each once, by as many servers as were asked for
pub record ServesAsked (asked : Asked) (course : Course) : Type 0 where
  pub served : ServesInOrder course.place asked.customers
  pub servers : course.place.servers ≡ asked.servers
