-- What is asked of a simulation, and its station.
use Rattle.std.specs.Prelude.{ℕ, ◌≡◌}
use Rattle.cml_queueing.specs.Station.{Place, ServesInOrder}

-- how many customers are to arrive, and the station
pub record Course : Type 0 where
  pub customers : ℕ
  pub place : Place

-- as many customers are to arrive as before, and the station has as many servers
pub record KeepsDemand (old new : Course) : Type 0 where
  pub customers : new.customers ≡ old.customers
  pub servers : new.place.servers ≡ old.place.servers

-- all customers that were to arrive were served in the order of their arrival, each once, by the servers that the station had
pub record ServesAll (old new : Course) : Type 0 where
  pub served : ServesInOrder new.place old.customers
  pub servers : new.place.servers ≡ old.place.servers
