pub mod Endings
pub mod Station
pub mod Stations
pub mod Demands
-- the names that others import from here
pub use Station.{IsAnsweredBy, IsServer, IsStation, Place, Receives, ServesInOrder, numbers}
pub use Stations.{KeepsDemand, ServesAll}
pub use Demands.{IsAsked, ServesAsked}
