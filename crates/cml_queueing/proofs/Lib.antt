pub mod StationLemmas
