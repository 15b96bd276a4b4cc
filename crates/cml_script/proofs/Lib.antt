pub mod SendLemmas
pub mod WorkLemmas
pub mod TurnLemmas
pub mod DeclareLemmas
pub mod GatesLemmas
pub mod RunLemmas
