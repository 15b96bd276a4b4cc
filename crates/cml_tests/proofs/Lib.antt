pub mod AnswerLemmas
pub mod OpeningLemmas
pub mod FloorLemmas
pub mod TellingLemmas
