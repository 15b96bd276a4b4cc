pub mod AddedEntriesLemmas
pub mod TallyingLemmas
pub mod ReservedLemmas
pub mod RestoringLemmas
pub mod GrowingLemmas
