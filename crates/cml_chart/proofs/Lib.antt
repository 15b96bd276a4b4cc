mod WordLemmas
mod ReadingLemmas
mod NameLemmas
mod FollowingLemmas
mod DrawingLemmas
mod JournalLemmas
