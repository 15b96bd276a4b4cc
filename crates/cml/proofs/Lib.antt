pub mod CommandWordsLemmas
pub mod CommandLineLemmas
pub mod EndingsLemmas
