pub mod LeastLemmas
pub mod LogLemmas
pub mod HoldsLemmas
mod PlainLogLemmas
pub mod WalksLemmas
pub mod HeapBoxLemmas
mod BlockMemoryLemmas
mod BlockValuesLemmas
mod BlockSendLemmas
mod SharingLemmas
mod RowLemmas
mod BlockLemmas
mod LinkedLemmas
mod ChainLemmas
mod PassedLemmas
mod StandingLemmas
mod CursorsLemmas
mod MovedLemmas
mod AheadLemmas
mod ChunkLogLemmas
mod LendingLemmas
