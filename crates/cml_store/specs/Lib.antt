pub mod Disk
pub mod Exchange
pub mod Machine
pub mod Pair
pub mod Recovery
pub mod Texts
pub mod World
