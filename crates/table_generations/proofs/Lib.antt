pub mod Entries
pub mod Laws
pub mod Contents
pub mod Counts
pub mod Probes
pub mod Rehashes
pub mod Windows
pub mod Owned
mod Walks
