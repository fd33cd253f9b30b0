pub mod Counts
pub mod Probes
pub mod Keeps
pub mod Walks
pub mod Closes
