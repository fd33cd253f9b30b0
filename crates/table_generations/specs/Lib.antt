pub mod Buckets
pub mod Ways
pub mod Probe
pub mod Generations
pub mod Growth
pub mod Looks
pub mod Windows
pub mod Values
