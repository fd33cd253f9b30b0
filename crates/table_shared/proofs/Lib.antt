pub mod Starts
mod Alone
mod Between
mod Stepping
mod Takes
mod LooksOn
mod Copied
mod Ahead
mod Looked
mod Missed
pub mod Settled
mod Walked
mod Doubled
mod Numbered
mod Words
