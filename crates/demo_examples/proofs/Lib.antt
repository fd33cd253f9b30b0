pub mod Lookups
pub mod Meetings
pub mod Runs
pub mod Asks
pub mod Placements
mod Told
mod Moved
mod Found
mod Handed
