mod Books
mod Made
mod Copies
mod Marks
mod Trades
pub mod Histories
mod Rows
mod Steps
mod Probes
pub mod Apart
mod Permuted
mod Laid
mod Meetings
mod Carried
mod Endings
mod Prefixes
mod Picks
mod Owed
mod Known
mod Walked
mod Hinted
