mod Books
pub mod Chained
mod Ended
mod Laid
mod Shown
pub mod Steps
mod Trades
