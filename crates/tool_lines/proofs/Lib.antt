pub mod Pieces
pub mod Firsts
pub mod Counts
pub mod HeldLines
pub mod Written
pub mod ReadTexts
pub mod Taken
mod Doubling
mod Kept
mod Replies
mod Tools
