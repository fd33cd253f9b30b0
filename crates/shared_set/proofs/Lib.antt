mod Courses
mod Keeping
mod Moving
mod Ended
mod Supplying
mod Sizes
pub mod Placing
mod Walking
mod Sharing
mod Covered
mod Accounting
mod Distinct
