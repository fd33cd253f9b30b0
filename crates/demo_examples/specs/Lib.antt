pub mod Words
pub mod Apart
pub mod Schedules
pub mod Asks
pub mod Unshown
pub mod Accounts
