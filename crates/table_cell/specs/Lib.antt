pub mod Beside
pub mod Contents
pub mod Latest
pub mod Notes
pub mod Rehomed
pub mod Rows
pub mod Words
