pub mod Hashes
pub mod Texts
pub mod Interns
pub mod Kept
pub mod Again
