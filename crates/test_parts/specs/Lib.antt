pub mod Known
pub mod Rising
pub mod Fours
