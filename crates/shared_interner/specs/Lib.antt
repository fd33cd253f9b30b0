pub mod Symbols
pub mod Naming
pub mod Texts
pub mod Sharing
pub mod Walks
