pub mod Sets
pub mod Again
pub mod Placing
pub mod Pairs
pub mod Triples
pub mod Texts
