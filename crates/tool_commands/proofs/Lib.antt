pub mod Spaces
pub mod LetterCalls
pub mod NumberLists
pub mod EventPieces
pub mod StressWords
pub mod PairTables
pub mod Replied
