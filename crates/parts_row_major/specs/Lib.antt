pub mod Numbering
pub mod Subsets
pub mod Pieces
pub mod Runs
