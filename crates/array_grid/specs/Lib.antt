pub mod Shards
pub mod Parts
pub mod Cells
pub mod Subsets
pub mod ListParts
