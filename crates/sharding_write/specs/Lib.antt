pub mod Invariants
pub mod Writing
pub mod WriteRefusals
pub mod Slices
pub mod OldCells
pub mod steps
