pub mod Marked
pub mod Inverted
pub mod InvertedLaws
pub mod Unbounded
pub mod Packed
