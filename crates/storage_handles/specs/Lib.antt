pub mod Handles
pub mod Objects
pub mod Writes
