pub mod Paired
pub mod steps
