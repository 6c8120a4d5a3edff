pub mod Shards
pub mod Answers
pub mod Configured
pub mod Text
pub mod Elements
pub mod Script
pub mod Hex
