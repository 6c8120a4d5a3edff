pub mod Indexes
pub mod DataPart
pub mod steps
