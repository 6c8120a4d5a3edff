pub mod PlainRows
pub mod Reads
pub mod ShardLaws
pub mod steps
