pub mod ChecksumLaws
pub mod EightLaws
