pub mod Checksum
pub mod Castagnoli
pub mod Crc32c
pub mod XxHash
