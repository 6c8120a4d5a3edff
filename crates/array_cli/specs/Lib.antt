pub mod Statuses
pub mod ChunkRefusals
pub mod Padded
pub mod NewChunks
pub mod ChunkParts
