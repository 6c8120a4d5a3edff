pub mod NewChunks
pub mod NewChunkRefusals
