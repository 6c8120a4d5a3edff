pub mod Stores
pub mod ArrayElements
pub mod ChunkWrites
pub mod ArrayWrites
pub mod ReadRefusals
pub mod Opening
pub mod steps
