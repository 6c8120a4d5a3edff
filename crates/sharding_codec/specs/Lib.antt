pub mod Meanings
pub mod ShardLaws
pub mod Decoders
pub mod Sessions
pub mod SessionWrites
pub mod LockedSessions
pub mod ShardMetadata
pub mod ShardMetadataLaws
