pub mod CreateErrors
pub mod Metadata
pub mod BytesMetadata
pub mod BytesMetadataLaws
