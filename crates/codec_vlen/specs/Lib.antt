pub mod Text
pub mod VlenCodec
pub mod VlenLaws
pub mod VlenMetadata
pub mod DefaultCodec
pub mod DefaultMetadata
pub mod DefaultMetadataLaws
