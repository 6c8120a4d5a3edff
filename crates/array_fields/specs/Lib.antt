pub mod Printed
pub mod MetadataFields
pub mod RawBits
pub mod ElementTypes
pub mod Floats
pub mod FillValues
pub mod ChunkKeys
pub mod KeyEncodings
