pub mod ArrayCodecs
pub mod CodecMeanings
pub mod AcceptedMetadata
pub mod ByteOrders
