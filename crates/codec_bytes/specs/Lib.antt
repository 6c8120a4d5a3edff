pub mod BytesCodec
pub mod BytesCodecLaws
