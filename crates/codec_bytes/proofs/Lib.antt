pub mod BytesCodecSteps
