pub mod KeyLemmas
mod ShownLemmas
mod SaidRawBits
mod Elements
mod SaidFloats
mod Types
mod SaidBytes
mod Utf32Lemmas
