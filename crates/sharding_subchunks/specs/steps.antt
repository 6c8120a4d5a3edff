-- What the steps of this crate say of one another: no public clause reaches it.
pub mod DecodedRows
pub mod Inner
pub mod PlainSubchunks
pub mod Writes
