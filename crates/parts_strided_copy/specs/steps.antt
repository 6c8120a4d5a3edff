-- What the steps of this crate say of one another: no public clause reaches it.
pub mod Strided
