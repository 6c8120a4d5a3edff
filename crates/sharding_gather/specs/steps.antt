-- What the steps of this crate say of one another: no public clause reaches it.
pub mod Gathering
pub mod Grouping
pub mod OverlapRows
pub mod Placings
pub mod Sorting
pub mod SubchunkRows
