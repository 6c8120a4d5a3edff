pub mod BothRows
pub mod PairedLemmas
pub mod RowParts
