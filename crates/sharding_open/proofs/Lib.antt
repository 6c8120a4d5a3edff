pub mod OpenLemmas
pub mod SessionLemmas
pub mod PreparedLemmas
