pub mod StoredLemmas
pub mod PlaceLemmas
pub mod ReadLemmas
pub mod NumberedLemmas
pub mod UpdateLemmas
pub mod WriteLemmas
pub mod ProgressLemmas
pub mod PartLemmas
