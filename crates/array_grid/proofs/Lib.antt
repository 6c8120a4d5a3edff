pub mod RoundingLemmas
pub mod PutLemmas
pub mod PartLemmas
pub mod PickLemmas
