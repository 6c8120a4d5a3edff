pub mod CodecLaws
pub mod ReadLemmas
pub mod OverwriteLemmas
pub mod WholeArrayLaws
