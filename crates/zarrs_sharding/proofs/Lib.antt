pub mod ReadingLemmas
pub use Rattle.sharding_format.proofs.EncodeRefusals
mod ReshardLemmas
