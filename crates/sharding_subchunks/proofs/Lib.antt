pub mod AppendLemmas
pub mod PlainRowLemmas
pub mod PlainSubchunkLemmas
pub mod TargetLemmas
mod OneCell
pub mod PlainLemmas
pub mod DecodedRowLemmas
pub mod WholeLemmas
pub mod PutLemmas
pub mod SubsetPutLemmas
pub mod ShardLemmas
