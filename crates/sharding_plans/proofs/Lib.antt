mod PutLemmas
mod PlanLemmas
pub mod AxesLemmas
mod FetchLemmas
mod PackLemmas
mod EncodeLemmas
mod WriteLemmas
mod StoredWriteLemmas
pub mod RoundingLemmas
mod ListedLemmas
