pub mod CodeLemmas
pub mod ListLemmas
pub mod ReachLemmas
pub mod RepackingLemmas
mod OffsetLemmas
mod PlanLemmas
pub mod PlannedLemmas
pub mod EndLemmas
pub mod StoringLemmas
pub mod RunLemmas
