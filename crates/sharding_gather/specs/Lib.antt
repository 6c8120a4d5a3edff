pub mod Updates
pub mod SubchunkOverlaps
pub mod steps
