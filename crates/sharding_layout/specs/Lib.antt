pub mod Offsets
pub mod Repacking
pub mod Rows
pub mod Layouts
pub mod CompactionPlans
pub mod steps
