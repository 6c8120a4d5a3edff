pub mod Types
pub mod ArraySpec
pub mod Arrays
pub mod Refusals
pub mod TargetLaws
pub mod Targets
