mod AxesLemmas
pub mod RowSetLaws
pub mod SetLaws
pub mod MissLaws
pub mod GridLaws
pub mod RangeLaws
pub mod OverlapLaws
pub mod SharedPointLaws
pub mod TouchedLaws
pub mod LocateLaws
pub mod FollowLaws
pub mod CoordinateLaws
pub mod SelectionLemmas
pub mod OneTouched
