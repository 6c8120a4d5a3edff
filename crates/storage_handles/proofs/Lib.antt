pub mod HandleRows
pub mod HandleLaws
pub mod WriteLaws
