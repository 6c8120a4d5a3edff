pub mod ArrayLaws
pub mod PartLaws
pub mod SameLaws
pub mod FillLaws
pub mod GridArrays
pub mod TakenLaws
