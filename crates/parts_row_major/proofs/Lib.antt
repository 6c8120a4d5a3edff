pub mod NumberingLaws
pub mod PointLaws
pub mod SubsetLaws
pub mod CountLaws
pub mod PieceLaws
pub mod RunLaws
pub mod RowLaws
