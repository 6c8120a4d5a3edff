pub mod Axes
pub mod Overlaps
pub mod Grid
pub mod Touched
pub mod Laws
pub mod SubsetRefusals
pub mod Selections
