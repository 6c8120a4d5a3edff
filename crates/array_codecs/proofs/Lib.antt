pub mod AxisOrderSteps
pub mod MovedRows
pub mod TransposeSteps
pub mod TransposedLists
pub mod ByteLists
pub mod ByteNames
pub mod Lengths
