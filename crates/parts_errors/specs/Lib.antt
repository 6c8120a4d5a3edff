pub mod Order
pub mod Words
pub mod Errors
