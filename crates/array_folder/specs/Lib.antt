pub mod Shown
pub mod Npy
