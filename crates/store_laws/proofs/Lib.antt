pub mod Theorems
pub mod Copied
