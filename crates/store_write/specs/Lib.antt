pub mod Writing
pub mod Saving
