pub mod Lines
pub mod Runs
