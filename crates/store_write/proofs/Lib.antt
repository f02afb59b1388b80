pub mod Putting
pub mod Judging
pub mod Saved
