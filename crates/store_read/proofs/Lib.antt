pub mod Parts
pub mod Counting
pub mod Ends
pub mod Turns
