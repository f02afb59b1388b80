pub mod Turning
pub mod Counting
pub mod Scaling
