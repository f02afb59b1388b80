pub mod Turning
pub mod Counting
pub mod Clamping
pub mod Scaling
