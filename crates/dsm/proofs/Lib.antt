pub mod Chaining
pub mod Ranges
pub mod Combining
pub mod Shapes
pub mod Refusals
pub mod Running
pub mod Ways
pub mod Blocking
