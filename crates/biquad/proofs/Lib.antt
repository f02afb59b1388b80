pub mod Exact
pub mod Adding
pub mod Constants
pub mod ConstantBlocks
pub mod Clamping
pub mod Steps
pub mod Cases
