pub mod Ranges
pub mod Rounding
pub mod Coasting
pub mod Blocks
