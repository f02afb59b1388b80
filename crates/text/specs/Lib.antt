pub mod Letters
pub mod Numbers
pub mod Ranges
pub mod Hex
pub mod Parts
pub mod Same
pub mod Order
pub mod Writing
