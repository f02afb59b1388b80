pub mod Remainders
pub mod Reading
pub mod Sums
pub mod Sizes
pub mod Products
pub mod Floors
pub mod Std
