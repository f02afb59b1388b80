pub mod Sums
pub mod Staying
pub mod Splitting
pub mod Carrying
