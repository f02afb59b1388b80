pub mod InPairs
pub mod Padded
