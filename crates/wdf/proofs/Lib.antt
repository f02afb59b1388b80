pub mod Nibbles
pub mod Passes
pub mod Steps
pub mod Filters
pub mod Retired
pub mod Chains
pub mod Making
