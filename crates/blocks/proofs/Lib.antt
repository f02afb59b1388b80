pub mod Turns
pub mod Chains
pub mod Ways
pub mod Refusals
pub mod Carried
