pub mod Ways
pub mod Known
pub mod Blocks
pub mod Places
