pub mod Inner
pub mod Lines
pub mod Sessions
pub mod Told
pub mod Seen
