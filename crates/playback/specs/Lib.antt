pub mod Inner
pub mod Places
pub mod Replays
