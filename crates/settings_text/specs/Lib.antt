pub mod Stores
pub mod Fields
pub mod Lines
pub mod Laws
pub mod Moves
