pub mod Names
pub mod Nibbles
pub mod Stores
pub mod Lines
pub mod Forms
pub mod Moves
pub mod Refusals
