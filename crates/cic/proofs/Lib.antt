pub mod Ways
pub mod InTurn
pub mod Making
