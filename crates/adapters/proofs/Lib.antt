pub mod Adapters
pub mod Halves
pub mod Nearest
