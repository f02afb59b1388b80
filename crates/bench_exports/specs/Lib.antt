pub mod Fresh
pub mod Steps
