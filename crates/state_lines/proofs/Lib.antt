pub mod Cells
pub mod Saving
