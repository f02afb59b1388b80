pub mod Arrays
pub mod Numbering
