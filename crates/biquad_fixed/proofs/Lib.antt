pub mod Wraps
pub mod Halves
pub mod Numbers
pub mod Shifts
pub mod Opening
pub mod Figures
