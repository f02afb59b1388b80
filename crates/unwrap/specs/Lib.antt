-- What a reader must believe: phase words, and the scaling.
pub mod Phases
pub mod Scales
