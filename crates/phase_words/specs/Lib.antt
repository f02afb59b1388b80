-- What a reader must believe: what the difference, the turn count and the scaling satisfy.
pub mod Phases
pub mod Scales
