-- What a reader must believe: the step.
pub mod Loops
