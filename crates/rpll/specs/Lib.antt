-- What a reader must believe: the step and its refusals, and a block of steps.
pub mod Loops
pub mod Blocks
