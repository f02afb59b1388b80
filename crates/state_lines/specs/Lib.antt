-- What a reader must believe: a state as a line, and that it can be resumed.
pub mod States
pub mod Laws
pub mod Inner
