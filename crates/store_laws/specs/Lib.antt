-- What a reader must believe: what holds of reading and writing together.
pub mod Laws
