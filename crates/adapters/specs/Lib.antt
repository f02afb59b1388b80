-- What a reader must believe: the adapters, a coefficient's bits and their law.
pub mod Adapters
pub mod Quantize
pub mod Nearest
