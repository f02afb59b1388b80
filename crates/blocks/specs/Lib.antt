-- What a reader must believe: refusals, steps in turn, and a one-to-one block call.
pub mod Refusals
pub mod Scan
pub mod Blocks
