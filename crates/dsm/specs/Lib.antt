-- What a reader must believe: the step, and every call. What a run of them does: crate shaping.
pub mod Modulator
pub mod Calls
-- For private functions alone: the step's halves on lent cells, and the block's loop.
pub mod Cells
