-- What a reader must believe: every call, and the retired adapters.
pub mod Calls
pub mod Retired
-- For a private function alone: the pass on lent cells.
pub mod Lent
