-- What a reader must believe: what the promises settle, what a run takes in and gives out, both ends of the range, the noise.
pub mod Settled
pub mod Totals
pub mod Ends
pub mod Shaping
