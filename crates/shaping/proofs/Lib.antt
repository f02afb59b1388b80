pub mod Settled
pub mod Balance
pub mod Totals
pub mod Ends
pub mod Stages
pub mod Tracking
pub mod Shaping
