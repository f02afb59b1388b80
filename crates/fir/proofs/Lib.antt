-- In reading order. Weighing, Taps: the rule. Summing, Standing, Turns: the code's loops and calls. Equal: the theorems.
pub mod Weighing
pub mod Taps
pub mod Summing
pub mod Standing
pub mod Turns
pub mod Equal
