pub mod Theorems
pub mod Recasts
