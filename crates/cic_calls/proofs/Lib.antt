-- Kept: what a decimator's step leaves by what it gives; Handed: a call's promise from that of the call of the same name.
pub mod Kept
pub mod Handed
