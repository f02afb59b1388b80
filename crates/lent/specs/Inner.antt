-- What the contracts of private functions cite, beside sums' proofs/Lent, Stretches and Rings.
pub mod Apart
