-- What the contracts about arrays of sums say. Definitions only: the laws about them are in proofs/.
pub mod Adding
