-- What the contracts about polynomials say. Definitions only: the laws about them are in proofs/.
pub mod Polynomial
