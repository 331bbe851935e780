-- What the contracts about the affine family say. Definitions only: the laws about them are in proofs/.
pub mod Field
pub mod Lines
pub mod Elimination
pub mod Affine
pub mod Walk
