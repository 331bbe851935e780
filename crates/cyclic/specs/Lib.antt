-- What the contracts about a difference list and its row pattern say. Definitions only: the laws about them are in proofs/.
pub mod CyclicCode
pub mod Deriving
