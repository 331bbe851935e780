-- What the contracts about blocks and numbers say. Definitions only: the laws about them are in proofs/.
pub mod Block
pub mod Number
pub mod Double
pub mod Chain
