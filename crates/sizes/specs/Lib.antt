-- What the contracts about size codes say. Definitions only: the laws about them are in proofs/.
pub mod Sizes
pub mod Cases
