-- What the contracts about planes say. Definitions only: the laws about them are in proofs/.
pub mod Table
pub mod Plane
pub mod Walk
