-- The keyed functions of the scheme. Definitions only: the laws about them are in proofs/.
pub mod Keyed
