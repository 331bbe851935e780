-- Decoding of an array of differences. Definitions only: the laws about them are in proofs/.
pub mod Decoding
