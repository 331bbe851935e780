-- The numbers that the functions for C return. Definitions only: the laws about them are in proofs/.
pub mod Packed
