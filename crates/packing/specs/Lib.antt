-- A message file built from items. Definitions only: the laws about them are in proofs/.
pub mod Packing
