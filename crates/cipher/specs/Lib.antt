-- What the contracts of this crate say, in the order in which a reader wants it. Definitions only: the laws about them are in proofs/.
pub mod Aes
pub mod Cmac
