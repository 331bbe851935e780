-- Sessions: Begin, Put and Close. Definitions only: the laws about them are in proofs/.
pub mod Session
