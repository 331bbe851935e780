-- The two files and what is refused of them. Definitions only: the laws about them are in proofs/.
pub mod Refusals
pub mod Message
pub mod TagFile
pub mod Arguments
