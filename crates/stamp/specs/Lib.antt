-- What both files begin with. Definitions only: the laws about them are in proofs/.
pub mod Front
