-- Text as ASCII bytes, and the lines that the programs print. Definitions only: the laws about them are in proofs/.
pub mod Text
pub mod Lines
