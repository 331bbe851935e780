-- What the command for people computes: a number typed as a word, the lines that it prints, the name of a file that is not whole yet, and
-- what it says of a card that is packed. Definitions only: the laws about them are in proofs/.
pub mod Numbers
pub mod Said
pub mod Packing
