-- What the contracts of this crate and of the engines say, in the order in which a reader wants it. Definitions only: the laws about
-- them are in proofs/.
pub mod Block
pub mod Field
pub mod Aes
pub mod Words
