-- The laws that the proofs of this crate and those of the crates above cite.
pub mod Behind
pub mod Decimals
pub mod CardLines
pub mod Lengths
