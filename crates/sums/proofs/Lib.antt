-- The laws that the proofs of this crate and those of the crates above cite.
pub mod Walking
pub mod Filling
