-- The laws that the proofs of this crate and those of the crates above cite.
pub mod Sizes
pub mod Raising
pub mod Dividing
pub mod Acting
pub mod Lessening
pub mod Euclid
pub mod Division
pub mod Recurring
