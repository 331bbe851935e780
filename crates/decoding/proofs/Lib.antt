-- The laws that the proofs of this crate cite.
pub mod Marks
pub mod Picking
pub mod Agreeing
pub mod Passes
