-- The laws that the proofs of this crate cite.
pub mod Lengths
pub mod Reading
pub mod Placing
