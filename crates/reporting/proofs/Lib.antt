-- The laws that the proofs of this crate cite.
pub mod Reading
pub mod Texts
pub mod Detecting
