-- The laws that the proofs of this crate and those of the crates above cite. `Packed` and `Running` have the theorems.
pub mod Refusing
pub mod Packed
pub mod Writing
pub mod Running
