-- The laws that the proofs of this crate and those of the crates above cite. `Laws` is what a crate above needs of the ciphers.
pub mod Chain
pub mod BenchCards
pub mod Laws
