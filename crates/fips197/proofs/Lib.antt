-- The laws that the proofs of this crate, of the engines and of the crates above cite. `Laws` is what a crate above needs of the ciphers.
pub mod Kit
pub mod Xor
pub mod Table
pub mod Loop
pub mod TableRules
pub mod Mixing
pub mod States
pub mod Schedules
pub mod WordLaws
pub mod RoundTrip
pub mod Laws
