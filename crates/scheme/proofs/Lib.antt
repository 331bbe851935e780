-- The laws that the proofs of this crate and those of the crates above cite.
pub mod Filing
pub mod Comparing
pub mod Unaltered
pub mod Claiming
pub mod Guarantees
pub mod Reloading
pub mod Drifting
pub mod Vacancies
pub mod StarredCards
pub mod FromSums
pub mod Replacing
pub mod Combining
