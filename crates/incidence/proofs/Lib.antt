-- The laws about test matrices that the crates above cite.
pub mod Booleans
pub mod Counting
pub mod Listing
pub mod Parity
pub mod Pigeonhole
pub mod Sums
pub mod Reports
pub mod Covering
pub mod Detection
pub mod Rejects
pub mod Rowwise
pub mod Walking
pub mod Tallying
pub mod Drifting
pub mod Differences
