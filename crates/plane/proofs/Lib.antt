-- The laws about planes that the crates above cite.
pub mod Ranks
pub mod Cyclic
pub mod Rules
pub mod Planes
pub mod Lookup
pub mod Walks
