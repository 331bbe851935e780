-- The calls of document 01 on whole messages, demand 3, and what replacements come to. Definitions only: the laws about them are in proofs/.
pub mod Calls
pub mod Claim
pub mod Starred
pub mod Replacements
