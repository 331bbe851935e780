-- The laws that the proofs of the engine cite.
pub mod TableRules
pub mod Joining
pub mod KeyLaws
