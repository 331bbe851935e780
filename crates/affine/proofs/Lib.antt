-- The laws about the affine family. What the crates above cite is in `Affines`; the counts and the rule of the tags, which they do not need,
-- are `tag_count` in Tables and `tags_by_rule` in Tagging.
pub mod FieldLaws
pub mod Computing
pub mod Counts
pub mod Meeting
pub mod Disjunct
pub mod Listings
pub mod Along
pub mod Walks
pub mod Steps
pub mod Sets
pub mod Eliminating
pub mod Tagging
pub mod Eliminated
pub mod Tables
pub mod Affines
