-- What the statements about test matrices say, in the order in which a reader wants it. Definitions only: the laws are in proofs/.
pub mod Count
pub mod Family
pub mod Sum
pub mod Report
pub mod Detection
pub mod Tally
pub mod Naming
pub mod Drift
