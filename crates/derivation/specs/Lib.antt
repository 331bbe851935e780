-- Where the row patterns come from, and that none is shorter. Definitions only: the theorems are in proofs/.
pub mod Shortest
pub mod Derived
pub mod Lines
