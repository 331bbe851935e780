-- What a whole run of a session comes to (`Running`), which sessions a run can give (`Reaching`), and the laws that the proofs of this
-- crate cite: the sums carried (`Carried`) and one step (`Stepping`).
pub mod Carried
pub mod Stepping
pub mod Running
pub mod Reaching
