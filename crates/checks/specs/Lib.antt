-- What the calls on whole messages refuse, and what holds where they do not. Definitions only: the laws about them are in proofs/.
pub mod Refused
pub mod Passed
